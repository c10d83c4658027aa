-- The token counts of an edit. They compare the tokens of two whole texts.
use Rattle.std.specs.Prelude.{ℕ, ◌+◌, ◌-◌, ◌&&◌, not, nat_lt, Bool, List, length, Option}
use Rattle.std.specs.List.{count_by, find, position_or_len}
use Rattle.squawk_lexer.specs.Cut.{token_ends}
use Rattle.squawk_lexer.specs.declared.token.Token.{Token}
use Rattle.squawk_cut.specs.Tells.{Tells}
use Rattle.squawk_cut.specs.Tokens.{tokens_of}
use Rattle.squawk_document.specs.Boundaries.{has_two_before, is_boundary, new_offset, splice}
use Rattle.squawk_document.specs.declared.edited.TokenCounts.{TokenCounts}

-- the number of front tokens: old tokens with at least two characters between their end and start
abbrev pub front_tokens : List ℕ → ℕ → List Token → ℕ
front_tokens text start old = count_by (has_two_before text start) (token_ends 0 old)

-- whether the texts may meet at an old offset: it is at or past end and above 0, and its new offset
-- is above 0 and a boundary of the new text
abbrev pub is_meeting : ℕ → ℕ → List ℕ → List Token → ℕ → Bool
is_meeting start end new new_tokens p =
    (not (nat_lt p end) && nat_lt 0 p)
    && (nat_lt 0 (new_offset start end new p)
    && is_boundary new_tokens (new_offset start end new p))

-- the meeting: the first old boundary at which the texts may meet
abbrev pub meeting : ℕ → ℕ → List ℕ → List Token → List Token → Option ℕ
meeting start end new old new_tokens =
    find (is_meeting start end new new_tokens) (token_ends 0 old)

-- the number of back tokens: old tokens after the meeting
abbrev pub back_tokens : ℕ → ℕ → List ℕ → List Token → List Token → ℕ
back_tokens start end new old new_tokens =
    length old - (position_or_len (is_meeting start end new new_tokens) (token_ends 0 old) + 1)

-- the counts of front, cut and back tokens; the cut tokens are the new tokens between the others
abbrev pub token_counts_of : Tells → List ℕ → ℕ → ℕ → List ℕ → TokenCounts
token_counts_of t text start end new =
    let old = tokens_of t text in
    let new_tokens = tokens_of t (splice text start end new) in
    let front = front_tokens text start old in
    let back = back_tokens start end new old new_tokens in
    record {
      front_tokens = front;
      cut_tokens = length new_tokens - front - back;
      back_tokens = back;
    }
