-- What a run of cuts returns: tokens from an offset on, up to the meeting.
use Rattle.std.specs.Prelude.{ℕ, ◌≡◌, ◌+◌, ◌-◌, ◌<◌, ◌≤◌, ◌==◌, ◌&&◌, not, nat_lt, Bool, false, List, [], ◌∷◌, ◌++◌, length, take, drop}
use Rattle.std.specs.List.{list_any}
use Rattle.std.specs.Option.{MatchOption}
use Rattle.std.specs.Str.{IsCharBoundary}
use Rattle.std.specs.declared.option.Option.{Option}
use Rattle.squawk_lexer.specs.Cut.{token_ends}
use Rattle.squawk_lexer.specs.declared.token.Token.{Token}
use Rattle.squawk_cut.specs.Tells.{Tells}
use Rattle.squawk_cut.specs.Tokens.{tokens_from}
use Rattle.squawk_document.specs.Boundaries.{total_len, is_boundary}
use Rattle.squawk_document.specs.declared.skip.Position.{Position}

-- whether the texts may meet at an offset of the new text: it is at or past new_end, where the new
-- bytes end, and its old offset is above 0 and a boundary of the old text
abbrev pub is_new_meeting : ℕ → ℕ → List Token → ℕ → Bool
is_new_meeting new_end end old p = not (nat_lt p new_end)
    && (nat_lt 0 (p - new_end + end) && is_boundary old (p - new_end + end))

-- the tokens from the offset `restart` on are these so far, and then those from `at` on; the texts
-- do not meet at an end of one of these
pub record IsCutSoFar (t : Tells) (text : List ℕ) (old : List Token) (restart new_end end : ℕ)
    (fresh_tokens : List Token) (at : ℕ) : Type 0 where
  pub tokens : tokens_from t 0 (restart == 0) (drop restart text)
      ≡ fresh_tokens ++ tokens_from t 0 (at == 0) (drop at text)
  pub offset : at ≡ restart + total_len fresh_tokens
  pub boundary : IsCharBoundary text at
  pub none_meets :
      list_any (is_new_meeting new_end end old) (token_ends restart fresh_tokens) ≡ false

-- the texts meet at the end of the last token and not before it, and in the old text the tokens
-- from the index `next` on follow there
pub record EndsAtMeeting (t : Tells) (text : List ℕ) (old : List Token) (restart new_end end : ℕ)
    (fresh_tokens : List Token) (next : ℕ) : Type 0 where
  pub before : List Token
  pub last : Token
  pub parts : fresh_tokens ≡ before ++ last ∷ []
  pub none_meets : list_any (is_new_meeting new_end end old) (token_ends restart before) ≡ false
  pub tokens : tokens_from t 0 (restart == 0) (drop restart text)
      ≡ fresh_tokens ++ tokens_from t 0 false (drop (restart + total_len fresh_tokens) text)
  pub low : new_end ≤ restart + total_len fresh_tokens
  pub within : next ≤ length old
  pub offset : total_len (take next old) ≡ restart + total_len fresh_tokens - new_end + end
  pub some : 0 < total_len (take next old)

-- these are all tokens from the offset `restart` on, and the texts do not meet at an end of one
pub record MeetsNowhere (t : Tells) (text : List ℕ) (old : List Token) (restart new_end end : ℕ)
    (fresh_tokens : List Token) : Type 0 where
  pub tokens : tokens_from t 0 (restart == 0) (drop restart text) ≡ fresh_tokens
  pub none_meets :
      list_any (is_new_meeting new_end end old) (token_ends restart fresh_tokens) ≡ false

-- the tokens from the offset `restart` on, up to the meeting if there is one; the position is that
-- of the old token after it
abbrev pub IsRecut : Tells → List ℕ → List Token → ℕ → ℕ → ℕ → List Token → Option Position → Type 0
IsRecut t text old restart new_end end fresh_tokens meeting = MatchOption meeting
    (MeetsNowhere t text old restart new_end end fresh_tokens)
    (λ p. EndsAtMeeting t text old restart new_end end fresh_tokens p.index)
