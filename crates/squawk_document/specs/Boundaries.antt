-- Where tokens end, and what an edit makes of a text and its offsets.
use Rattle.std.specs.Prelude.{◌≤◌, ℕ, ◌+◌, ◌-◌, ◌==◌, ◌||◌, not, nat_lt, Bool, List, [], ◌∷◌, ◌++◌, length, take, drop}
use Rattle.std.specs.List.{list_any}
use Rattle.std.specs.Str.{chars, IsCharBoundary}
use Rattle.squawk_lexer.specs.Cut.{token_ends}
use Rattle.squawk_lexer.specs.declared.token.Token.{Token}

-- the bytes of tokens
abbrev pub total_len : List Token → ℕ
total_len [] = 0
total_len (t ∷ ts) = t.len + total_len ts

-- whether an offset is among these
abbrev pub is_among : List ℕ → ℕ → Bool
is_among offsets p = list_any (λ q. q == p) offsets

-- whether an offset is a boundary: 0 or the end of a token
abbrev pub is_boundary : List Token → ℕ → Bool
is_boundary tokens p = p == 0 || is_among (token_ends 0 tokens) p

-- the text in which the bytes from start to end are replaced
abbrev pub splice : List ℕ → ℕ → ℕ → List ℕ → List ℕ
splice text start end new = take start text ++ (new ++ drop end text)

-- the offset in the new text of an offset of the old text that is at or past end
abbrev pub new_offset : ℕ → ℕ → List ℕ → ℕ → ℕ
new_offset start end new p = p - end + start + length new

-- whether at least two characters lie between an offset and start
abbrev pub has_two_before : List ℕ → ℕ → ℕ → Bool
has_two_before text start p = not (nat_lt (length (chars (drop p (take start text)))) 2)

-- a range of a text: it does not end before its start, and both ends are character boundaries
pub record IsRange (text : List ℕ) (start end : ℕ) : Type 0 where
  pub ordered : start ≤ end
  pub starts : IsCharBoundary text start
  pub ends_at : IsCharBoundary text end
