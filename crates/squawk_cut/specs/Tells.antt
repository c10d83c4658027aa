-- What a front tells, and its laws.
use Rattle.std.specs.Prelude.{ℕ, ◌≡◌, ◌+◌, ◌-◌, ◌^◌, ◌<◌, ◌≤◌, min, Bool, IsTrue, List, [], ◌∷◌, ◌++◌, length, take}
use Rattle.std.specs.Str.{IsCharBoundary, IsUtf8, chars}
use Rattle.squawk_cut.specs.ChildValue.{ChildValue}
use Rattle.squawk_lexer.specs.declared.token.Token.{Token}

-- a count plus one, saturating at the largest `u64`
abbrev pub next_count : ℕ → ℕ
next_count n = min (n + 1) (2 ^ 64 - 1)

-- a token with its text
pub record TextToken : Type 0 where
  pub token : Token
  pub text : List ℕ

-- the first token of a text that is not empty, where the flag says that the whole text begins
-- there, and the first child of a list of tokens that is not empty
pub record Tells : Type 0 where
  pub token_at : Bool → List ℕ → Token
  pub child_at : List TextToken → ChildValue

-- the length of tokens in bytes
abbrev pub text_token_bytes : List TextToken → ℕ
text_token_bytes [] = 0
text_token_bytes (x ∷ xs) = x.token.len + text_token_bytes xs

-- the text has at least two characters
abbrev pub HasTwo : List ℕ → Type 0
HasTwo text = 2 ≤ length (chars text)

-- A token has at least one byte and ends at a character boundary; it is decided by its characters
-- and the two after it. A child has at least one token and no more than there are, and their bytes;
-- a closed child is decided by its own tokens.
pub record IsLawful (t : Tells) : Type 0 where
  pub some : (start : Bool) (text : List ℕ) → IsUtf8 text → 0 < length text
      → 0 < (t.token_at start text).len
  pub within : (start : Bool) (text : List ℕ) → IsUtf8 text → 0 < length text
      → IsCharBoundary text (t.token_at start text).len
  pub looks : (start : Bool) (token two rest other : List ℕ)
      → IsUtf8 token → IsUtf8 two → IsUtf8 rest → IsUtf8 other → HasTwo two
      → (t.token_at start (token ++ (two ++ rest))).len ≡ length token
      → t.token_at start (token ++ (two ++ other)) ≡ t.token_at start (token ++ (two ++ rest))
  pub child_some : (xs : List TextToken) → 0 < length xs → 0 < (t.child_at xs).tokens
  pub child_within : (xs : List TextToken) → 0 < length xs → (t.child_at xs).tokens ≤ length xs
  pub child_bytes : (xs : List TextToken) → 0 < length xs
      → (t.child_at xs).bytes ≡ text_token_bytes (take (t.child_at xs).tokens xs)
  pub stays : (child rest other : List TextToken) → IsTrue (t.child_at (child ++ rest)).closed
      → (t.child_at (child ++ rest)).tokens ≡ length child
      → t.child_at (child ++ other) ≡ t.child_at (child ++ rest)
