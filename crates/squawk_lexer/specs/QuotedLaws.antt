-- Quoted texts as sequences of items, and runs of digits.
use Rattle.std.specs.Prelude.{◌≡◌, ◌≢◌, ℕ, ◌+◌, ◌<◌, ◌≤◌, Bool, true, false, ◌&&◌, ◌||◌, ◌==◌, List, ◌∷◌, length, slice_get, slice_index, Some}
use Rattle.squawk_lexer.specs.Classes.{backslash, underscore}
use Rattle.squawk_lexer.specs.Quoted.{quoted_len}
use Rattle.squawk_lexer.specs.Runs.{digits_len}

-- The first n characters of what follows an opening quote q are whole items: two q in a row, with
-- `escapes` a backslash and the character after it, or any other character but q.
pub data IsItems (escapes : Bool) (q : ℕ) : List ℕ → ℕ → Type 0 where
  NoItem : (cs : List ℕ) → IsItems escapes q cs 0
  TwoQuotes : (c d : ℕ) (cs : List ℕ) (n : ℕ) → (c == q) ≡ true → (d == q) ≡ true
      → IsItems escapes q cs n → IsItems escapes q (c ∷ d ∷ cs) (2 + n)
  Escaped : (c d : ℕ) (cs : List ℕ) (n : ℕ) → (c == q) ≡ false → (escapes && c == backslash) ≡ true
      → IsItems escapes q cs n → IsItems escapes q (c ∷ d ∷ cs) (2 + n)
  OneItem : (c : ℕ) (cs : List ℕ) (n : ℕ) → (c == q) ≡ false → (escapes && c == backslash) ≡ false
      → IsItems escapes q cs n → IsItems escapes q (c ∷ cs) (1 + n)

-- A quoted text is closed by a q that comes after whole items and that no second q follows.
abbrev pub QuotedEndsFirst : Type 0
QuotedEndsFirst = (escapes : Bool) (q : ℕ) (cs : List ℕ) (n : ℕ) → quoted_len escapes q cs ≡ Some n
    → (m : ℕ) × (n ≡ m + 1) × IsItems escapes q cs m × (slice_get cs m ≡ Some q)
    × (slice_get cs (m + 1) ≢ Some q)

-- Where there is such a q, it closes the text.
abbrev pub QuotedEndIsUnique : Type 0
QuotedEndIsUnique = (escapes : Bool) (q : ℕ) (cs : List ℕ) (m : ℕ) → IsItems escapes q cs m
    → slice_get cs m ≡ Some q → slice_get cs (m + 1) ≢ Some q
    → quoted_len escapes q cs ≡ Some (m + 1)

-- ---- digits

-- Whether the character at index k is a digit, or a `_` directly before one.
abbrev pub is_digit_at : (ℕ → Bool) → List ℕ → ℕ → Bool
is_digit_at digit u k = digit (slice_index u k)
    || (slice_index u k == underscore && digit (slice_index u (k + 1)))

-- The first n characters are digits or `_` directly before one, and the next one, if any, is not.
pub record IsDigitRun (digit : ℕ → Bool) (u : List ℕ) (n : ℕ) : Type 0 where
  pub within : n ≤ length u
  pub all : (k : ℕ) → k < n → is_digit_at digit u k ≡ true
  pub stops : n < length u → is_digit_at digit u n ≡ false

-- `digits_len` is the length of the longest such run.
abbrev pub DigitsAreLongest : Type 0
DigitsAreLongest = (digit : ℕ → Bool) (u : List ℕ) → IsDigitRun digit u (digits_len digit u)
