-- First bytes of characters in UTF-8, and tables of bytes. A byte below 128 is an ASCII character by
-- itself.
use Rattle.std.specs.Prelude.{◌≡◌, ℕ, ◌+◌, ◌<◌, ◌==◌, ◌||◌, nat_lt, not, if◌then◌else◌, List, length, slice_index}
use Rattle.std.specs.Int.{w64, trailing_zeros}
use Rattle.std.specs.Char.{encode_utf8}
use Rattle.squawk_lexer.specs.Classes.{is_ident_cont, is_blank, comma, open_bracket, close_bracket}
use Rattle.squawk_lexer.specs.PsqlParts.{is_psql_quote, ends_arguments}

-- A table of 256 entries, one for each byte, has an entry other than `,` exactly at the bytes that
-- continue an identifier (`is_ident_cont`).
pub record HasIdentCont (table : List ℕ) : Type 0 where
  pub len : length table ≡ 256
  pub each : (b : ℕ) → b < 256 → not (slice_index table b == comma) ≡ is_ident_cont b

-- A table of 256 entries has `,` exactly at blanks, `[` at the bytes that open a quote in psql's
-- arguments, `]` at those that end the arguments, and an entry below `[` exactly at all bytes but
-- those that open a quote or end the arguments.
pub record HasArgumentBytes (table : List ℕ) : Type 0 where
  pub len : length table ≡ 256
  pub blanks : (b : ℕ) → b < 256 → (slice_index table b == comma) ≡ is_blank b
  pub quotes : (b : ℕ) → b < 256 → (slice_index table b == open_bracket) ≡ is_psql_quote b
  pub ends : (b : ℕ) → b < 256 → (slice_index table b == close_bracket) ≡ ends_arguments b
  pub skipped : (b : ℕ) → b < 256
      → nat_lt (slice_index table b) open_bracket ≡ not (is_psql_quote b || ends_arguments b)

-- The first byte of the UTF-8 encoding of c: c itself where c is ASCII.
unfoldable pub first_byte : ℕ → ℕ
first_byte c = slice_index (encode_utf8 c) 0

-- The n characters of u from index i on are ASCII.
abbrev pub IsAsciiRun : List ℕ → ℕ → ℕ → Type 0
IsAsciiRun u i n = (k : ℕ) → k < n → slice_index u (i + k) < 128

-- The number of bits before the lowest set bit of a mask, or n if none is set.
abbrev pub first_set : ℕ → ℕ → ℕ
first_set n mask = if mask == 0 then n else trailing_zeros w64 mask
