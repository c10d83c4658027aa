-- The decimal digits of numbers as bytes, packed in integers.
use Rattle.std.specs.Prelude.{ℕ, ◌≡◌, ◌+◌, ◌-◌, ◌<◌, ◌≤◌, ◌/◌, ◌%◌, List, [], ◌∷◌, ◌++◌, length, take, decimal, slice_index}
use Rattle.std.specs.Int.{w32, w64, to_le_bytes}
use Rattle.squawk_lexer.specs.Classes.{digit_0}

-- the four bytes of a `u32`, the lowest first
abbrev pub u32_bytes : ℕ → List ℕ
u32_bytes packed = to_le_bytes w32 packed

-- the eight bytes of a `u64`, the lowest first
abbrev pub u64_bytes : ℕ → List ℕ
u64_bytes packed = to_le_bytes w64 packed

-- the last four digits of a number, with leading zeros
abbrev pub last_four_digits : ℕ → List ℕ
last_four_digits n =
    (digit_0 + n / 1000 % 10) ∷ (digit_0 + n / 100 % 10) ∷ (digit_0 + n / 10 % 10)
    ∷ (digit_0 + n % 10) ∷ []

-- the packed bytes start with all digits of a number
abbrev pub StartsWithDigits : ℕ → ℕ → Type 0
StartsWithDigits n packed = take (length (decimal n)) (u32_bytes packed) ≡ decimal n

-- the packed bytes are the last four digits of a number
abbrev pub IsLastFourDigits : ℕ → ℕ → Type 0
IsLastFourDigits n packed = u32_bytes packed ≡ last_four_digits n

-- a table with an entry for each number below a bound, and `Is` relates the number to its entry
pub record IsTable (Is : ℕ → ℕ → Type 0) (bound : ℕ) (entries : List ℕ) : Type 0 where
  pub counted : length entries ≡ bound
  pub each : (n : ℕ) → n < bound → Is n (slice_index entries n)

-- the table of leading digits: entry n starts with all digits of n
abbrev pub IsLeadingTable : ℕ → List ℕ → Type 0
IsLeadingTable bound entries = IsTable StartsWithDigits bound entries

-- the table of trailing digits: entry n is the last four digits of n
abbrev pub IsTrailingTable : ℕ → List ℕ → Type 0
IsTrailingTable bound entries = IsTable IsLastFourDigits bound entries

-- the first `width` of eight packed bytes are all digits of a number of at most six
pub record StartsPacked (number packed width : ℕ) : Type 0 where
  pub narrow : width ≤ 6
  pub written : take width (u64_bytes packed) ≡ decimal number

-- the digits of a number in two packed groups: `width` bytes of the upper, and then bytes of the
-- lower up to `len` bytes in all
pub record DigitGroups : Type 0 where
  pub upper : ℕ
  pub lower : ℕ
  pub width : ℕ
  pub len : ℕ

-- the groups spell a number of at most ten digits
pub record SpellsNumber (number : ℕ) (groups : DigitGroups) : Type 0 where
  pub narrow : groups.width ≤ 6
  pub ordered : groups.width ≤ groups.len
  pub short : groups.len ≤ groups.width + 4
  pub written : take groups.width (u64_bytes groups.upper)
      ++ take (groups.len - groups.width) (u32_bytes groups.lower) ≡ decimal number

-- `high` is 0, or what all digits of a number but the last four spell, and these are in the upper
-- group
abbrev pub SpellsUpper : (number high : ℕ) → DigitGroups → Type 0
SpellsUpper number high groups = 0 < high → (high ≡ number / 10000)
    × StartsPacked high groups.upper groups.width × (groups.len ≡ groups.width + 4)
