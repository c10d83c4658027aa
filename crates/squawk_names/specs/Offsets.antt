-- The table of the offsets of lines.
use Rattle.std.specs.Prelude.{◌≡◌, ℕ, ◌+◌, ◌-◌, ◌<◌, ◌≤◌, List, length, slice_index, slice_range, slice_index_or, []}
use Rattle.std.specs.Str.{IsAscii}

-- the text with this number, of at most 39 bytes, lies between its own offset in `starts` and the
-- line feed before the next one
pub record IsLine (starts bytes : List ℕ) (number : ℕ) (text : List ℕ) : Type 0 where
  pub listed : number + 1 < length starts
  pub ordered : slice_index starts number < slice_index starts (number + 1)
  pub within : slice_index starts (number + 1) ≤ length bytes
  pub short : length text ≤ 39
  pub text_is : slice_range bytes (slice_index starts number) (slice_index starts (number + 1) - 1)
      ≡ text

-- `starts` has the offset in `bytes` of each of the texts
pub record IsOffsets (starts bytes : List ℕ) (ts : List (List ℕ)) (count : ℕ) : Type 0 where
  pub ascii : IsAscii bytes
  pub len : length ts ≡ count
  pub each : (number : ℕ) → number < count
      → IsLine starts bytes number (slice_index_or ts number [])

-- the first text has less than 4 bytes before it, and the second has 4; text 2064 has 60 bytes from
-- its offset on, and the next one has less
pub record HasWindows (starts bytes : List ℕ) : Type 0 where
  pub first : slice_index starts 0 < 4
  pub second : 4 ≤ slice_index starts 1
  pub last : slice_index starts 2064 + 60 ≤ length bytes
  pub past : length bytes < slice_index starts 2065 + 60
