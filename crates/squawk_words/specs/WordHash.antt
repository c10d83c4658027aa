-- The slots of words: a perfect hash of the length and five letters, as `src/slots.rt` says.
use Rattle.std.specs.Prelude.{◌≡◌, ℕ, ◌+◌, ◌-◌, ◌*◌, ◌/◌, ◌%◌, ◌<◌, ◌≤◌, List, All, length, slice_index, slice_index_or}
use Rattle.squawk_words.specs.WordTable.{word_of}

-- the number of a letter: its place in the alphabet, in uppercase and lowercase alike
abbrev pub letter_at : List ℕ → ℕ → ℕ
letter_at text index = slice_index text index % 32

-- the second, the middle and the last two letters, each times its factor
abbrev pub letter_sum : List ℕ → ℕ
letter_sum text =
    letter_at text 1 + 7 * letter_at text (length text / 2)
    + 5 * (letter_at text (length text - 2) + letter_at text (length text - 1))

-- the slot of a text: the start of its length and first letter, and the sum of the other letters
unfoldable pub slot_of : List ℕ → List ℕ → ℕ
slot_of slot_starts text =
    slice_index slot_starts (length text * 32 + letter_at text 0) + letter_sum text % 128

-- each start has 128 slots after it, there are starts for every length that a table has, no word is
-- shorter than two letters, and the slot of each word has its index
pub record HasSlots (kinds starts slot_starts slots : List ℕ) : Type 0 where
  pub rows : length starts * 32 ≤ length slot_starts + 32
  pub within : All (λ start. start + 128 ≤ length slots) slot_starts
  pub long : All (λ kind. 2 ≤ length (word_of kind)) kinds
  pub each : (index d : ℕ) → index < length kinds
      → slice_index slots (slot_of slot_starts (word_of (slice_index_or kinds index d))) ≡ index
