-- A table of words in memory: sorted kinds, the ranges of each length, and the text of the words.
use Rattle.std.specs.Prelude.{◌≡◌, ℕ, ◌+◌, ◌-◌, ◌*◌, ◌<◌, ◌≤◌, List, [], All, AllPairs, map, length, slice_range, slice_index, slice_index_or}
use Rattle.std.specs.declared.cmp.Ordering.TheVariants.{Less}
use Rattle.std.specs.List.Sorted.{IsNonDecreasing}
use Rattle.std.specs.Str.{str_to_ascii_lowercase}
use Rattle.squawk_names.specs.Texts.{texts}
use Rattle.squawk_names.specs.declared.TheConstants.{COUNT}
use Rattle.squawk_kinds.specs.declared.SyntaxKind.{SyntaxKind}
use Rattle.squawk_words.specs.Words.{keywords, contextual_keywords, word_cmp}
use Rattle.squawk_words.specs.declared.tables.Table.{Table}
use Rattle.squawk_words.specs.declared.tables.Table.TheVariants.{Keywords, ContextualKeywords}

-- the printed text of a kind without its first and its last byte: the word of a keyword, which
-- prints between backquotes
abbrev pub word_of : SyntaxKind → List ℕ
word_of kind = let text = slice_index_or texts kind [] in slice_range text 1 (length text - 1)

-- kinds with their words
abbrev pub pairs_of : List SyntaxKind → List (List ℕ × SyntaxKind)
pairs_of kinds = map (λ kind. (word_of kind, kind)) kinds

-- the words of a table
abbrev pub pairs_in : Table → List (List ℕ × SyntaxKind)
pairs_in Keywords = keywords
pairs_in ContextualKeywords = contextual_keywords

-- the other table
abbrev pub other_than : Table → Table
other_than Keywords = ContextualKeywords
other_than ContextualKeywords = Keywords

-- the index lies in the range of the words of this length, which is between two of `starts`
pub record IsInRange (starts : List ℕ) (size index : ℕ) : Type 0 where
  pub listed : size + 1 < length starts
  pub low : slice_index starts size ≤ index
  pub high : index < slice_index starts (size + 1)

-- the kinds are sorted by their words, which are lowercase, and `starts` has the index of the first
-- word of each length from 0 on
pub record IsWordTable (kinds starts : List ℕ) : Type 0 where
  pub numbers : All (λ kind. kind < COUNT) kinds
  pub lowercase : All (λ kind. str_to_ascii_lowercase (word_of kind) ≡ word_of kind) kinds
  pub sorted : AllPairs (λ a b. word_cmp (word_of a) (word_of b) ≡ Less) kinds
  pub starts_sorted : IsNonDecreasing starts
  pub starts_within : All (λ start. start ≤ length kinds) starts
  pub ranges : (index d : ℕ) → index < length kinds
      → IsInRange starts (length (word_of (slice_index_or kinds index d))) index

-- the offset of the word at an index: its length has an offset of its own, and each word of this
-- length before it takes its bytes and one more
abbrev pub word_start : List ℕ → List ℕ → ℕ → ℕ → ℕ
word_start starts offsets size index =
    slice_index offsets size + (index - slice_index starts size) * (size + 1)

-- the text has this word at the offset of the word at this index
pub record IsSpelledAt (starts text offsets word : List ℕ) (index : ℕ) : Type 0 where
  pub has_offset : length word < length offsets
  pub has_start : length word < length starts
  pub low : slice_index starts (length word) ≤ index
  pub within : word_start starts offsets (length word) index + length word ≤ length text
  pub word_is : slice_range text (word_start starts offsets (length word) index)
      (word_start starts offsets (length word) index + length word) ≡ word

-- the text has the word of each kind at the word's offset
pub record IsSpelled (kinds starts text offsets : List ℕ) : Type 0 where
  pub each : (index d : ℕ) → index < length kinds
      → IsSpelledAt starts text offsets (word_of (slice_index_or kinds index d)) index
