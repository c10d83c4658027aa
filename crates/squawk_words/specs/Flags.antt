-- The table of flags: membership in the sets as one bit of each kind for each set.
use Rattle.std.specs.Prelude.{◌≡◌, ◌<◌, ℕ, List, length, slice_index, All, Contains, ◌↔◌}
use Rattle.std.specs.Int.{bit_at}
use Rattle.squawk_words.specs.Members.{members_of}
use Rattle.squawk_words.specs.declared.sets.Set.{Set}
use Rattle.squawk_words.specs.declared.sets.Set.TheVariants.{Punctuation, Operators, ContextualKeywords, ColumnOrTableKeywords, TypeKeywords, ColNameKeywordFirst, TypeFuncNameKeywords, AllKeywords, BareLabelKeywords, UnreservedKeywords, ReservedKeywords, PlpgsqlReservedKeywords, PlpgsqlReservedContextualKeywords}

-- the number of a set's bit
abbrev pub bit_of : Set → ℕ
bit_of Punctuation = 0
bit_of Operators = 1
bit_of ContextualKeywords = 2
bit_of ColumnOrTableKeywords = 3
bit_of TypeKeywords = 4
bit_of ColNameKeywordFirst = 5
bit_of TypeFuncNameKeywords = 6
bit_of AllKeywords = 7
bit_of BareLabelKeywords = 8
bit_of UnreservedKeywords = 9
bit_of ReservedKeywords = 10
bit_of PlpgsqlReservedKeywords = 11
bit_of PlpgsqlReservedContextualKeywords = 12

-- the bit of a set is 1 exactly at the set's members, and the table reaches to the last member
pub record HasFlags (flags : List ℕ) : Type 0 where
  pub each : (set : Set) (kind : ℕ) → kind < length flags
      → (bit_at (slice_index flags kind) (bit_of set) ≡ 1) ↔ Contains (members_of set) kind
  pub within : (set : Set) → All (λ kind. kind < length flags) (members_of set)
