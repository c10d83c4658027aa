-- Tests that the slots of a table have the indices of its words, and what they prove.
use Rattle.std.proofs.Common.{◌≡◌, ℕ, zero, suc, ◌+◌, ◌*◌, ◌<◌, Bool, true, ◌&&◌, nat_eq, nat_le, eqb-true, leb-true, List, [], ◌∷◌, length, get_or, slice_index, ◌∙◌, arith, le_of_suc-le-suc, not-suc-le-zero}
use Rattle.std.specs.List.{list_all}
use Rattle.std.proofs.lemmas.Bool.{and_parts}
use Rattle.std.proofs.lemmas.List.Sums.{AllPass-from_list_all}
use Rattle.squawk_words.specs.WordHash.{HasSlots, slot_of}
use Rattle.squawk_words.specs.WordTable.{word_of}

module _ (slot_starts slots : List ℕ) where
  -- the slots of the words of the kinds have the indices from `index` on
  unfoldable pub are_in_slots : ℕ → List ℕ → Bool
  are_in_slots index [] = true
  are_in_slots index (kind ∷ kinds) =
      nat_eq (slice_index slots (slot_of slot_starts (word_of kind))) index
      && are_in_slots (suc index) kinds

  -- what the test says of a word
  are_in_slots_at : (index : ℕ) (kinds : List ℕ) → are_in_slots index kinds ≡ true
      → (i d : ℕ) → i < length kinds
      → slice_index slots (slot_of slot_starts (word_of (get_or kinds i d))) ≡ index + i
  unfolding are_in_slots
  are_in_slots_at index [] ok i d lt = absurd (not-suc-le-zero lt)
  are_in_slots_at index (kind ∷ kinds) ok zero d lt =
      eqb-true _ _ (and_parts (nat_eq (slice_index slots (slot_of slot_starts (word_of kind))) index)
      (are_in_slots (suc index) kinds) ok).0
      ∙ (let from_index : index ≡ index + 0 = omega arith in from_index)
  are_in_slots_at index (kind ∷ kinds) ok (suc i) d lt =
      are_in_slots_at (suc index) kinds
      (and_parts (nat_eq (slice_index slots (slot_of slot_starts (word_of kind))) index)
      (are_in_slots (suc index) kinds) ok).1
      i d (le_of_suc-le-suc lt)
      ∙ (let later : suc index + i ≡ index + suc i = omega arith in later)

  -- the tests together prove that the slots are those of the table
  pub HasSlots_from : (kinds starts : List ℕ)
      → nat_le (length starts * 32) (length slot_starts + 32) ≡ true
      → list_all (λ start. nat_le (start + 128) (length slots)) slot_starts ≡ true
      → list_all (λ kind. nat_le 2 (length (word_of kind))) kinds ≡ true
      → are_in_slots 0 kinds ≡ true → HasSlots kinds starts slot_starts slots
  HasSlots_from kinds starts rows within long ok =
      record {
        rows = leb-true _ _ rows;
        within = λ k d lt.
            leb-true _ _ (AllPass-from_list_all (λ start. nat_le (start + 128) (length slots))
            slot_starts within k d lt);
        long = λ k d lt.
            leb-true _ _
            (AllPass-from_list_all (λ kind. nat_le 2 (length (word_of kind))) kinds long k d lt);
        each = λ i d lt.
            are_in_slots_at 0 kinds ok i d lt ∙ (let whole : 0 + i ≡ i = omega arith in whole);
      }
