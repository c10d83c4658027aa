-- A test that a text has the words of a table in order, and what it proves.
use Rattle.std.proofs.Common.{◌≡◌, ℕ, zero, suc, ◌+◌, ◌<◌, ◌≤◌, Bool, true, ◌&&◌, nat_lt, nat_le, ltb-true, leb-true, List, [], ◌∷◌, length, get_or, slice_index, slice_range, sym, subst, arith, le_of_suc-le-suc, not-suc-le-zero}
use Rattle.std.specs.Str.{bytes_eq}
use Rattle.std.proofs.lemmas.Bool.{and_parts}
use Rattle.std.proofs.lemmas.Slice.Eq.{bytes_eq-Decides}
use Rattle.squawk_words.specs.WordTable.{word_of, word_start, IsSpelled, IsSpelledAt}

module _ (starts text offsets : List ℕ) (total : ℕ) where
  -- the text, of `total` bytes, has this word at the offset of the word at this index
  unfoldable pub is_spelled : List ℕ → ℕ → Bool
  is_spelled word index =
      nat_lt (length word) (length offsets)
      && (nat_lt (length word) (length starts)
      && (nat_le (slice_index starts (length word)) index
      && (nat_le (word_start starts offsets (length word) index + length word) total
      && bytes_eq (slice_range text (word_start starts offsets (length word) index)
      (word_start starts offsets (length word) index + length word)) word)))

  -- it has the words of the kinds, at the indices from `index` on
  unfoldable pub are_spelled : ℕ → List ℕ → Bool
  are_spelled index [] = true
  are_spelled index (kind ∷ kinds) =
      is_spelled (word_of kind) index && are_spelled (suc index) kinds

  -- what the tests say
  is_spelled_true : (word : List ℕ) (index : ℕ) → length text ≡ total → is_spelled word index ≡ true
      → IsSpelledAt starts text offsets word index
  unfolding is_spelled
  is_spelled_true word index size ok =
      let first = and_parts (nat_lt (length word) (length offsets)) _ ok in
      let second = and_parts (nat_lt (length word) (length starts)) _ first.1 in
      let third = and_parts (nat_le (slice_index starts (length word)) index) _ second.1 in
      let fourth = and_parts (nat_le (word_start starts offsets (length word) index + length word)
      total) _ third.1 in
      record {
        has_offset = ltb-true _ _ first.0;
        has_start = ltb-true _ _ second.0;
        low = leb-true _ _ third.0;
        within = subst (λ n. word_start starts offsets (length word) index + length word ≤ n)
            (sym size) (leb-true _ _ fourth.0);
        word_is = (bytes_eq-Decides _ _).0 fourth.1;
      }

  are_spelled_at : (index : ℕ) (kinds : List ℕ) → length text ≡ total
      → are_spelled index kinds ≡ true → (i d : ℕ) → i < length kinds
      → IsSpelledAt starts text offsets (word_of (get_or kinds i d)) (index + i)
  unfolding are_spelled
  are_spelled_at index [] size ok i d lt = absurd (not-suc-le-zero lt)
  are_spelled_at index (kind ∷ kinds) size ok zero d lt =
      let parts = and_parts (is_spelled (word_of kind) index) (are_spelled (suc index) kinds) ok in
      let here : index ≡ index + 0 = omega arith in
      subst (IsSpelledAt starts text offsets (word_of kind)) here
      (is_spelled_true (word_of kind) index size parts.0)
  are_spelled_at index (kind ∷ kinds) size ok (suc i) d lt =
      let parts = and_parts (is_spelled (word_of kind) index) (are_spelled (suc index) kinds) ok in
      let later : suc index + i ≡ index + suc i = omega arith in
      subst (IsSpelledAt starts text offsets (word_of (get_or kinds i d))) later
      (are_spelled_at (suc index) kinds size parts.1 i d (le_of_suc-le-suc lt))

  pub IsSpelled_from : (kinds : List ℕ) → length text ≡ total → are_spelled 0 kinds ≡ true
      → IsSpelled kinds starts text offsets
  IsSpelled_from kinds size ok =
      record {
        each = λ i d lt.
            let at : 0 + i ≡ i = omega arith in
            subst (IsSpelledAt starts text offsets (word_of (get_or kinds i d))) at
            (are_spelled_at 0 kinds size ok i d lt);
      }
