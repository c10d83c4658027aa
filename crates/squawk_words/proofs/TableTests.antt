-- Tests that a table of words is sorted and has its ranges, and what they prove.
use Rattle.std.proofs.Common.{◌≡◌, ℕ, zero, suc, ◌+◌, ◌<◌, ◌≤◌, Bool, true, ◌&&◌, nat_lt, nat_le, ltb-true, leb-true, List, [], ◌∷◌, length, get_or, slice_index, All, AllPairs, Ordering, Less, Equal, Greater, refl, subst, ◌∙◌, arith, le_of_suc-le-suc, not-suc-le-zero, ◌≢◌, ap}
use Rattle.std.specs.List.{list_all}
use Rattle.std.specs.List.Sorted.{IsNonDecreasing}
use Rattle.std.specs.Ordering.{is_lt}
use Rattle.std.specs.Str.{bytes_eq, str_to_ascii_lowercase}
use Rattle.std.proofs.lemmas.Bool.{and_parts}
use Rattle.std.proofs.lemmas.Cmp.{nat_list_cmp_total}
use Rattle.std.proofs.lemmas.List.{get_or-map, length-map}
use Rattle.std.proofs.lemmas.List.Sums.{AllPass-from_list_all}
use Rattle.std.proofs.lemmas.Slice.Eq.{bytes_eq-Decides}
use Rattle.squawk_words.proofs.WordOrder.{differs_if}
use Rattle.squawk_words.specs.WordTable.{word_of, pairs_of, IsWordTable, IsInRange}
use Rattle.squawk_words.specs.Words.{word_cmp}

-- the only order that passes the test
less_if : (o : Ordering) → is_lt o ≡ true → o ≡ Less
less_if Less e = refl
less_if Equal e = cc
less_if Greater e = cc

-- the words of the kinds come one after another, the first of them after `word`
unfoldable pub is_sorted : List ℕ → List ℕ → Bool
is_sorted word [] = true
is_sorted word (kind ∷ kinds) =
    is_lt (word_cmp word (word_of kind)) && is_sorted (word_of kind) kinds

-- `word` comes before all words of the kinds
is_sorted_above : (word kinds : List ℕ) → is_sorted word kinds ≡ true
    → All (λ kind. word_cmp word (word_of kind) ≡ Less) kinds
unfolding is_sorted
is_sorted_above word [] ok k d lt = absurd (not-suc-le-zero lt)
is_sorted_above word (kind ∷ kinds) ok zero d lt =
    less_if _ (and_parts (is_lt (word_cmp word (word_of kind)))
    (is_sorted (word_of kind) kinds) ok).0
is_sorted_above word (kind ∷ kinds) ok (suc k) d lt =
    let parts = and_parts (is_lt (word_cmp word (word_of kind)))
    (is_sorted (word_of kind) kinds) ok in
    let next = word_of kind in
    let far = word_of (get_or kinds k d) in
    nat_list_cmp_total.trans (length word ∷ word) (length next ∷ next) (length far ∷ far)
    (less_if _ parts.0)
    (is_sorted_above next kinds parts.1 k d (le_of_suc-le-suc lt))

-- each word comes before every later one
sorted_pairs : (word kinds : List ℕ) → is_sorted word kinds ≡ true
    → AllPairs (λ a b. word_cmp (word_of a) (word_of b) ≡ Less) kinds
unfolding is_sorted
sorted_pairs word [] ok i j d before lt = absurd (not-suc-le-zero lt)
sorted_pairs word (kind ∷ kinds) ok i zero d before lt = absurd (not-suc-le-zero before)
sorted_pairs word (kind ∷ kinds) ok zero (suc j) d before lt =
    let parts = and_parts (is_lt (word_cmp word (word_of kind)))
    (is_sorted (word_of kind) kinds) ok in
    is_sorted_above (word_of kind) kinds parts.1 j d (le_of_suc-le-suc lt)
sorted_pairs word (kind ∷ kinds) ok (suc i) (suc j) d before lt =
    let parts = and_parts (is_lt (word_cmp word (word_of kind)))
    (is_sorted (word_of kind) kinds) ok in
    sorted_pairs (word_of kind) kinds parts.1 i j d (le_of_suc-le-suc before) (le_of_suc-le-suc lt)

-- no start is below the one before it, nor the first below `low`
unfoldable pub is_non_decreasing : ℕ → List ℕ → Bool
is_non_decreasing low [] = true
is_non_decreasing low (start ∷ starts) = nat_le low start && is_non_decreasing start starts

-- what the test says of `low`, and of two starts
is_non_decreasing_above : (low : ℕ) (starts : List ℕ) → is_non_decreasing low starts ≡ true
    → (j d : ℕ)
    → j < length starts → low ≤ get_or starts j d
unfolding is_non_decreasing
is_non_decreasing_above low [] ok j d lt = absurd (not-suc-le-zero lt)
is_non_decreasing_above low (start ∷ starts) ok zero d lt =
    leb-true low start (and_parts (nat_le low start) (is_non_decreasing start starts) ok).0
is_non_decreasing_above low (start ∷ starts) ok (suc j) d lt =
    let parts = and_parts (nat_le low start) (is_non_decreasing start starts) ok in
    omega (
      arith,
      leb-true low start parts.0,
      is_non_decreasing_above start starts parts.1 j d (le_of_suc-le-suc lt),
    )

is_non_decreasing_ordered : (low : ℕ) (starts : List ℕ) → is_non_decreasing low starts ≡ true
    → IsNonDecreasing starts
unfolding is_non_decreasing
is_non_decreasing_ordered low [] ok i j d before lt = absurd (not-suc-le-zero lt)
is_non_decreasing_ordered low (start ∷ starts) ok zero zero d before lt = omega arith
is_non_decreasing_ordered low (start ∷ starts) ok (suc i) zero d before lt =
    absurd (not-suc-le-zero before)
is_non_decreasing_ordered low (start ∷ starts) ok zero (suc j) d before lt =
    let rest = (and_parts (nat_le low start) (is_non_decreasing start starts) ok).1 in
    is_non_decreasing_above start starts rest j d (le_of_suc-le-suc lt)
is_non_decreasing_ordered low (start ∷ starts) ok (suc i) (suc j) d before lt =
    let rest = (and_parts (nat_le low start) (is_non_decreasing start starts) ok).1 in
    is_non_decreasing_ordered start starts rest i j d (le_of_suc-le-suc before)
    (le_of_suc-le-suc lt)

-- the index lies in the range of the words of this length
unfoldable pub is_in_range : List ℕ → ℕ → ℕ → Bool
is_in_range starts size index =
    nat_lt (size + 1) (length starts) && (nat_le (slice_index starts size) index
    && nat_lt index (slice_index starts (size + 1)))

-- the words of the kinds, at the indices from `index` on, lie in the ranges of their lengths
unfoldable pub are_in_ranges : List ℕ → ℕ → List ℕ → Bool
are_in_ranges starts index [] = true
are_in_ranges starts index (kind ∷ kinds) = is_in_range starts (length (word_of kind)) index
    && are_in_ranges starts (suc index) kinds

-- what the tests of ranges say
is_in_range_true : (starts : List ℕ) (size index : ℕ) → is_in_range starts size index ≡ true
    → IsInRange starts size index
unfolding is_in_range
is_in_range_true starts size index ok =
    let parts = and_parts (nat_lt (size + 1) (length starts)) _ ok in
    let ends = and_parts (nat_le (slice_index starts size) index)
    (nat_lt index (slice_index starts (size + 1))) parts.1 in
    record {
      listed = ltb-true _ _ parts.0;
      low = leb-true _ _ ends.0;
      high = ltb-true _ _ ends.1;
    }

are_in_ranges_at : (starts : List ℕ) (index : ℕ) (kinds : List ℕ)
    → are_in_ranges starts index kinds ≡ true
    → (i d : ℕ) → i < length kinds
    → IsInRange starts (length (word_of (get_or kinds i d))) (index + i)
unfolding are_in_ranges
are_in_ranges_at starts index [] ok i d lt = absurd (not-suc-le-zero lt)
are_in_ranges_at starts index (kind ∷ kinds) ok zero d lt =
    let here = is_in_range_true starts _ index
    (and_parts (is_in_range starts (length (word_of kind)) index)
    (are_in_ranges starts (suc index) kinds) ok).0 in
    let from_index : index ≡ index + 0 = omega arith in
    subst (IsInRange starts (length (word_of kind))) from_index here
are_in_ranges_at starts index (kind ∷ kinds) ok (suc i) d lt =
    let rest = (and_parts (is_in_range starts (length (word_of kind)) index)
    (are_in_ranges starts (suc index) kinds) ok).1 in
    let later : suc index + i ≡ index + suc i = omega arith in
    subst (IsInRange starts (length (word_of (get_or kinds i d)))) later
    (are_in_ranges_at starts (suc index) kinds rest i d (le_of_suc-le-suc lt))

-- the word of the kind is lowercase
abbrev pub is_lower : ℕ → Bool
is_lower kind = bytes_eq (str_to_ascii_lowercase (word_of kind)) (word_of kind)

-- the tests together prove that it is a table of words
pub IsWordTable_from : (kinds starts : List ℕ) → list_all (λ kind. nat_lt kind 2068) kinds ≡ true
    → list_all is_lower kinds ≡ true → is_sorted [] kinds ≡ true
    → is_non_decreasing 0 starts ≡ true
    → list_all (λ start. nat_le start (length kinds)) starts ≡ true
    → are_in_ranges starts 0 kinds ≡ true → IsWordTable kinds starts
IsWordTable_from kinds starts numbers lower rise climb within index =
    record {
      numbers = λ k d lt.
          ltb-true _ _ (AllPass-from_list_all (λ kind. nat_lt kind 2068) kinds numbers k d lt);
      lowercase = λ k d lt.
          (bytes_eq-Decides _ _).0 (AllPass-from_list_all is_lower kinds lower k d lt);
      sorted = sorted_pairs [] kinds rise;
      starts_sorted = is_non_decreasing_ordered 0 starts climb;
      starts_within = λ k d lt.
          leb-true _ _
          (AllPass-from_list_all (λ start. nat_le start (length kinds)) starts within k d lt);
      ranges = λ i d lt.
          subst (IsInRange starts (length (word_of (get_or kinds i d))))
          (let h : 0 + i ≡ i = omega arith in h) (are_in_ranges_at starts 0 kinds index i d lt);
    }

-- kinds that are sorted by their words, as pairs
pub sorted_pairs_of : (kinds : List ℕ)
    → AllPairs (λ a b. word_cmp (word_of a) (word_of b) ≡ Less) kinds
    → AllPairs (λ a b. word_cmp a.0 b.0 ≡ Less) (pairs_of kinds)
sorted_pairs_of kinds rise i j d before lt =
    let size : length (pairs_of kinds) ≡ length kinds =
    length-map kinds (λ kind. (word_of kind, kind)) in
    let x = get_or-map (λ kind. (word_of kind, kind)) kinds i d.1 d (omega arith) in
    let y = get_or-map (λ kind. (word_of kind, kind)) kinds j d.1 d (omega arith) in
    (λ t. word_cmp (x t).0 (y t).0) ∙ rise i j d.1 before (omega arith)

-- sorted words differ
pub words_differ : (pairs : List (List ℕ × ℕ)) → AllPairs (λ a b. word_cmp a.0 b.0 ≡ Less) pairs
    → AllPairs (λ a b. a.0 ≢ b.0) pairs
words_differ pairs rise i j d before lt same =
    differs_if _ _ Less (rise i j d before lt) refl (ap (λ word. length word ∷ word) same)
