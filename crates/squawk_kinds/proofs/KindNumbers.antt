-- A test that the kinds count up from 0, and what it proves: the kind at an index is the index.
use Rattle.std.proofs.Common.{◌≡◌, ℕ, zero, suc, ◌+◌, ◌<◌, ◌≤◌, Bool, true, ◌&&◌, ◌==◌, List, [], ◌∷◌, length, slice_get, Some, None, refl, ap, ◌∙◌, arith, eqb-true, le_of_suc-le-suc, not-suc-le-zero}
use Rattle.std.proofs.lemmas.Bool.{and_parts}
use Rattle.std.proofs.lemmas.Option.{slice_get_past}
use Rattle.squawk_kinds.specs.Kinds.{kinds}

-- the numbers are n, n + 1 and so on
unfoldable counts_from : ℕ → List ℕ → Bool
counts_from n [] = true
counts_from n (x ∷ xs) = (x == n) && counts_from (suc n) xs

-- the number at each index
counts_from_at : (n : ℕ) (xs : List ℕ) (k : ℕ) → counts_from n xs ≡ true → k < length xs
    → slice_get xs k ≡ Some (n + k)
unfolding counts_from
counts_from_at n [] k ok lt = absurd (not-suc-le-zero lt)
counts_from_at n (x ∷ xs) zero ok lt =
    let first = and_parts (x == n) (counts_from (suc n) xs) ok in
    ap Some (let h : x ≡ n + 0 = omega (arith, eqb-true x n first.0) in h)
counts_from_at n (x ∷ xs) (suc k) ok lt =
    counts_from_at (suc n) xs k (and_parts (x == n) (counts_from (suc n) xs) ok).1
    (le_of_suc-le-suc lt)
    ∙ ap Some (let h : suc n + k ≡ n + suc k = omega arith in h)

-- the test of all kinds, and their number
kinds_count : counts_from 0 kinds ≡ true
unfolding kinds counts_from
kinds_count = refl

length_of_kinds : length kinds ≡ 2068
unfolding kinds
length_of_kinds = refl

-- below the number of kinds, the kind at an index is the index
pub kinds_within : (number : ℕ) → number < 2068 → slice_get kinds number ≡ Some number
kinds_within number lt =
    counts_from_at 0 kinds number kinds_count (omega (arith, length_of_kinds))
    ∙ ap Some (let h : 0 + number ≡ number = omega arith in h)

-- from the number of kinds on, there is none
pub kinds_past : (number : ℕ) → 2068 ≤ number → slice_get kinds number ≡ None
kinds_past number le = slice_get_past kinds number (omega (arith, length_of_kinds))
