-- Where no row stands before a longer one that begins with it, the first row that fits is the
-- longest.
use Rattle.std.proofs.Common.{◌≡◌, ℕ, ◌≤◌, ◌==◌, Bool, true, false, not, cond, ◌&&◌, nat_lt, List, [], ◌∷◌, length, ap, refl, sym, ◌∙◌, arith, le_of_suc-le-suc, eqb-true}
use Rattle.std.proofs.lemmas.Bool.{and_parts, and_from, eq-eqb, ltb-true, ltb-false, le-ltb}
use Rattle.std.specs.List.{find, filter}
use Rattle.std.specs.Prelude.{Option, Some, None}
use Rattle.squawk_statements.specs.Opening.{Row, is_prefix, longer, longest}

-- of two lists that a third begins with, the longer begins with the shorter
is_prefix_longer : (a b ks : List ℕ) → is_prefix a ks ≡ true → is_prefix b ks ≡ true
    → length a ≤ length b → is_prefix a b ≡ true
is_prefix_longer [] b ks h k le = refl
is_prefix_longer (x ∷ a) [] ks h k le = absurd (omega arith)
is_prefix_longer (x ∷ a) (y ∷ b) [] h k le = cc
is_prefix_longer (x ∷ a) (y ∷ b) (c ∷ ks) h k le =
    let p = and_parts (x == c) (is_prefix a ks) h in
    let q = and_parts (y == c) (is_prefix b ks) k in
    and_from (x == y) (is_prefix a b) (eq-eqb x y (eqb-true x c p.0
    ∙ sym (eqb-true y c q.0))) (is_prefix_longer a b ks p.1 q.1 (le_of_suc-le-suc le))

-- no row of a list is longer than this one and begins with it
unfoldable pub is_first : Row → List Row → Bool
is_first row [] = true
is_first row (other ∷ rows) = not (is_prefix row.0 other.0
    && nat_lt (length row.0) (length other.0)) && is_first row rows

-- no row stands before a longer one that begins with it
unfoldable pub are_ordered : List Row → Bool
are_ordered [] = true
are_ordered (row ∷ rows) = is_first row rows && are_ordered rows

-- a row that was found has no more than n kinds
IsWithin : ℕ → Option Row → Type 0
IsWithin n None = Unit {0}
IsWithin n (Some row) = length row.0 ≤ n

-- the longer of two such rows
within_longer : (n : ℕ) (a b : Option Row) → IsWithin n a → IsWithin n b → IsWithin n (longer a b)
unfolding IsWithin
within_longer n None b h k = k
within_longer n (Some row) None h k = h
within_longer n (Some row) (Some other) h k = by (nat_lt (length row.0) (length other.0))
  where
    by : (t : Bool) → IsWithin n (cond t (Some other) (Some row))
    by true = k
    by false = h

-- if the first of two rows fits, and the second is not longer with the first as its prefix, then
-- the second does not fit or is not longer
within_one : (row other : Row) (ks : List ℕ)
    → not (is_prefix row.0 other.0 && nat_lt (length row.0) (length other.0)) ≡ true
    → is_prefix row.0 ks ≡ true
    → is_prefix other.0 ks ≡ true → length other.0 ≤ length row.0
within_one row other ks first h k = by (nat_lt (length row.0) (length other.0)) refl
  where
    by : (t : Bool) → nat_lt (length row.0) (length other.0) ≡ t → length other.0 ≤ length row.0
    by false is = ltb-false (length row.0) (length other.0) is
    by true is =
        let less = ltb-true (length row.0) (length other.0) is in
        let same = is_prefix_longer row.0 other.0 ks h k (omega arith) in
        absurd (no (is_prefix row.0 other.0) (nat_lt (length row.0) (length other.0)) same is first)
      where
        no : (a b : Bool) → a ≡ true → b ≡ true → not (a && b) ≡ true → ⊥
        no a b x y z = cc

-- the same for the longest of the rows after it
within_longest : (row : Row) (rows : List Row) (ks : List ℕ) → is_first row rows ≡ true
    → is_prefix row.0 ks ≡ true → IsWithin (length row.0) (longest rows ks)
unfolding IsWithin is_first
within_longest row [] ks first h = tt
within_longest row (other ∷ rows) ks first h =
    let p = and_parts (not (is_prefix row.0 other.0 && nat_lt (length row.0) (length other.0)))
    (is_first row rows) first in
    within_longer (length row.0) (cond (is_prefix other.0 ks) (Some other) None) (longest rows ks)
    (by (is_prefix other.0 ks) (within_one row other ks p.0 h))
    (within_longest row rows ks p.1 h)
  where
    by : (t : Bool) → (t ≡ true → length other.0 ≤ length row.0)
        → IsWithin (length row.0) (cond t (Some other) None)
    by true k = k refl
    by false k = tt

-- the first of two rows, where the other is not longer
longer_first : (row : Row) (found : Option Row) → IsWithin (length row.0) found
    → longer (Some row) found ≡ Some row
unfolding IsWithin
longer_first row None h = refl
longer_first row (Some other) h = rw (le-ltb (length row.0) (length other.0) h) refl

-- the first row of an ordered table that fits is the longest
pub find_longest : (rows : List Row) (ks : List ℕ) → are_ordered rows ≡ true
    → find (λ (row : Row). is_prefix row.0 ks) rows ≡ longest rows ks
unfolding are_ordered
find_longest [] ks h = refl
find_longest (row ∷ rows) ks h =
    let p = and_parts (is_first row rows) (are_ordered rows) h in
    by (is_prefix row.0 ks) (λ fits.
    sym (longer_first row (longest rows ks) (within_longest row rows ks p.0 fits)))
    (find_longest rows ks p.1)
  where
    by : (t : Bool) → (t ≡ true → Some row ≡ longer (Some row) (longest rows ks))
        → find (λ (row : Row). is_prefix row.0 ks) rows ≡ longest rows ks
        → cond t (Some row) (find (λ (row : Row). is_prefix row.0 ks) rows)
        ≡ longer (cond t (Some row) None) (longest rows ks)
    by true here rest = here refl
    by false here rest = rest

-- rows that do not fit may be left out of the table
pub longest_filter : (test : Row → Bool) (ks : List ℕ)
    → ((row : Row) → is_prefix row.0 ks ≡ true → test row ≡ true) → (rows : List Row)
    → longest (filter test rows) ks ≡ longest rows ks
longest_filter test ks all [] = refl
longest_filter test ks all (row ∷ rows) =
    by (is_prefix row.0 ks) refl (test row) refl (longest_filter test ks all rows)
  where
    by : (fits : Bool) → is_prefix row.0 ks ≡ fits → (t : Bool) → test row ≡ t
        → longest (filter test rows) ks ≡ longest rows ks
        → longest (cond t (row ∷ filter test rows) (filter test rows)) ks
        ≡ longer (cond fits (Some row) None) (longest rows ks)
    by fits is true t same = rw is (ap (longer (cond fits (Some row) None)) same)
    by false is false t same = same
    by true is false t same = absurd (both (test row) (all row is) t)
      where
        both : (a : Bool) → a ≡ true → a ≡ false → ⊥
        both a h k = cc
