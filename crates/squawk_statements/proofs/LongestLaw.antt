-- The longest row is listed, fits, and no row that fits is longer.
use Rattle.std.proofs.Common.{◌≡◌, ℕ, suc, ◌≤◌, Bool, true, false, cond, nat_lt, List, [], ◌∷◌, length, refl, sym, subst, ◌∙◌, arith}
use Rattle.std.proofs.lemmas.Bool.{ltb-true, ltb-false}
use Rattle.std.proofs.lemmas.List.Elements.{All-nil, All-cons, All-weaker}
use Rattle.std.specs.Prelude.{Option, Some, None, All, Contains}
use Rattle.squawk_statements.specs.Laws.{IsLongest}
use Rattle.squawk_statements.specs.Opening.{Row, rows, is_prefix, longer, longest}

-- a row that fits has at most n kinds
AtMost : List ℕ → ℕ → Row → Type 0
AtMost ks n other = is_prefix other.0 ks ≡ true → length other.0 ≤ n

-- a row does not fit
Fails : List ℕ → Row → Type 0
Fails ks other = is_prefix other.0 ks ≡ false

-- what the longest row of a table says of the table; none says that no row fits
Found : List Row → List ℕ → Option Row → Type 0
Found table ks None = All (Fails ks) table
Found table ks (Some row) = IsLongest table ks row

-- elements of a list: those of its rest, and the first
contains_later : (r row : Row) (table : List Row) → Contains table row → Contains (r ∷ table) row
contains_later r row table (k, within, is) = (suc k, omega arith, is)

contains_first : (r : Row) (table : List Row) → Contains (r ∷ table) r
contains_first r table = (0, omega arith, refl)

-- a test has one value
clash : {P : Type 0} (b : Bool) → b ≡ false → b ≡ true → P
clash b h k = absurd (let e : true ≡ false = sym k ∙ h in cc)

-- a row that does not fit has any bound
fails_most : (ks : List ℕ) (n : ℕ) (other : Row) → Fails ks other → AtMost ks n other
unfolding Fails AtMost
fails_most ks n other h = λ k. clash (is_prefix other.0 ks) h k

-- one more row at the front of the table
step : (r : Row) (table : List Row) (ks : List ℕ) (t : Bool) (rest : Option Row)
    → is_prefix r.0 ks ≡ t → Found table ks rest
    → Found (r ∷ table) ks (longer (cond t (Some r) None) rest)
unfolding Found Fails AtMost
step r table ks false None is h = All-cons (Fails ks) r table is h
step r table ks false (Some row) is h = record {
  listed = contains_later r row table h.listed;
  fits = h.fits;
  longest = All-cons (AtMost ks (length row.0)) r table (fails_most ks (length row.0) r is)
      h.longest;
}
step r table ks true None is h = record {
  listed = contains_first r table;
  fits = is;
  longest = All-cons (AtMost ks (length r.0)) r table (λ k.
      omega arith) (All-weaker (Fails ks) (AtMost ks (length r.0)) (fails_most ks (length r.0))
      table h);
}
step r table ks true (Some row) is h = by (nat_lt (length r.0) (length row.0)) refl
  where
    by : (b : Bool) → nat_lt (length r.0) (length row.0) ≡ b
        → Found (r ∷ table) ks (cond b (Some row) (Some r))
    by true less =
        let smaller = ltb-true (length r.0) (length row.0) less in
        record {
          listed = contains_later r row table h.listed;
          fits = h.fits;
          longest = All-cons (AtMost ks (length row.0)) r table (λ k. omega arith) h.longest;
        }
    by false less =
        let larger = ltb-false (length r.0) (length row.0) less in
        record {
          listed = contains_first r table;
          fits = is;
          longest = All-cons (AtMost ks (length r.0)) r table (λ k. omega arith)
              (All-weaker (AtMost ks (length row.0)) (AtMost ks (length r.0)) (λ other small k.
              let e = small k in omega arith) table h.longest);
        }

-- the longest row of each table
found : (table : List Row) (ks : List ℕ) → Found table ks (longest table ks)
unfolding Found
found [] ks = All-nil (Fails ks)
found (row ∷ table) ks =
    step row table ks (is_prefix row.0 ks) (longest table ks) refl (found table ks)

-- the longest row of the whole table is in it, fits, and no row that fits is longer
pub longest_is : (ks : List ℕ) (row : Row) → longest rows ks ≡ Some row → IsLongest rows ks row
unfolding Found
longest_is ks row is = subst (Found rows ks) is (found rows ks)
