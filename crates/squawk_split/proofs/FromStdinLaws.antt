-- FROM STDIN is found exactly where it stands outside all parentheses.
use Rattle.std.proofs.Common.{◌≡◌, ◌⊎◌, inl, inr, ℕ, zero, suc, Bool, true, false, List, [], ◌∷◌, ◌++◌, refl, ap, ◌∙◌, ◌&&◌, ◌||◌, eqb, arith}
use Rattle.std.proofs.lemmas.Bool.{false≢true}
use Rattle.std.proofs.lemmas.Bool.Decides.{nat_tests}
use Rattle.squawk_kinds.specs.declared.numbers.TheConstants.Number as kind
use Rattle.squawk_split.specs.CopyFromStdin.{open_parens_after, has_from_stdin, open_parens_after_all, IsFromStdin, FromStdinIsFound, OnlyFromStdinIsFound}

-- ---- it is found

or_right : (a b : Bool) → b ≡ true → (a || b) ≡ true
or_right true b e = refl
or_right false b e = e

-- after `before`, in whatever state the search is
found_after : (n : ℕ) (after_from : Bool) (before after : List ℕ)
    → open_parens_after_all n before ≡ 0
    → has_from_stdin n after_from (before ++ kind.FROM_KW ∷ kind.STDIN_KW ∷ after) ≡ true
found_after zero true [] after e = refl
found_after zero false [] after e = refl
found_after (suc n) after_from [] after e = absurd (omega (arith, e))
found_after n after_from (k ∷ ks) after e =
    or_right (after_from && eqb k kind.STDIN_KW) _
    (found_after (open_parens_after n k) (eqb n 0 && eqb k kind.FROM_KW) ks after e)

pub from_stdin_is_found : FromStdinIsFound
from_stdin_is_found kinds f =
    ap (has_from_stdin 0 false) f.is ∙ found_after 0 false f.before f.after f.outside

-- ---- nothing else is found

-- the first kind is STDIN
record BeginsWithStdin (kinds : List ℕ) : Type 0 where
  rest : List ℕ
  is : kinds ≡ kind.STDIN_KW ∷ rest

-- what was found: FROM STDIN in the kinds, or STDIN at their start after FROM
abbrev Found : ℕ → Bool → List ℕ → Type 0
Found n after_from kinds = IsFromStdin n kinds ⊎ ((after_from ≡ true) × BeginsWithStdin kinds)

both_true : (a b : Bool) → (a && b) ≡ true → (a ≡ true) × (b ≡ true)
both_true true b h = (refl, h)
both_true false b h = absurd (false≢true h)

-- from what was found after the first kind
found_in_tail : (n : ℕ) (after_from : Bool) (k : ℕ) (ks : List ℕ)
    → Found (open_parens_after n k) (eqb n 0 && eqb k kind.FROM_KW) ks
    → Found n after_from (k ∷ ks)
found_in_tail n after_from k ks (inl f) = inl (record {
  before = k ∷ f.before;
  after = f.after;
  is = ap (λ w. k ∷ w) f.is;
  outside = f.outside;
})
found_in_tail n after_from k ks (inr (t, s)) =
    let both = both_true (eqb n 0) (eqb k kind.FROM_KW) t in
    let is_from : k ≡ kind.FROM_KW = let t1 = both.1 in grind (arith, nat_tests, t1) in
    let none_open : n ≡ 0 = let t0 = both.0 in grind (arith, nat_tests, t0) in
    inl (record {
      before = [];
      after = s.rest;
      is = ap (λ x. x ∷ ks) is_from ∙ ap (λ w. kind.FROM_KW ∷ w) s.is;
      outside = none_open;
    })

found_is : (n : ℕ) (after_from : Bool) (kinds : List ℕ)
    → has_from_stdin n after_from kinds ≡ true → Found n after_from kinds
found_is n after_from [] h = absurd (false≢true h)
found_is n after_from (k ∷ ks) h = by (after_from && eqb k kind.STDIN_KW) refl h
    (found_is (open_parens_after n k) (eqb n 0 && eqb k kind.FROM_KW) ks)
  where
    tail : Bool
    tail = has_from_stdin (open_parens_after n k) (eqb n 0 && eqb k kind.FROM_KW) ks

    by : (b : Bool) → (after_from && eqb k kind.STDIN_KW) ≡ b → (b || tail) ≡ true
        → (tail ≡ true → Found (open_parens_after n k) (eqb n 0 && eqb k kind.FROM_KW) ks)
        → Found n after_from (k ∷ ks)
    by true t h next =
        let both = both_true after_from (eqb k kind.STDIN_KW) t in
        let is_stdin : k ≡ kind.STDIN_KW = let t1 = both.1 in grind (arith, nat_tests, t1) in
        inr (both.0, record { rest = ks; is = ap (λ x. x ∷ ks) is_stdin })
    by false t h next = found_in_tail n after_from k ks (next h)

pub only_from_stdin_is_found : OnlyFromStdinIsFound
only_from_stdin_is_found kinds h = by (found_is 0 false kinds h)
  where
    by : Found 0 false kinds → IsFromStdin 0 kinds
    by (inl f) = f
    by (inr (t, s)) = absurd (false≢true t)
