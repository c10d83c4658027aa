-- A delimiter fits exactly if its tag stands neither in the value nor after a `$` at its end.
use Rattle.std.proofs.Common.{◌≡◌, ◌⊎◌, inl, inr, ℕ, zero, suc, ◌+◌, ◌<◌, Bool, true, false, List, [], ◌∷◌, ◌++◌, length, Option, Some, None, option_map, nat_eq, refl, sym, ap, subst, ◌∙◌, not, ◌&&◌, ◌||◌, eqb, cond, arith}
use Rattle.std.proofs.lemmas.Bool.{cases_eq}
use Rattle.std.proofs.lemmas.Bool.Decides.{nat_tests}
use Rattle.std.specs.List.{starts_with}
use Rattle.squawk_lexer.specs.Classes.{dollar_sign}
use Rattle.squawk_lexer.specs.Dollar.{find_end}
use Rattle.squawk_quote.specs.Values.{letter_q, tag_then, delimiter_of, is_found_at, delimiter_fits, has_tag}
use Rattle.squawk_quote.proofs.DollarLaws.{find_self}

-- whether v, with the delimiter of n after it, begins with m letters `q` and a `$`
abbrev rest_here : ℕ → ℕ → List ℕ → Bool
rest_here n m v = starts_with nat_eq (v ++ delimiter_of n) (tag_then m (dollar_sign ∷ []))

-- whether the delimiter of n, put after v, occurs before its own position
abbrev stands : ℕ → List ℕ → Bool
stands n [] = false
stands n (c ∷ cs) = (eqb dollar_sign c && rest_here n n cs) || stands n cs

-- what `has_tag` says of v after a run of k letters that lacks m letters of the tag, after a run
-- longer than the tag, and after none
record Runs (n : ℕ) (v : List ℕ) : Type 0 where
  open_run : (k m : ℕ) → n ≡ k + m → has_tag n (Some k) v ≡ (rest_here n m v || stands n v)
  past_run : (k : ℕ) → n < k → has_tag n (Some k) v ≡ stands n v
  no_run : has_tag n None v ≡ stands n v

and_false : (b : Bool) → (b && false) ≡ false
and_false true = refl
and_false false = refl

self : (n : ℕ) → eqb n n ≡ true
self n = grind (arith, nat_tests)

other_than : (m n : ℕ) → n < m → eqb n m ≡ false
other_than m n h = grind (arith, nat_tests)

more_than : (m n : ℕ) → m < n → eqb n m ≡ false
more_than m n h = grind (arith, nat_tests)

runs_none : (n : ℕ) → Runs n []
runs_none n = record { open_run = at_end; past_run = λ k h. other_than k n h; no_run = refl }
  where
    at_end : (k m : ℕ) → n ≡ k + m → has_tag n (Some k) [] ≡ (rest_here n m [] || stands n [])
    at_end k zero e = rw (let is : n ≡ k = omega arith in is) (self k)
    at_end k (suc m) e = more_than k n (omega arith)

-- after a `$`
after_dollar : (n : ℕ) (cs : List ℕ) → Runs n cs → Runs n (dollar_sign ∷ cs)
after_dollar n cs r = record {
  open_run = here;
  past_run = λ k h.
      rw (other_than k n h) begun;
  no_run = begun;
}
  where
    begun : has_tag n (Some 0) cs ≡ (rest_here n n cs || stands n cs)
    begun = r.open_run 0 n (omega arith)

    here : (k m : ℕ) → n ≡ k + m → has_tag n (Some k) (dollar_sign ∷ cs)
        ≡ (rest_here n m (dollar_sign ∷ cs) || stands n (dollar_sign ∷ cs))
    here k zero e = let t : eqb n k ≡ true = rw (let is : n ≡ k = omega arith in is) (self k) in
        rw t refl
    here k (suc m) e = rw (more_than k n (omega arith)) begun

-- after a letter of the tag
after_letter : (n : ℕ) (cs : List ℕ) → Runs n cs → Runs n (letter_q ∷ cs)
after_letter n cs r = record {
  open_run = here;
  past_run = λ k h.
      r.past_run (k + 1) (omega arith);
  no_run = r.no_run;
}
  where
    here : (k m : ℕ) → n ≡ k + m → has_tag n (Some k) (letter_q ∷ cs)
        ≡ (rest_here n m (letter_q ∷ cs) || stands n (letter_q ∷ cs))
    here k zero e = r.past_run (k + 1) (omega arith)
    here k (suc m) e = r.open_run (k + 1) m (omega arith)

-- after any other character
after_other : (n c : ℕ) (cs : List ℕ) → eqb c dollar_sign ≡ false → eqb c letter_q ≡ false
    → Runs n cs
    → Runs n (c ∷ cs)
after_other n c cs d q r = record {
  open_run = here;
  past_run = λ k h.
      rw (d, q, dollar) r.no_run;
  no_run = rw (d, dollar) r.no_run;
}
  where
    dollar : eqb dollar_sign c ≡ false
    dollar = grind (arith, nat_tests)

    letter : eqb letter_q c ≡ false
    letter = grind (arith, nat_tests)

    here : (k m : ℕ) → n ≡ k + m → has_tag n (Some k) (c ∷ cs)
        ≡ (rest_here n m (c ∷ cs) || stands n (c ∷ cs))
    here k zero e = rw (d, q, dollar) r.no_run
    here k (suc m) e = rw (d, q, dollar, letter) r.no_run

runs : (n : ℕ) (v : List ℕ) → Runs n v
runs n [] = runs_none n
runs n (c ∷ cs) = by (runs n cs) (cases_eq c dollar_sign) (cases_eq c letter_q)
  where
    by : Runs n cs → (c ≡ dollar_sign) ⊎ (c ≡ dollar_sign → ⊥) → (c ≡ letter_q) ⊎ (c ≡ letter_q → ⊥)
        → Runs n (c ∷ cs)
    by r (inl is) q = subst (λ x. Runs n (x ∷ cs)) (sym is) (after_dollar n cs r)
    by r (inr d) (inl is) = subst (λ x. Runs n (x ∷ cs)) (sym is) (after_letter n cs r)
    by r (inr d) (inr q) =
        after_other n c cs (let e : eqb c dollar_sign ≡ false = grind (arith, nat_tests)
        in e) (let e : eqb c letter_q ≡ false = grind (arith, nat_tests) in e) r

-- ---- where the delimiter is found

ends_later : (o : Option ℕ) (n : ℕ) → is_found_at (option_map (λ m. m + 1) o) (n + 1)
    ≡ is_found_at o n
ends_later None n = refl
ends_later (Some m) n = by (cases_eq m n)
  where
    by : (m ≡ n) ⊎ (m ≡ n → ⊥) → eqb (m + 1) (n + 1) ≡ eqb m n
    by (inl is) = rw is (self (n + 1) ∙ sym (self n))
    by (inr is_not) = let a : eqb (m + 1) (n + 1) ≡ false = grind (arith, nat_tests) in
        let b : eqb m n ≡ false = grind (arith, nat_tests) in a ∙ sym b

fits_unless_found : (n : ℕ) (v : List ℕ) → delimiter_fits v n ≡ not (stands n v)
fits_unless_found n [] =
    rw (find_self n) (ap (eqb (length (delimiter_of n))) (let e : 0 + length (delimiter_of n)
    ≡ length (delimiter_of n) = omega arith in e) ∙ self (length (delimiter_of n)))
fits_unless_found n (c ∷ cs) =
    by (eqb dollar_sign c && rest_here n n cs) refl (fits_unless_found n cs)
  where
    d : List ℕ
    d = delimiter_of n

    by : (b : Bool) → (eqb dollar_sign c && rest_here n n cs) ≡ b → delimiter_fits cs n
        ≡ not (stands n cs)
        → is_found_at (cond b (Some (length d)) (option_map (λ m. m + 1) (find_end d (cs ++ d))))
        (length (c ∷ cs) + length d) ≡ not (b || stands n cs)
    by true t e = other_than (length (c ∷ cs) + length d) (length d) (omega arith)
    by false t e =
        let sum : length (c ∷ cs) + length d ≡ length cs + length d + 1 = omega arith in
        ap (is_found_at (option_map (λ m. m + 1) (find_end d (cs ++ d)))) sum
        ∙ ends_later (find_end d (cs ++ d)) (length cs + length d) ∙ e

-- a delimiter fits exactly if its tag does not occur
pub fits_unless_tag_occurs : (v : List ℕ) (n : ℕ) → delimiter_fits v n ≡ not (has_tag n None v)
fits_unless_tag_occurs v n = fits_unless_found n v ∙ ap not (sym ((runs n v).no_run))
