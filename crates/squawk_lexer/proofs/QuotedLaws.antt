-- The laws of quoted texts.
use Rattle.std.proofs.Common.{◌≡◌, ◌≢◌, ℕ, suc, ◌+◌, Bool, true, false, ◌&&◌, List, [], ◌∷◌, slice_get, Option, Some, None, option_map, eqb, cond, refl, sym, ap, subst, ◌∙◌, arith}
use Rattle.std.proofs.lemmas.Bool.Decides.{nat_tests}
use Rattle.squawk_lexer.specs.Classes.{backslash}
use Rattle.squawk_lexer.specs.Quoted.{quoted_len}
use Rattle.squawk_lexer.specs.QuotedLaws.{IsItems, NoItem, TwoQuotes, Escaped, OneItem, QuotedEndsFirst, QuotedEndIsUnique}

-- What a length says of a quoted text.
abbrev Ends : Bool → ℕ → List ℕ → Option ℕ → Type 0
Ends e q cs None = Unit {0}
Ends e q cs (Some n) = (m : ℕ) × (n ≡ m + 1) × IsItems e q cs m × (slice_get cs m ≡ Some q)
    × (slice_get cs (m + 1) ≢ Some q)

-- `Some` is injective.
some_eq : (a b : ℕ) → Some a ≡ Some b → a ≡ b
some_eq a b h = cc

-- Another character is not a quote.
not_next : (d q : ℕ) → eqb d q ≡ false → Some d ≢ Some q
not_next d q t h = let same : d ≡ q = some_eq d q h in absurd (grind (arith, nat_tests))

-- A quote closes at the end of the text, and before another character.
ends_last : (e : Bool) (q c : ℕ) → eqb c q ≡ true → Ends e q (c ∷ []) (Some 1)
ends_last e q c t = let same : c ≡ q = grind (arith, nat_tests) in
    (0, omega arith, NoItem (c ∷ []), ap Some same, λ h. cc)

ends_here : (e : Bool) (q c d : ℕ) (cs : List ℕ) → eqb c q ≡ true → eqb d q ≡ false
    → Ends e q (c ∷ d ∷ cs) (Some 1)
ends_here e q c d cs t s = let same : c ≡ q = grind (arith, nat_tests) in
    (0, omega arith, NoItem (c ∷ d ∷ cs), ap Some same, not_next d q s)

-- The law with one more item before it: two quotes, an escape, and a single character.
two : (e : Bool) (q c d : ℕ) (cs : List ℕ) (o : Option ℕ) → eqb c q ≡ true → eqb d q ≡ true
    → Ends e q cs o → Ends e q (c ∷ d ∷ cs) (option_map (λ n. n + 2) o)
two e q c d cs None t s h = tt
two e q c d cs (Some n) t s (m, l, items, last, next) = (
  2 + m,
  omega (arith, l),
  TwoQuotes c d cs m t s items,
  let at : 2 + m ≡ suc (suc m) = omega arith in rw at last,
  let at : 2 + m + 1 ≡ suc (suc (m + 1)) = omega arith in rw at next,
)

pair : (e : Bool) (q c d : ℕ) (cs : List ℕ) (o : Option ℕ) → eqb c q ≡ false
    → (e && eqb c backslash) ≡ true → Ends e q cs o
    → Ends e q (c ∷ d ∷ cs) (option_map (λ n. n + 2) o)
pair e q c d cs None t s h = tt
pair e q c d cs (Some n) t s (m, l, items, last, next) = (
  2 + m,
  omega (arith, l),
  Escaped c d cs m t s items,
  let at : 2 + m ≡ suc (suc m) = omega arith in rw at last,
  let at : 2 + m + 1 ≡ suc (suc (m + 1)) = omega arith in rw at next,
)

one : (e : Bool) (q c : ℕ) (cs : List ℕ) (o : Option ℕ) → eqb c q ≡ false
    → (e && eqb c backslash) ≡ false → Ends e q cs o → Ends e q (c ∷ cs) (option_map (λ n. n + 1) o)
one e q c cs None t s h = tt
one e q c cs (Some n) t s (m, l, items, last, next) = (
  1 + m,
  omega (arith, l),
  OneItem c cs m t s items,
  let at : 1 + m ≡ suc m = omega arith in rw at last,
  let at : 1 + m + 1 ≡ suc (m + 1) = omega arith in rw at next,
)

-- The law for every length.
ends : (e : Bool) (q : ℕ) (cs : List ℕ) → Ends e q cs (quoted_len e q cs)
ends e q [] = tt
ends e q (c ∷ []) = by (eqb c q) refl
  where
    by : (b : Bool) → eqb c q ≡ b → Ends e q (c ∷ []) (cond b (Some 1) None)
    by true t = ends_last e q c t
    by false t = tt
ends e q (c ∷ d ∷ cs) = by (eqb c q) (eqb d q)
    (e && eqb c backslash) refl refl refl (ends e q cs) (ends e q (d ∷ cs))
  where
    by : (b s p : Bool) → eqb c q ≡ b → eqb d q ≡ s → (e && eqb c backslash) ≡ p
        → Ends e q cs (quoted_len e q cs) → Ends e q (d ∷ cs) (quoted_len e q (d ∷ cs))
        → Ends e q (c ∷ d ∷ cs) (cond b (cond s
        (option_map (λ n. n + 2) (quoted_len e q cs)) (Some 1))
        (cond p (option_map (λ n. n + 2) (quoted_len e q cs))
        (option_map (λ n. n + 1) (quoted_len e q (d ∷ cs)))))
    by true true p t s r more next = two e q c d cs (quoted_len e q cs) t s more
    by true false p t s r more next = ends_here e q c d cs t s
    by false s true t u r more next = pair e q c d cs (quoted_len e q cs) t r more
    by false s false t u r more next = one e q c (d ∷ cs) (quoted_len e q (d ∷ cs)) t r next

-- A quoted text is closed by a quote after whole items.
pub quoted_ends_first : QuotedEndsFirst
quoted_ends_first e q cs n is = subst (Ends e q cs) is (ends e q cs)

-- ---- only one end

-- A quote at the start closes the text.
here : (e : Bool) (q : ℕ) (cs : List ℕ) → slice_get cs 0 ≡ Some q → slice_get cs 1 ≢ Some q
    → quoted_len e q cs ≡ Some 1
here e q [] h n = cc
here e q (c ∷ []) h n = let same : c ≡ q = some_eq c q h in let t : eqb c q ≡ true =
    grind (arith, nat_tests) in rw t refl
here e q (c ∷ d ∷ cs) h n = let same : c ≡ q = some_eq c q h in let t : eqb c q ≡ true =
    grind (arith, nat_tests) in by (eqb d q) refl t
  where
    by : (b : Bool) → eqb d q ≡ b → eqb c q ≡ true → quoted_len e q (c ∷ d ∷ cs) ≡ Some 1
    by true s t = let same : d ≡ q = grind (arith, nat_tests) in absurd (n (ap Some same))
    by false s t = rw (t, s) refl

-- A length found k characters later.
plus : (o : Option ℕ) (k m n : ℕ) → o ≡ Some m → m + k ≡ n → option_map (λ i. i + k) o ≡ Some n
plus o k m n e s = ap (option_map (λ i. i + k)) e ∙ ap Some s

-- A character after the first two, and after the first.
after_two : (c d : ℕ) (rest : List ℕ) (i k : ℕ) → i ≡ suc (suc k)
    → slice_get (c ∷ d ∷ rest) i ≡ slice_get rest k
after_two c d rest i k e = ap (slice_get (c ∷ d ∷ rest)) e

after_one : (c : ℕ) (rest : List ℕ) (i k : ℕ) → i ≡ suc k
    → slice_get (c ∷ rest) i ≡ slice_get rest k
after_one c rest i k e = ap (slice_get (c ∷ rest)) e

-- A quote after whole items closes the text.
pub quoted_ends_once : QuotedEndIsUnique
quoted_ends_once e q cs m (NoItem rest) h n = here e q rest h n
quoted_ends_once e q cs m (TwoQuotes c d rest k t s items) h n =
    let more = quoted_ends_once e q rest k items (sym (after_two c d rest (2 + k) k (omega arith))
    ∙ h) (λ g. n (after_two c d rest (2 + k + 1) (k + 1) (omega arith) ∙ g)) in
    rw (t, s) (plus (quoted_len e q rest) 2 (k + 1) (2 + k + 1) more (omega arith))
quoted_ends_once e q cs m (Escaped c d rest k t s items) h n =
    let more = quoted_ends_once e q rest k items (sym (after_two c d rest (2 + k) k (omega arith))
    ∙ h) (λ g. n (after_two c d rest (2 + k + 1) (k + 1) (omega arith) ∙ g)) in
    rw (t, s) (plus (quoted_len e q rest) 2 (k + 1) (2 + k + 1) more (omega arith))
quoted_ends_once e q cs m (OneItem c [] k t s items) h n = let none : None ≡ Some q =
    sym (after_one c [] (1 + k) k (omega arith)) ∙ h in cc
quoted_ends_once e q cs m (OneItem c (d ∷ rest) k t s items) h n =
    let more = quoted_ends_once e q (d ∷ rest) k items
    (sym (after_one c (d ∷ rest) (1 + k) k (omega arith)) ∙ h)
    (λ g. n (after_one c (d ∷ rest) (1 + k + 1) (k + 1) (omega arith) ∙ g)) in
    rw (t, s) (plus (quoted_len e q (d ∷ rest)) 1 (k + 1) (1 + k + 1) more (omega arith))
