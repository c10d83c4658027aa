-- A value has one spelling as a string constant, and one as a quoted identifier.
use Rattle.std.proofs.Common.{◌≡◌, ℕ, zero, suc, ◌+◌, ◌-◌, ◌≤◌, Bool, true, false, List, [], ◌∷◌, ◌++◌, length, take, Option, Some, None, option_map, unwrap_or, refl, sym, ap, ◌∙◌, eqb, cond, arith}
use Rattle.std.proofs.lemmas.Bool.Decides.{nat_tests}
use Rattle.squawk_lexer.specs.Quoted.{quoted_len}
use Rattle.squawk_quote.specs.Values.{escape_quotes, quoted_text, unescape_quotes, strip_ends}

-- a text without its last character
abbrev front : List ℕ → List ℕ
front s = take (length s - 1) s

front_more : (c d : ℕ) (cs : List ℕ) → front (c ∷ d ∷ cs) ≡ c ∷ front (d ∷ cs)
front_more c d cs =
    ap (λ n. take n (c ∷ d ∷ cs)) (let e : length (c ∷ d ∷ cs) - 1 ≡ suc (length cs) = omega arith
    in e)
    ∙ ap (λ n. c ∷ take n (d ∷ cs)) (let e : length cs ≡ length (d ∷ cs) - 1 = omega arith in e)

-- the text before the last character of s is an escaped value, and the last character closes it
abbrev Spelt : ℕ → List ℕ → Type 0
Spelt q s = escape_quotes q (unescape_quotes q (front s)) ++ q ∷ [] ≡ s

found_all : (o : Option ℕ) (j len : ℕ) → option_map (λ n. n + j) o ≡ Some (len + j) → o ≡ Some len
found_all None j len e = absurd (cc)
found_all (Some n) j len e = ap Some (let h : n + j ≡ len + j = ap (λ o. unwrap_or o 0) e in
    omega arith)

plain_first : (q c : ℕ) (w : List ℕ) → eqb c q ≡ false
    → escape_quotes q (unescape_quotes q (c ∷ w)) ≡ c ∷ escape_quotes q (unescape_quotes q w)
plain_first q c [] t = rw t refl
plain_first q c (d ∷ ds) t = rw (t) (rw t refl)

two_first : (q : ℕ) (w : List ℕ) → escape_quotes q (unescape_quotes q (q ∷ q ∷ w))
    ≡ q ∷ q ∷ escape_quotes q (unescape_quotes q w)
two_first q w = let same : eqb q q ≡ true = grind (arith, nat_tests) in rw same (rw same refl)

some_left : (q : ℕ) (w : List ℕ) (n : ℕ) → quoted_len false q w ≡ Some n → 1 ≤ length w
some_left q [] n e = absurd (cc)
some_left q (c ∷ cs) n e = omega arith

pub spelt : (n q : ℕ) (s : List ℕ) → length s ≤ n → quoted_len false q s ≡ Some (length s)
    → Spelt q s
spelt n q [] h e = absurd (cc)
spelt n q (c ∷ []) h e = by (eqb c q) refl e
  where
    by : (b : Bool) → eqb c q ≡ b → cond b (Some 1) None ≡ Some (length (c ∷ [])) → Spelt q (c ∷ [])
    by true t e = ap (λ x. x ∷ []) (let is : q ≡ c = grind (arith, nat_tests) in is)
    by false t e = absurd (cc)
spelt zero q (c ∷ d ∷ cs) h e = absurd (omega arith)
spelt (suc n) q (c ∷ d ∷ cs) h e =
    by (eqb c q) (eqb d q) refl refl (spelt n q cs (omega arith)) (spelt n q (d ∷ cs) (omega arith))
    e
  where
    front_two : (w : List ℕ) → 1 ≤ length w → front (c ∷ d ∷ w) ≡ c ∷ d ∷ front w
    front_two [] h = absurd (omega arith)
    front_two (x ∷ xs) h = front_more c d (x ∷ xs) ∙ ap (λ w. c ∷ w) (front_more d x xs)

    by : (b b2 : Bool) → eqb c q ≡ b → eqb d q ≡ b2
        → (quoted_len false q cs ≡ Some (length cs) → Spelt q cs)
        → (quoted_len false q (d ∷ cs) ≡ Some (length (d ∷ cs)) → Spelt q (d ∷ cs))
        → cond b (cond b2 (option_map (λ n. n + 2) (quoted_len false q cs)) (Some 1))
        (option_map (λ n. n + 1) (quoted_len false q (d ∷ cs))) ≡ Some (length (c ∷ d ∷ cs))
        → Spelt q (c ∷ d ∷ cs)
    by true true t u two one e =
        let all : quoted_len false q cs ≡ Some (length cs) =
        found_all (quoted_len false q cs) 2 (length cs) (e
        ∙ ap Some (let s : length (c ∷ d ∷ cs) ≡ length cs + 2 = omega arith in s)) in
        let first : c ≡ q = grind (arith, nat_tests) in
        let second : d ≡ q = grind (arith, nat_tests) in
        ap (λ w. escape_quotes q (unescape_quotes q w) ++ q
        ∷ []) (front_two cs (some_left q cs (length cs) all))
        ∙ ap (λ x. escape_quotes q (unescape_quotes q (x ∷ d ∷ front cs)) ++ q ∷ []) first
        ∙ ap (λ x. escape_quotes q (unescape_quotes q (q ∷ x ∷ front cs)) ++ q ∷ []) second
        ∙ ap (λ w. w ++ q ∷ []) (two_first q (front cs))
        ∙ ap (λ w. q ∷ q ∷ w) (two all)
        ∙ ap (λ x. x ∷ q ∷ cs) (sym first)
        ∙ ap (λ x. c ∷ x ∷ cs) (sym second)
    by true false t u two one e = absurd (let k : 1 ≡ length (c ∷ d ∷ cs) =
        ap (λ o. unwrap_or o 0) e in omega arith)
    by false b2 t u two one e =
        let all : quoted_len false q (d ∷ cs) ≡ Some (length (d ∷ cs)) =
        found_all (quoted_len false q (d ∷ cs)) 1 (length (d ∷ cs)) (e
        ∙ ap Some (let s : length (c ∷ d ∷ cs) ≡ length (d ∷ cs) + 1 = omega arith in s)) in
        ap (λ w. escape_quotes q (unescape_quotes q w) ++ q ∷ []) (front_more c d cs)
        ∙ ap (λ w. w ++ q ∷ []) (plain_first q c (front (d ∷ cs)) t)
        ∙ ap (λ w. c ∷ w) (one all)

-- a text that begins with a quote, and whose last character closes it, is the quoted text of its
-- value
pub one_spelling : (q : ℕ) (s : List ℕ) → quoted_len false q s ≡ Some (length s)
    → quoted_text q (unescape_quotes q (strip_ends 1 (q ∷ s))) ≡ q ∷ s
one_spelling q s e =
    let len : length (q ∷ s) - (1 + 1) ≡ length s - 1 = omega arith in
    ap (λ n. quoted_text q (unescape_quotes q (take n s))) len
    ∙ ap (λ w. q ∷ w) (spelt (length s) q s (omega arith) e)
