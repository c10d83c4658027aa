-- Look-ahead in general. Where two texts agree up to an index, and a few tests say the same of the
-- characters from there on, a definition that reads no further says the same of both texts.
use Rattle.std.proofs.Common.{◌≡◌, ℕ, ◌+◌, ◌-◌, ◌<◌, ◌≤◌, Bool, true, false, List, ◌∷◌, ◌++◌, length, get_or, take, drop, get_or-take, length-drop, refl, sym, ap, ◌∙◌, inl, inr, ◌⊎◌, ◌&&◌, cond, arith}
use Rattle.std.proofs.lemmas.Bool.{cases_lt}
use Rattle.std.proofs.lemmas.List.{drop-take, drop-drop, drop_more, get_or-drop, take-append-drop, take-take, length-take, length-take-le}
use Rattle.squawk_lexer.specs.LookAhead.{Agrees}

-- ---- what follows a token in two texts

-- A set of tests of one character.
abbrev pub Tests : Type 1
Tests = (ℕ → Bool) → Type 0

-- A set of pairs of tests, for two characters in a row.
abbrev pub PairTests : Type 1
PairTests = (ℕ → Bool) → (ℕ → Bool) → Type 0

-- Two texts go on with c and r, and with d and s. Each test of `tests` says the same of c and d,
-- and each pair of `pairs` says the same of the first two characters.
pub record Follows (tests : Tests) (pairs : PairTests) (c d : ℕ) (r s : List ℕ) : Type 0 where
  pub one : (p : ℕ → Bool) → tests p → p d ≡ p c
  pub two : (p q : ℕ → Bool) → pairs p q → (p d && q (get_or s 0 0)) ≡ (p c && q (get_or r 0 0))

-- ---- lists that begin alike

-- g is the same of any two texts that begin with xs and go on so, where g reads no further than
-- xs. The measure m is the number of characters that g reads.
abbrev pub Looks : {X : Type 0} → Tests → PairTests → (List ℕ → X) → (List ℕ → ℕ) → Type 0
Looks tests pairs g m =
    (xs : List ℕ) (c d : ℕ) (r s : List ℕ) → Follows tests pairs c d r s
    → m (xs ++ c ∷ r) ≤ length xs → g (xs ++ d ∷ s) ≡ g (xs ++ c ∷ r)

-- Two choices by one test are equal where the branches taken are. m bounds what a branch reads.
pub branch : {X : Type 0} (m : X → ℕ) (b : Bool) (x y x' y' : X) (n : ℕ)
    → (b ≡ true → m x ≤ n → x' ≡ x) → (b ≡ false → m y ≤ n → y' ≡ y)
    → m (cond b x y) ≤ n → cond b x' y' ≡ cond b x y
branch m true x y x' y' n p q h = p refl h
branch m false x y x' y' n p q h = q refl h

-- The same for choices by two equal tests.
pub pick : {X : Type 0} (m : X → ℕ) (b b' : Bool) (x y x' y' : X) (n : ℕ) → b' ≡ b
    → (b ≡ true → m x ≤ n → x' ≡ x) → (b ≡ false → m y ≤ n → y' ≡ y)
    → m (cond b x y) ≤ n → cond b' x' y' ≡ cond b x y
pick m b b' x y x' y' n e p q h = rw e (branch m b x y x' y' n p q h)

-- ---- texts that agree

-- Texts that agree on n characters: both have n, they agree on fewer, and each character is the
-- same.
pub agrees_right : (n : ℕ) (u v : List ℕ) → Agrees n u v → n ≤ length v
agrees_right n u v a = by (cases_lt (length v) n)
  where
    by : (length v < n) ⊎ (n ≤ length v) → n ≤ length v
    by (inr h) = h
    by (inl h) =
        let left : length (take n u) ≡ n = length-take-le n u a.within in
        let right : length (take n v) ≡ length (take n u) = ap length a.same in
        let less : length (take n v) ≤ length v = omega (arith, length-take n v) in
        omega arith

pub agrees_less : (m n : ℕ) (u v : List ℕ) → m ≤ n → Agrees n u v → Agrees m u v
agrees_less m n u v h a = record {
  within = let w : n ≤ length u = a.within in omega arith;
  same = sym (take-take m n v h) ∙ ap (take m) a.same ∙ take-take m n u h;
}

pub agrees_read : (n : ℕ) (u v : List ℕ) (j : ℕ) → Agrees n u v → j < n
    → get_or v j 0 ≡ get_or u j 0
agrees_read n u v j a h = sym (get_or-take n v j 0 h) ∙ ap (λ w. get_or w j 0) a.same
    ∙ get_or-take n u j 0 h

-- ---- texts that agree up to the index k at which a token ends, and go on alike

-- Two texts that agree on the characters before index k, the end of a token, and go on alike
-- there.
pub record Alike (tests : Tests) (pairs : PairTests) (k : ℕ) (u v : List ℕ) : Type 0 where
  pub left : k < length u
  pub right : k < length v
  pub same : take k v ≡ take k u
  pub follows : Follows tests pairs (get_or u k 0) (get_or v k 0) (drop (k + 1) u) (drop (k + 1) v)

-- Alike texts have the same first n characters, for n up to k,
pub take_same : {tests : Tests} {pairs : PairTests} (k : ℕ) (u v : List ℕ) (n : ℕ)
    → Alike tests pairs k u v → n ≤ k → take n v ≡ take n u
take_same k u v n a h = sym (take-take n k v h) ∙ ap (take n) a.same ∙ take-take n k u h

-- and the same character at each index before k.
pub read : {tests : Tests} {pairs : PairTests} (k : ℕ) (u v : List ℕ) (j : ℕ)
    → Alike tests pairs k u v → j < k → get_or v j 0 ≡ get_or u j 0
read k u v j a h = sym (get_or-take k v j 0 h) ∙ ap (λ w. get_or w j 0) a.same
    ∙ get_or-take k u j 0 h

-- A test says the same of the character at each index up to k.
pub test : {tests : Tests} {pairs : PairTests} (p : ℕ → Bool)
    → tests p → (k : ℕ) (u v : List ℕ) (j : ℕ) → Alike tests pairs k u v → j ≤ k
    → p (get_or v j 0) ≡ p (get_or u j 0)
test p t k u v j a h = by (cases_lt j k)
  where
    by : (j < k) ⊎ (k ≤ j) → p (get_or v j 0) ≡ p (get_or u j 0)
    by (inl less) = ap p (read k u v j a less)
    by (inr end) =
        let at : k ≡ j = omega arith in
        sym (ap (λ n. p (get_or v n 0)) at) ∙ a.follows.one p t ∙ ap (λ n. p (get_or u n 0)) at

-- The character after the one at k.
pub after : (k : ℕ) (u : List ℕ) → get_or (drop (k + 1) u) 0 0 ≡ get_or u (k + 1) 0
after k u = get_or-drop (k + 1) u 0 0 ∙ ap (λ n. get_or u n 0) (omega arith)

-- A pair of tests says the same of two characters in a row, the first at index k at most.
pub pair : {tests : Tests} {pairs : PairTests} (p q : ℕ → Bool) → tests q → pairs p q
    → (k : ℕ) (u v : List ℕ) (i j : ℕ) → Alike tests pairs k u v → i ≤ k → j ≡ i + 1
    → (p (get_or v i 0) && q (get_or v j 0)) ≡ (p (get_or u i 0) && q (get_or u j 0))
pair p q t s k u v i j a h e = by (cases_lt i k)
  where
    by : (i < k) ⊎ (k ≤ i) → (p (get_or v i 0) && q (get_or v j 0))
        ≡ (p (get_or u i 0) && q (get_or u j 0))
    by (inl less) = ap (λ c. p c && q (get_or v j 0)) (read k u v i a less)
        ∙ ap (λ b. p (get_or u i 0) && b) (test q t k u v j a (omega arith))
    by (inr end) =
        let at : k ≡ i = omega arith in
        let next : k + 1 ≡ j = omega arith in
        let two = λ (w : List ℕ). ap (λ c. p (get_or w k 0) && q c) (after k w)
        ∙ ap (λ n. p (get_or w n 0) && q (get_or w (k + 1) 0)) at
        ∙ ap (λ n. p (get_or w i 0) && q (get_or w n 0)) next in
        sym (two v) ∙ a.follows.two p q s ∙ two u

-- A text from index i on is its part up to k, the character at k, and the rest.
up_to : (k : ℕ) (u : List ℕ) (i : ℕ) → i ≤ k → k < length u
    → take (k - i) (drop i u) ++ get_or u k 0 ∷ drop (k + 1) u ≡ drop i u
up_to k u i h within =
    let total : k - i + i ≡ k = omega arith in
    let here : drop k u ≡ get_or u k 0 ∷ drop (k + 1) u = drop_more u k 0 within in
    sym (sym (take-append-drop (k - i) (drop i u))
    ∙ ap (λ w. take (k - i) (drop i u) ++ w) (drop-drop (k - i) i u
    ∙ ap (λ n. drop n u) (omega arith) ∙ here))

-- What g says from index i on is the same of both texts, where it reads no further than k.
pub seen : {X : Type 0} {tests : Tests} {pairs : PairTests} (g : List ℕ → X) (m : List ℕ → ℕ)
    → Looks tests pairs g m → (k : ℕ) (u v : List ℕ) (i : ℕ) → Alike tests pairs k u v
    → i + m (drop i u) ≤ k → g (drop i v) ≡ g (drop i u)
seen g m looks k u v i a h =
    let j : ℕ = k - i in
    let less : k < length u = a.left in
    let left = up_to k u i (omega arith) a.left in
    let prefix : take j (drop i v) ≡ take j (drop i u) = sym (drop-take i j v)
    ∙ ap (drop i) (take_same k u v (i + j) a (omega arith)) ∙ drop-take i j u in
    let right : take j (drop i u) ++ get_or v k 0 ∷ drop (k + 1) v ≡ drop i v =
    ap (λ w. w ++ get_or v k 0 ∷ drop (k + 1) v) (sym prefix) ∙ up_to k v i (omega arith) a.right
    in
    let len : length (take j (drop i u)) ≡ j =
    length-take-le j (drop i u) (omega (arith, length-drop i u)) in
    let known : m (take j (drop i u) ++ get_or u k 0 ∷ drop (k + 1) u)
    ≤ length (take j (drop i u)) = omega (arith, ap m left) in
    sym (ap g right)
    ∙ looks (take j (drop i u)) (get_or u k 0) (get_or v k 0) (drop (k + 1) u) (drop (k + 1) v)
    a.follows known ∙ ap g left
