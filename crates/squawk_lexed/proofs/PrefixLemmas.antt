-- Lists that grew by a prefix of another.
use Rattle.std.proofs.Common.{◌≡◌, suc, ◌-◌, ◌≤◌, List, [], ◌∷◌, ◌++◌, length, take, drop, append_assoc, refl, ap, sym, ◌∙◌, arith}
use Rattle.std.proofs.lemmas.List.{take_at, take-append-drop, append-nil, length-append}
use Rattle.squawk_lexed.specs.Prefixes.{AppendsPrefix}

-- the longer of two lists that begin the same list is the shorter and a prefix of its rest
pub prefix_at : {A : Type 0} (a x b w : List A) → a ++ x ≡ b ++ w → length b ≤ length a
    → a ≡ b ++ take (length a - length b) w
prefix_at a x [] w e le =
    let n : length a - 0 ≡ length a = omega arith in
    sym (rw (n, ← e) (take_at a x (length a) refl))
prefix_at [] x (y ∷ b) w e le = absurd (omega arith)
prefix_at (z ∷ a) x (y ∷ b) w e le =
    let heads : z ≡ y = cc in
    let tails : a ++ x ≡ b ++ w = cc in
    let n : suc (length a) - suc (length b) ≡ length a - length b = omega arith in
    let rest = prefix_at a x b w tails (omega arith) in
    rw (heads, n) (ap (λ ys. y ∷ ys) rest)

-- so it grew by a prefix, if what was appended and what is left make the whole
pub prefix_of : {A : Type 0} (a x b w : List A) → a ++ x ≡ b ++ w → length b ≤ length a
    → AppendsPrefix b a w
prefix_of a x b w e le = (length a - length b, prefix_at a x b w e le)

-- the same of a list that is equal to it
pub prefix_as : {A : Type 0} (now a x b w : List A) → now ≡ a → a ++ x ≡ b ++ w
    → length b ≤ length a
    → AppendsPrefix b now w
prefix_as now a x b w is e le = (length a - length b, is ∙ prefix_at a x b w e le)

-- nothing was appended
pub prefix_none : {A : Type 0} (old now xs : List A) → now ≡ old → AppendsPrefix old now xs
prefix_none old now xs is = (0, is ∙ sym (append-nil old))

-- the first part, or some of it
pub prefix_part : {A : Type 0} (old now xs ys : List A) → AppendsPrefix old now xs
    → AppendsPrefix old now (xs ++ ys)
prefix_part old now xs ys (n, is) =
    prefix_as now (old ++ take n xs) (drop n xs ++ ys) old (xs ++ ys) is
    (append_assoc old (take n xs) (drop n xs ++ ys)
    ∙ ap (λ zs. old ++ zs) (sym (append_assoc (take n xs) (drop n xs) ys)
    ∙ ap (λ zs. zs ++ ys) (take-append-drop n xs)))
    (let e = length-append old (take n xs) in omega arith)

-- the first part, and some of the second
pub prefix_then : {A : Type 0} (old mid now xs ys : List A) → mid ≡ old ++ xs
    → AppendsPrefix mid now ys → AppendsPrefix old now (xs ++ ys)
prefix_then old mid now xs ys first (n, is) =
    prefix_as now (mid ++ take n ys) (drop n ys) old (xs ++ ys) is
    (append_assoc mid (take n ys) (drop n ys) ∙ ap (λ zs. mid ++ zs) (take-append-drop n ys)
    ∙ ap (λ zs. zs ++ ys) first ∙ append_assoc old xs ys)
    (let e = length-append mid (take n ys) in let f = length-append old xs in let g =
    ap length first in omega arith)

-- some of what is left
pub prefix_on : {A : Type 0} (old mid now xs w : List A) → mid ++ xs ≡ old ++ w
    → length old ≤ length mid → AppendsPrefix mid now xs → AppendsPrefix old now w
prefix_on old mid now xs w so_far le (n, is) =
    prefix_as now (mid ++ take n xs) (drop n xs) old w is
    (append_assoc mid (take n xs) (drop n xs)
    ∙ ap (λ zs. mid ++ zs) (take-append-drop n xs) ∙ so_far)
    (let e = length-append mid (take n xs) in omega arith)
