-- Replacing a range of a list by rotations of its tail.
use Rattle.std.proofs.Common.{◌≡◌, ℕ, ◌+◌, ◌-◌, ◌≤◌, List, ◌++◌, length, length-append, length-drop, length-take-le, take, drop, append_assoc, sym, ap, ◌∙◌, arith}
use Rattle.std.proofs.lemmas.List.{take-append-drop, drop-drop, take-append-le, take_all, take_at, drop_at, drop_all, append-nil}

-- a slice of all of a vector, written back
pub written : {T : Type 0} (n : ℕ) (xs ys : List T) → length xs ≡ length ys → n ≡ length ys
    → take n (xs ++ drop (length xs) ys) ≡ xs
written n xs ys same n_is =
    ap (λ zs. take n (xs ++ zs)) (drop_all (length xs) ys (omega (arith, same)))
    ∙ ap (take n) (append-nil xs) ∙ take_all n xs (omega (arith, same, n_is))

-- a list in three parts
parts : {T : Type 0} (xs : List T) (front_len count : ℕ)
    → take front_len xs ++ (take count (drop front_len xs) ++ drop (front_len + count) xs) ≡ xs
parts xs front_len count =
    ap (λ ys. take front_len xs ++ (take count (drop front_len xs) ++ ys))
    (sym (drop-drop count front_len xs))
    ∙ ap (λ ys. take front_len xs ++ ys) (take-append-drop count (drop front_len xs))
    ∙ take-append-drop front_len xs

-- what two rotations of a tail, with a cut between them, make of a list
pub replace_is : {T : Type 0} (xs ws v1 v2 v3 v4 : List T)
    (front_len next count added total_len : ℕ) → front_len ≤ next → next ≤ length xs
    → count ≡ next - front_len → added ≡ length ws → total_len ≡ length xs - count + added
    → v1 ≡ xs ++ ws
    → ((a m b : List T) → v1 ≡ a ++ (m ++ b) → length a ≡ front_len → length m ≡ count
    → v2 ≡ a ++ (b ++ m)) → v3 ≡ take total_len v2
    → ((a m b : List T) → v3 ≡ a ++ (m ++ b) → length a ≡ front_len
    → length m ≡ total_len - front_len - added → v4 ≡ a ++ (b ++ m))
    → v4 ≡ take front_len xs ++ (ws ++ drop next xs)
replace_is {T} xs ws v1 v2 v3 v4 front_len next count added total_len low within
    count_is added_is total_is first turned cut back =
    let a : List T = take front_len xs in
    let m : List T = take count (drop front_len xs) in
    let b : List T = drop (front_len + count) xs in
    let a_len : length a ≡ front_len = length-take-le front_len xs (omega arith) in
    let m_len : length m ≡ count =
    length-take-le count (drop front_len xs) (omega (arith, length-drop front_len xs)) in
    let b_len : length b ≡ length xs - (front_len + count) = length-drop (front_len + count) xs in
    let whole : a ++ (m ++ b) ≡ xs = parts xs front_len count in
    let one : v1 ≡ a ++ (m ++ (b ++ ws)) =
    first ∙ ap (λ ys. ys ++ ws) (sym whole) ∙ append_assoc a (m ++ b) ws
    ∙ ap (λ ys. a ++ ys) (append_assoc m b ws) in
    let two : v2 ≡ a ++ ((b ++ ws) ++ m) = turned a m (b ++ ws) one a_len m_len in
    let size : length (a ++ (b ++ ws)) ≡ total_len =
    omega (
      arith,
      length-append a (b ++ ws),
      length-append b ws,
      a_len,
      b_len,
      low,
      within,
      count_is,
      added_is,
      total_is,
    ) in
    let three : v3 ≡ a ++ (b ++ ws) =
    cut ∙ ap (take total_len) (two ∙ sym (append_assoc a (b ++ ws) m))
    ∙ take-append-le total_len (a ++ (b ++ ws)) m (omega (arith, size))
    ∙ take_all total_len (a ++ (b ++ ws)) (omega (arith, size)) in
    let four : v4 ≡ a ++ (ws ++ b) =
    back a b ws three a_len
    (omega (arith, a_len, b_len, low, within, count_is, added_is, total_is)) in
    let offset : front_len + count ≡ next = omega (arith, low, count_is) in
    four ∙ ap (λ n. take front_len xs ++ (ws ++ drop n xs)) offset

-- what replaced a range is replaced again by it
pub replace_back : {T : Type 0} (old fresh_items old_items now : List T) (front_len next added : ℕ)
    → front_len ≤ next → next ≤ length old → added ≡ length fresh_items
    → now ≡ take front_len old ++ (fresh_items ++ drop next old)
    → old_items ≡ take (next - front_len) (drop front_len old)
    → take front_len now ++ (old_items ++ drop (front_len + added) now) ≡ old
replace_back {T} old fresh_items old_items now front_len next added low within
    added_is now_is old_items_are =
    let a : List T = take front_len old in
    let b : List T = drop next old in
    let a_len : length a ≡ front_len = length-take-le front_len old (omega (arith, low, within)) in
    let first : take front_len now ≡ a = ap (take front_len) now_is
    ∙ take_at a (fresh_items ++ b) front_len a_len in
    let split : now ≡ (a ++ fresh_items) ++ b = now_is ∙ sym (append_assoc a fresh_items b) in
    let rest : drop (front_len + added) now ≡ b = ap (drop (front_len + added)) split
    ∙ drop_at (a ++ fresh_items) b (front_len + added)
    (omega (arith, length-append a fresh_items, a_len, added_is)) in
    let offset : front_len + (next - front_len) ≡ next = omega (arith, low) in
    ap (λ xs. xs ++ (old_items ++ drop (front_len + added) now)) first
    ∙ ap (λ xs. a ++ (old_items ++ xs)) rest ∙ ap (λ xs. a ++ (xs ++ b)) old_items_are
    ∙ ap (λ n. a ++ (take (next - front_len) (drop front_len old) ++ drop n old)) (sym offset)
    ∙ parts old front_len (next - front_len)

-- as many elements as both have are exchanged, and the rest is replaced
pub exchange_is : {T : Type 0} (xs ws ys vs zs out : List T) (start end common : ℕ) → start ≤ end
    → end ≤ length xs → common ≤ end - start → common ≤ length ws
    → ys ≡ take start xs ++ (take common ws ++ drop (start + common) xs)
    → vs ≡ take common (drop start xs) ++ drop common ws → zs ≡ drop common vs
    → out ≡ take (start + common) ys ++ (zs ++ drop end ys)
    → out ≡ take start xs ++ (ws ++ drop end xs)
exchange_is {T} xs ws ys vs zs out start end common low within common_in
    common_of ys_is vs_is zs_is out_is =
    let a : List T = take start xs in
    let b : List T = take common ws in
    let rest : List T = drop (start + common) xs in
    let a_len : length a ≡ start = length-take-le start xs (omega (arith, low, within)) in
    let b_len : length b ≡ common = length-take-le common ws common_of in
    let old_len : length (take common (drop start xs)) ≡ common =
    length-take-le common (drop start xs)
    (omega (arith, length-drop start xs, low, within, common_in)) in
    let ab_len : length (a ++ b) ≡ start + common =
    omega (arith, length-append a b, a_len, b_len) in
    let split : ys ≡ (a ++ b) ++ rest = ys_is ∙ sym (append_assoc a b rest) in
    let first : take (start + common) ys ≡ a ++ b = ap (take (start + common)) split
    ∙ take_at (a ++ b) rest (start + common) ab_len in
    let after : drop (start + common) ys ≡ rest = ap (drop (start + common)) split
    ∙ drop_at (a ++ b) rest (start + common) ab_len in
    let n : ℕ = end - (start + common) in
    let place : start + common + n ≡ end = omega (arith, low, common_in) in
    let last : drop end ys ≡ drop end xs =
    ap (λ m. drop m ys) (sym place) ∙ sym (drop-drop n (start + common) ys) ∙ ap (drop n) after
    ∙ drop-drop n (start + common) xs ∙ ap (λ m. drop m xs) place in
    let left : zs ≡ drop common ws = zs_is ∙ ap (drop common) vs_is
    ∙ drop_at (take common (drop start xs)) (drop common ws) common old_len in
    out_is ∙ ap (λ us. us ++ (zs ++ drop end ys)) first
    ∙ ap (λ us. (a ++ b) ++ (us ++ drop end ys)) left
    ∙ ap (λ us. (a ++ b) ++ (drop common ws ++ us)) last
    ∙ append_assoc a b (drop common ws ++ drop end xs)
    ∙ ap (λ us. a ++ us) (sym (append_assoc b (drop common ws) (drop end xs)))
    ∙ ap (λ us. a ++ (us ++ drop end xs)) (take-append-drop common ws)
