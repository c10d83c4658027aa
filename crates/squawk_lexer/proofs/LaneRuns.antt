-- Runs within the first bytes of a text, from the mask of a vector of them.
use Rattle.std.proofs.Common.{◌≡◌, ℕ, zero, suc, ◌+◌, ◌%◌, ◌^◌, ◌<◌, ◌≤◌, Bool, true, false, not, cond, ◌||◌, ◌&&◌, bit_or, List, [], ◌∷◌, map, length, get_or, take, drop, Fits, w8, refl, sym, ap, ap₂, ◌∙◌, arith}
use Rattle.std.proofs.lemmas.Simd.{map-map, mask_l-mod, length-chunk, first_set_mask_l}
use Rattle.std.proofs.lemmas.List.{length-map}
use Rattle.std.specs.List.{prefix_len}
use lib.Lanes.{chunk, zip2, mask_l, top}
use Rattle.squawk_lexer.specs.Bytes.{first_set}
use Rattle.squawk_lexer.proofs.ByteClasses.{agree_below, agree_at}

-- r is the length of the run of q at the start of xs, up to n.
pub record IsRunWithin (q : ℕ → Bool) (xs : List ℕ) (n r : ℕ) : Type 0 where
  pub within : r ≤ n
  pub prefix : r + prefix_len q (drop r xs) ≡ prefix_len q xs
  pub whole : r < n → r ≡ prefix_len q xs

-- The run in the first n elements, by the test at the first.
run_at : (q : ℕ → Bool) (n x : ℕ) (xs : List ℕ) (t : Bool) → q x ≡ t
    → IsRunWithin q xs n (prefix_len q (take n xs))
    → IsRunWithin q (x ∷ xs) (suc n) (prefix_len q (x ∷ take n xs))
run_at q n x xs true e h =
    let r = prefix_len q (take n xs) in
    let here : prefix_len q (x ∷ take n xs) ≡ suc r = rw e (omega arith) in
    let all : prefix_len q (x ∷ xs) ≡ suc (prefix_len q xs) = rw e (omega arith) in
    let next : suc r + prefix_len q (drop r xs) ≡ prefix_len q (x ∷ xs) =
    omega (arith, h.prefix, all) in
    let whole : suc r < suc n → suc r ≡ prefix_len q (x ∷ xs) =
    λ short. omega (arith, all, h.whole (omega arith)) in
    rw here (record { within = omega (arith, h.within); prefix = next; whole = whole })
run_at q n x xs false e h =
    let here : prefix_len q (x ∷ take n xs) ≡ 0 = rw e refl in
    let all : prefix_len q (x ∷ xs) ≡ 0 = rw e refl in
    let next : 0 + prefix_len q (x ∷ xs) ≡ prefix_len q (x ∷ xs) = omega arith in
    rw here (record { within = omega arith; prefix = next; whole = λ short. sym all })

-- The run in the first n elements is the run up to n.
run_within : (q : ℕ → Bool) (n : ℕ) (xs : List ℕ) → n ≤ length xs
    → IsRunWithin q xs n (prefix_len q (take n xs))
run_within q zero xs few = record {
  within = omega arith;
  prefix = omega arith;
  whole = λ short. absurd (omega arith);
}
run_within q (suc n) [] few = absurd (omega arith)
run_within q (suc n) (x ∷ xs) few =
    run_at q n x xs (q x) refl (run_within q n xs (omega arith))

-- Tests that agree on all bytes have the same runs in bytes.
prefix_agrees : (p q : ℕ → Bool) → ((b : ℕ) → b < 256 → p b ≡ q b) → (xs : List ℕ)
    → ((k : ℕ) → get_or xs k 0 < 256) → prefix_len p xs ≡ prefix_len q xs
prefix_agrees p q agree [] bytes = refl
prefix_agrees p q agree (x ∷ xs) bytes =
    ap₂ (λ t n. cond t (1 + n) 0) (agree x (bytes 0))
    (prefix_agrees p q agree xs (λ k. bytes (suc k)))

-- The first elements of a list of bytes are bytes.
take_bytes : (n : ℕ) (xs : List ℕ) → ((k : ℕ) → get_or xs k 0 < 256) → (k : ℕ)
    → get_or (take n xs) k 0 < 256
take_bytes zero xs bytes k = omega arith
take_bytes (suc n) [] bytes k = omega arith
take_bytes (suc n) (x ∷ xs) bytes zero = bytes 0
take_bytes (suc n) (x ∷ xs) bytes (suc k) = take_bytes n xs (λ j. bytes (suc j)) k

-- A vector z is computed lane by lane from the first n bytes, by f, and its lanes' highest bits are
-- set exactly at the bytes that q fails. Then the first set bit of its mask ends the run of q.
pub lanes_run : (q : ℕ → Bool) (xs z : List ℕ) (n r : ℕ) (f : ℕ → ℕ) → n ≤ length xs → n ≤ 64
    → ((k : ℕ) → Fits w8 (get_or xs k 0)) → r ≡ first_set n (mask_l (map (top 7) z) % 2 ^ 64)
    → z ≡ map f (chunk 0 n xs) → ((b : ℕ) → b < 256 → not (top 7 (f b)) ≡ q b)
    → IsRunWithin q xs n r
lanes_run q xs z n r f few small fits found lanes agree =
    let v = chunk 0 n xs in
    let long : length v ≡ n = length-chunk 0 n xs (omega arith) in
    let stops : ℕ → Bool = λ x. top 7 (f x) in
    let mask = ap (λ l. mask_l l % 2 ^ 64)
    (ap (map (top 7)) lanes ∙ map-map (top 7) f v)
    ∙ mask_l-mod (map stops v) 64 (omega (arith, length-map v stops, long)) in
    let run : r ≡ prefix_len q (take n xs) = found ∙ ap (first_set n) mask
    ∙ first_set_mask_l stops v n long small
    ∙ prefix_agrees (λ x. not (stops x)) q agree v
    (take_bytes n xs (λ k. (fits k).fits)) in
    rw run (run_within q n xs few)

-- The same, where the bytes that q fails are computed for all 256.
pub lanes_run_computed : (q : ℕ → Bool) (xs z : List ℕ) (n r : ℕ) (f : ℕ → ℕ) → n ≤ length xs
    → n ≤ 64 → ((k : ℕ) → Fits w8 (get_or xs k 0))
    → r ≡ first_set n (mask_l (map (top 7) z) % 2 ^ 64) → z ≡ map f (chunk 0 n xs)
    → agree_below (λ b. not (top 7 (f b))) q 256 ≡ true → IsRunWithin q xs n r
lanes_run_computed q xs z n r f few small fits found lanes agree =
    lanes_run q xs z n r f few small fits found lanes
    (agree_at (λ b. not (top 7 (f b))) q 256 agree)

-- An operation on two vectors, each computed lane by lane.
zip2_map : (h : ℕ → ℕ → ℕ) (f g : ℕ → ℕ) (v : List ℕ)
    → zip2 h (map f v) (map g v) ≡ map (λ x. h (f x) (g x)) v
zip2_map h f g [] = refl
zip2_map h f g (x ∷ v) = ap (λ r. h (f x) (g x) ∷ r) (zip2_map h f g v)

-- An operation on two vectors, each computed lane by lane from v.
pub joined : (h : ℕ → ℕ → ℕ) (f g : ℕ → ℕ) (v : List ℕ) {a b : List ℕ} → a ≡ map f v
    → b ≡ map g v → zip2 h a b ≡ map (λ x. h (f x) (g x)) v
joined h f g v p q = ap₂ (zip2 h) p q ∙ zip2_map h f g v

-- The highest bit of a lane in which either of two tests sets all bits.
pub neither_top : (s t : Bool)
    → not (top 7 (bit_or (cond s 255 0) (cond t 255 0))) ≡ not (s || t)
neither_top true true = refl
neither_top true false = refl
neither_top false true = refl
neither_top false false = refl

-- The same of four tests.
pub none_top : (s t x y : Bool)
    → not (top 7 (bit_or (bit_or (cond s 255 0) (cond t 255 0)) (bit_or (cond x 255 0) (cond y 255 0))))
    ≡ (not (s || t) && not (x || y))
none_top true true true true = refl
none_top true true true false = refl
none_top true true false true = refl
none_top true true false false = refl
none_top true false true true = refl
none_top true false true false = refl
none_top true false false true = refl
none_top true false false false = refl
none_top false true true true = refl
none_top false true true false = refl
none_top false true false true = refl
none_top false true false false = refl
none_top false false true true = refl
none_top false false true false = refl
none_top false false false true = refl
none_top false false false false = refl
