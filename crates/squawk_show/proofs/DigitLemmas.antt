-- The decimal digits of a number, four at a time.
use Rattle.std.proofs.Common.{◌≡◌, ℕ, ◌+◌, ◌-◌, ◌/◌, ◌%◌, ◌^◌, ◌<◌, ◌≤◌, List, [], ◌∷◌, ◌++◌, length, refl, subst, ◌⊎◌, inl, inr, take, drop, ap, sym, ◌∙◌, append_assoc, arith, slice_index, length-take-le}
use Rattle.std.specs.Prelude.{decimal}
use Rattle.std.proofs.lemmas.Fmt.{decimal_digit, decimal_step}
use Rattle.std.proofs.lemmas.List.{take_at, drop_at, take-append-le, take-take, length-append, length_push, get_or_push, get_or_append_left}
use Rattle.std.proofs.lemmas.Bool.{cases_lt}
use Rattle.std.proofs.Math.Seq.{take-add, take-append-add}
use borrow.Rule.Slice.PartMut.{put_mid, post_of}
use Rattle.squawk_show.specs.Digits.{last_four_digits, u32_bytes, u64_bytes, SpellsNumber, StartsPacked, StartsWithDigits, IsLastFourDigits, IsTable}

-- `decimal_one` to `decimal_four`: the digits of a number with so many digits
pub decimal_one : (n : ℕ) → n < 10 → decimal n ≡ (48 + n) ∷ []
decimal_one n h = decimal_digit n h

pub decimal_two : (n : ℕ) → 10 ≤ n → n < 100 → decimal n ≡ (48 + n / 10) ∷ (48 + n % 10) ∷ []
decimal_two n low high =
    decimal_step n low (omega arith)
    ∙ ap (λ ds. ds ++ (48 + n % 10) ∷ []) (decimal_one (n / 10) (omega arith))

pub decimal_three : (n : ℕ) → 100 ≤ n → n < 1000
    → decimal n ≡ (48 + n / 100) ∷ (48 + n / 10 % 10) ∷ (48 + n % 10) ∷ []
decimal_three n low high =
    let e : n / 10 / 10 ≡ n / 100 = omega arith in
    decimal_step n (omega arith) (omega arith)
    ∙ ap (λ ds. ds ++ (48 + n % 10) ∷ []) (decimal_two (n / 10) (omega arith) (omega arith))
    ∙ ap (λ d. (48 + d) ∷ (48 + n / 10 % 10) ∷ (48 + n % 10) ∷ []) e

pub decimal_four : (n : ℕ) → 1000 ≤ n → n < 10000
    → decimal n ≡ (48 + n / 1000) ∷ (48 + n / 100 % 10) ∷ (48 + n / 10 % 10) ∷ (48 + n % 10) ∷ []
decimal_four n low high =
    let e : n / 10 / 100 ≡ n / 1000 = omega arith in
    let f : n / 10 / 10 ≡ n / 100 = omega arith in
    decimal_step n (omega arith) (omega arith)
    ∙ ap (λ ds. ds ++ (48 + n % 10) ∷ []) (decimal_three (n / 10) (omega arith) (omega arith))
    ∙ ap (λ d. (48 + d) ∷ (48 + n / 10 / 10 % 10) ∷ (48 + n / 10 % 10) ∷ (48 + n % 10) ∷ []) e
    ∙ ap (λ d. (48 + n / 1000) ∷ (48 + d % 10) ∷ (48 + n / 10 % 10) ∷ (48 + n % 10) ∷ []) f

-- after all digits of a number but the last comes the last
pub last_digit : (n : ℕ) (out upper : List ℕ) → 10 ≤ n → n < 2 ^ 64
    → upper ≡ out ++ decimal (n / 10) → upper ++ decimal (n % 10) ≡ out ++ decimal n
last_digit n out upper low high is =
    ap (λ xs. xs ++ decimal (n % 10)) is ∙ append_assoc out (decimal (n / 10)) (decimal (n % 10))
    ∙ ap (λ ds. out ++ (decimal (n / 10) ++ ds)) (decimal_digit (n % 10) (omega arith))
    ∙ sym (ap (λ ds. out ++ ds) (decimal_step n low high))

-- the digits of a number with more than four are those of n / 10000, and then the last four
pub decimal_more : (n : ℕ) → 10000 ≤ n → n < 2 ^ 32
    → decimal n ≡ decimal (n / 10000) ++ last_four_digits (n % 10000)
decimal_more n low high =
    let q1 = n / 10 in
    let q2 = q1 / 10 in
    let q3 = q2 / 10 in
    let q4 = q3 / 10 in
    let e1 : decimal n ≡ decimal q1 ++ (48 + n % 10) ∷ [] =
    decimal_step n (omega arith) (omega arith) in
    let e2 : decimal q1 ≡ decimal q2 ++ (48 + q1 % 10) ∷ [] =
    decimal_step q1 (omega arith) (omega arith) in
    let e3 : decimal q2 ≡ decimal q3 ++ (48 + q2 % 10) ∷ [] =
    decimal_step q2 (omega arith) (omega arith) in
    let e4 : decimal q3 ≡ decimal q4 ++ (48 + q3 % 10) ∷ [] =
    decimal_step q3 (omega arith) (omega arith) in
    let f3 : decimal q2 ≡ decimal q4 ++ (48 + q3 % 10) ∷ (48 + q2 % 10) ∷ [] = e3
    ∙ ap (λ ds. ds ++ (48 + q2 % 10) ∷ []) e4 ∙ append_assoc (decimal q4) _ _ in
    let f2 : decimal q1 ≡ decimal q4 ++ (48 + q3 % 10) ∷ (48 + q2 % 10) ∷ (48 + q1 % 10) ∷ [] = e2
    ∙ ap (λ ds. ds ++ (48 + q1 % 10) ∷ []) f3 ∙ append_assoc (decimal q4) _ _ in
    let f1 : decimal n ≡ decimal q4 ++ (48 + q3 % 10) ∷ (48 + q2 % 10) ∷ (48 + q1 % 10)
    ∷ (48 + n % 10) ∷ [] = e1 ∙ ap (λ ds. ds ++ (48 + n % 10) ∷ []) f2
    ∙ append_assoc (decimal q4) _ _ in
    let m = n % 10000 in
    let g4 : q4 ≡ n / 10000 = omega arith in
    let g3 : q3 % 10 ≡ m / 1000 % 10 = omega arith in
    let g2 : q2 % 10 ≡ m / 100 % 10 = omega arith in
    let g1 : q1 % 10 ≡ m / 10 % 10 = omega arith in
    let g0 : n % 10 ≡ m % 10 = omega arith in
    f1 ∙ rw (g4, g3, g2, g1, g0) refl

-- a list that starts with the digits of a number, cut to their count
pub take_digits : (n : ℕ) (ds rest : List ℕ) → decimal n ≡ ds
    → take (length (decimal n)) (ds ++ rest) ≡ decimal n
take_digits n ds rest e = ap (λ xs. take (length xs) (ds ++ rest)) e
    ∙ take_at ds rest (length ds) refl ∙ sym e

-- the entries of a table to which one was pushed, by whether `k` is the new one
entry_push : (Is : ℕ → ℕ → Type 0) (n x : ℕ) (xs : List ℕ) → IsTable Is n xs → Is n x → (k : ℕ)
    → k < n + 1 → (k < n) ⊎ (n ≤ k) → Is k (slice_index (xs ++ x ∷ []) k)
entry_push Is n x xs so_far is k below (inl before) =
    subst (Is k) (sym (get_or_append_left xs (x ∷ []) 0 k (omega (arith, so_far.counted, before))))
    (so_far.each k before)
entry_push Is n x xs so_far is k below (inr last) =
    let e : n ≡ k = omega (arith, below, last) in
    subst (λ m. Is m (slice_index (xs ++ x ∷ []) m)) e
    (subst (Is n) (sym (get_or_push xs x 0 n so_far.counted)) is)

-- a table with one entry more
pub table_push : (Is : ℕ → ℕ → Type 0) (n x : ℕ) (xs : List ℕ) → IsTable Is n xs → Is n x
    → IsTable Is (n + 1) (xs ++ x ∷ [])
table_push Is n x xs so_far is = record {
  counted = length_push xs x ∙ ap (λ m. m + 1) so_far.counted;
  each = λ k below. entry_push Is n x xs so_far is k below (cases_lt k n);
}

-- the digits of a number of five or six, packed with the last four after the others
pub packed_more : (n leading packed lower width : ℕ) → 10000 ≤ n → n < 2 ^ 32
    → width ≡ length (decimal (n / 10000)) → width ≤ 2 → StartsWithDigits (n / 10000) leading
    → IsLastFourDigits (n % 10000) lower
    → take (width + 4) (u64_bytes packed) ≡ take width (u32_bytes leading) ++ u32_bytes lower
    → StartsPacked n packed (width + 4)
packed_more n leading packed lower width low high wide narrow starts ends joined = record {
  narrow = let h : width + 4 ≤ 6 = omega (arith, narrow) in h;
  written = joined ∙ ap (λ m. take m (u32_bytes leading) ++ u32_bytes lower) wide
      ∙ ap (λ xs. xs ++ u32_bytes lower) starts ∙ ap (λ xs. decimal (n / 10000) ++ xs) ends
      ∙ sym (decimal_more n low high);
}

-- all digits of a number but the last four, and then the last four, spell it
pub spells_more : (n high upper lower width len : ℕ) → 10000 ≤ n → n < 2 ^ 32 → high ≡ n / 10000
    → StartsPacked high upper width → IsLastFourDigits (n % 10000) lower → len ≡ width + 4
    → SpellsNumber n (record { upper = upper; lower = lower; width = width; len = len })
spells_more n high upper lower width len low bound is_high starts ends is_len =
    let all : len - width ≡ 4 = omega (arith, is_len) in
    record {
      narrow = starts.narrow;
      ordered = let h : width ≤ len = omega (arith, is_len) in h;
      short = let h : len ≤ width + 4 = omega (arith, is_len) in h;
      written = ap (λ xs. xs ++ take (len - width) (u32_bytes lower)) starts.written
          ∙ ap (λ m. decimal high ++ take m (u32_bytes lower)) all
          ∙ ap (λ xs. decimal high ++ xs) ends
          ∙ ap (λ m. decimal m ++ last_four_digits (n % 10000)) is_high
          ∙ sym (decimal_more n low bound);
    }

-- after bytes were written at an offset: what was before it, and a prefix of what was written
pub take_put : (at k n : ℕ) (xs ys zs : List ℕ) → at ≤ length xs → ys ≡ zs → n ≤ length zs
    → take (at + n) (put_mid at k xs ys) ≡ take at xs ++ take n zs
take_put at k n xs ys zs within same short =
    let post = post_of at k xs in
    let size = length-take-le at xs within in
    take-add at n (take at xs ++ (ys ++ post))
    ∙ ap (λ ws. ws ++ take n (drop at (take at xs ++ (ys ++ post))))
    (take_at (take at xs) (ys ++ post) at size)
    ∙ ap (λ ws. take at xs ++ take n ws)
    (drop_at (take at xs) (ys ++ post) at size ∙ ap (λ ws. ws ++ post) same)
    ∙ ap (λ ws. take at xs ++ ws) (take-append-le n zs post short)

-- After two groups of bytes were written one after another, each as `take_put` says: the first
-- `len` bytes from the first group on, of which it has `width`.
pub groups_written : (at width len : ℕ) (old one all first last : List ℕ)
    → take (at + width) one ≡ take at old ++ take width first
    → take (at + width + 4) all ≡ take (at + width) one ++ take 4 last
    → take 4 last ≡ last → length (take at old) ≡ at → length (take width first) ≡ width
    → width ≤ len → len ≤ width + 4
    → take (at + len) all ≡ take at old ++ (take width first ++ take (len - width) last)
groups_written at width len old one all first last is_one is_all four_last size_old size_first
    ordered short =
    let start = take at old ++ take width first in
    let size : length start ≡ at + width = length-append (take at old) (take width first)
    ∙ ap (λ n. n + length (take width first)) size_old ∙ ap (λ n. at + n) size_first in
    let full : take (at + width + 4) all ≡ start ++ last = is_all
    ∙ ap (λ xs. xs ++ take 4 last) is_one ∙ ap (λ xs. start ++ xs) four_last in
    let split : at + len ≡ length start + (len - width) = omega (arith, size, ordered) in
    sym (take-take (at + len) (at + width + 4) all (omega (arith, short)))
    ∙ ap (take (at + len)) full
    ∙ ap (λ n. take n (start ++ last)) split
    ∙ take-append-add start last (len - width)
    ∙ append_assoc (take at old) (take width first) (take (len - width) last)
