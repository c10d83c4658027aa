-- Skipping tokens one by one.
use Rattle.std.proofs.Common.{inl, inr, ◌≡◌, ℕ, zero, suc, ◌+◌, ◌-◌, ◌<◌, ◌≤◌, Bool, true, false, nat_lt, ◌||◌, ◌&&◌, eqb, List, [], ◌∷◌, ◌++◌, length, get_or, take, drop, refl, sym, ◌∙◌, ap, subst, arith, length-drop}
use Rattle.std.proofs.lemmas.Bool.{cases_lt}
use Rattle.std.proofs.lemmas.Bool.Decides.{nat_tests}
use Rattle.std.proofs.lemmas.List.{take-append-drop, take_more, drop_more}
use Rattle.squawk_lexer.specs.Cut.{token_ends}
use Rattle.squawk_lexer.specs.declared.token.Token.{Token}
use Rattle.squawk_document.specs.Boundaries.{is_among, is_boundary, total_len}
use Rattle.squawk_document.specs.Recut.{is_new_meeting}
use Rattle.squawk_document.proofs.OffsetTests.{total_len-append, token_ends-append, any-append, or_parts, same_offset, end_of_all, end_within}

-- the bytes of one more token
pub total_more : (ts : List Token) (i : ℕ) (d : Token) → i < length ts
    → total_len (take (i + 1) ts) ≡ total_len (take i ts) + (get_or ts i d).len
total_more ts i d h = ap total_len (take_more ts i d h)
    ∙ total_len-append (take i ts) (get_or ts i d ∷ []) ∙ omega arith

-- the first i tokens have no more bytes than all
pub total_take_le : (i : ℕ) (ts : List Token) → total_len (take i ts) ≤ total_len ts
total_take_le i ts =
    omega (arith, ap total_len (take-append-drop i ts), total_len-append (take i ts) (drop i ts))

pub ruleset total_steps = (total_more, total_take_le)

-- an end lies at the start or past it
pub end_from : (at : ℕ) (xs : List Token) (p : ℕ) → is_among (token_ends at xs) p ≡ true → at ≤ p
end_from at [] p m = absurd (cc)
end_from at (x ∷ xs) p m =
    elim (or_parts (eqb (at + x.len) p) (is_among (token_ends (at + x.len) xs) p) m) [
      | inl e ↦ let same = same_offset (at + x.len) p e in omega arith
      | inr e ↦ let rest =
          end_from (at + x.len) xs p e in omega arith
    ]

-- no token ends before the first begins
no_end : (at : ℕ) (xs : List Token) (p : ℕ) → p < at → is_among (token_ends at xs) p ≡ false
no_end at xs p h = by (is_among (token_ends at xs) p) refl
  where
    by : (b : Bool) → is_among (token_ends at xs) p ≡ b → is_among (token_ends at xs) p ≡ false
    by true e = absurd (omega (arith, end_from at xs p e))
    by false e = e

-- no token ends past the end of all
no_end_past : (at : ℕ) (xs : List Token) (p : ℕ) → at + total_len xs < p
    → is_among (token_ends at xs) p ≡ false
no_end_past at xs p h = by (is_among (token_ends at xs) p) refl
  where
    by : (b : Bool) → is_among (token_ends at xs) p ≡ b → is_among (token_ends at xs) p ≡ false
    by true e = absurd (omega (arith, end_within at xs p e))
    by false e = e

-- an end of tokens, the first of which ends past the offset
no_end_in : (at : ℕ) (ys : List Token) (p : ℕ) → (0 < length ys → p < at + total_len (take 1 ys))
    → at < p → is_among (token_ends at ys) p ≡ false
no_end_in at [] p h low = refl
no_end_in at (y ∷ ys) p h low =
    let past : p < at + (y.len + 0) = h (omega arith) in
    let first : eqb (at + y.len) p ≡ false = grind (arith, nat_tests) in
    rw first (no_end (at + y.len) ys p (omega arith))

-- if some tokens end at or before an offset, and the next one past it, it is a boundary exactly if
-- they end at it
boundary_split : (xs ys : List Token) (p : ℕ) → 0 < p → total_len xs ≤ p
    → (0 < length ys → p < total_len xs + total_len (take 1 ys))
    → is_boundary (xs ++ ys) p ≡ eqb (total_len xs) p
boundary_split xs ys p some low high = by (eqb (total_len xs) p) refl
  where
    some_is : eqb p 0 ≡ false
    some_is = grind (arith, nat_tests)

    split : is_among (token_ends 0 (xs ++ ys))
        p ≡ (is_among (token_ends 0 xs) p || is_among (token_ends (0 + total_len xs) ys) p)
    split = ap (λ es. is_among es p) (token_ends-append 0 xs ys)
        ∙ any-append (λ q. eqb q p) (token_ends 0 xs) (token_ends (0 + total_len xs) ys)

    at_end : (zs : List Token) → total_len zs ≡ p → is_among (token_ends 0 zs) p ≡ true
    at_end [] e = absurd (omega arith)
    at_end (z ∷ zs) e = end_of_all 0 z zs p (omega arith)

    by : (b : Bool) → eqb (total_len xs) p ≡ b → is_boundary (xs ++ ys) p ≡ b
    by true e = rw (some_is, split, at_end xs (same_offset (total_len xs) p e)) refl
    by false e =
        let under : total_len xs < p = grind (arith, nat_tests) in
        rw (
          some_is,
          split,
          no_end_past 0 xs p (omega arith),
          no_end_in
              (0 + total_len xs) ys p (λ h. let k = high h in omega arith) (omega arith),
        ) refl

-- the next token ends past p, by the tokens that are left
pub next_total : (ts : List Token) (i p : ℕ) → (i < length ts → p < total_len (take (i + 1) ts))
    → 0 < length (drop i ts) → p < total_len (take i ts) + total_len (take 1 (drop i ts))
next_total [] zero p h low = absurd (omega arith)
next_total [] (suc i) p h low = absurd (omega arith)
next_total (t ∷ ts) i p h low =
    let inside : i < length (t ∷ ts) = omega (arith, length-drop i (t ∷ ts)) in
    let first = ap (λ ws. total_len (take 1 ws)) (drop_more (t ∷ ts) i t inside) in
    omega (arith, h inside, first, total_more (t ∷ ts) i t inside)

-- an offset is a boundary exactly where skipped tokens end at it
pub boundary_at : (ts : List Token) (i p : ℕ) → 0 < p → total_len (take i ts) ≤ p
    → (i < length ts → p < total_len (take (i + 1) ts))
    → is_boundary ts p ≡ eqb (total_len (take i ts)) p
boundary_at ts i p some low high = ap (λ us. is_boundary us p) (sym (take-append-drop i ts))
    ∙ boundary_split (take i ts) (drop i ts) p some low (next_total ts i p high)

-- the test for a meeting, by where the skipped tokens end
pub is_new_meeting_at : (ts : List Token) (i p new_end end q : ℕ) → new_end ≤ p
    → q ≡ p - new_end + end → 0 < q → total_len (take i ts) ≤ q
    → (i < length ts → q < total_len (take (i + 1) ts))
    → eqb (total_len (take i ts)) q ≡ is_new_meeting new_end end ts p
is_new_meeting_at ts i p new_end end q low is some under high =
    let a : nat_lt p new_end ≡ false = grind (arith, nat_tests) in
    let b : nat_lt 0 (p - new_end + end) ≡ true = grind (arith, nat_tests) in
    let c : is_boundary ts (p - new_end + end) ≡ eqb (total_len (take i ts)) q =
    ap (is_boundary ts) (sym is) ∙ boundary_at ts i q some under high in
    rw (a, b, c) refl

-- the same in the words of the code
pub is_new_meeting_here : (ts : List Token) (i offset p new_end end : ℕ) → new_end ≤ p
    → offset ≡ total_len (take i ts) → offset ≤ p - new_end + end
    → (i < length ts → p - new_end + end < total_len (take (i + 1) ts))
    → (nat_lt 0 (p - new_end + end) && eqb offset (p - new_end + end)) ≡ is_new_meeting new_end end
    ts p
is_new_meeting_here ts i offset p new_end end low offset_is under high =
    let a : nat_lt p new_end ≡ false = grind (arith, nat_tests) in
    elim (cases_lt 0 (p - new_end + end)) [
      | inl some ↦
          let b : nat_lt 0 (p - new_end + end) ≡ true = grind (arith, nat_tests) in
          ap (λ t. t && eqb offset (p - new_end + end)) b
          ∙ ap (λ n. eqb n (p - new_end + end)) offset_is
          ∙ is_new_meeting_at ts i p new_end end (p - new_end + end) low refl some
          (subst (λ n. n ≤ p - new_end + end) offset_is under) high
      | inr none ↦
          let b : nat_lt 0 (p - new_end + end) ≡ false = grind (arith, nat_tests) in
          rw (a, b) refl
    ]
