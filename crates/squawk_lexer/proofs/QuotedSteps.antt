-- Steps of the loop over a quoted text.
use Rattle.std.proofs.Common.{◌≡◌, ℕ, ◌+◌, ◌<◌, ◌≤◌, Bool, true, false, List, [], ◌∷◌, length, get_or, drop, slice_get, None, Some, refl, sym, inl, inr, ◌∙◌, arith, ◌⊎◌, ◌&&◌, ◌/◌, ◌%◌, zero, suc, eqb, eq-eqb, cond, unwrap_or, is_some}
use Rattle.std.proofs.lemmas.Bool.{cases_lt, cases_Bool}
use Rattle.std.proofs.lemmas.Bool.Decides.{nat_tests}
use Rattle.std.proofs.Math.Nat.{div-add-mod}
use Rattle.std.specs.List.{prefix_len}
use Rattle.squawk_lexer.specs.Position.{position_after}
use Rattle.squawk_lexer.specs.Quoted.{quoted_end, quoted_len, is_terminated, is_quote}
use Rattle.squawk_lexer.specs.Runs.{run_end}
use Rattle.squawk_lexer.specs.Stops.{is_neither, stop_at}
use Rattle.squawk_lexer.proofs.StopSteps.{run_kept, other_not, stop_is, stop_after}
use Rattle.squawk_lexer.proofs.Steps.{ne_eqb, get_some, mapped, drop_some, drop_none, drop_read, drop_past, within_read, within_some, after_some, after_none, after_within, after_past, after_on}

-- The index at which a quoted text ends, and whether it is closed, are the same from j with r left
-- as from i with v left.
abbrev Same : Bool → ℕ → List ℕ → ℕ → List ℕ → ℕ → Type 0
Same e q v i r j = (j + unwrap_or (quoted_len e q r) (length r)
    ≡ i + unwrap_or (quoted_len e q v) (length v))
    × (is_some (quoted_len e q r) ≡ is_some (quoted_len e q v))

-- A character other than the quote and an escaping backslash: at the start of a list, and at index
-- i.
plain_at : (e : Bool) (q c : ℕ) (r : List ℕ) (i : ℕ) → eqb c q ≡ false → (e && eqb c 92) ≡ false
    → Same e q (c ∷ r) i r (i + 1)
plain_at e q c [] i other plain = rw other (omega arith, refl)
plain_at e q c (d ∷ r) i other plain =
    rw (other, plain) (mapped (quoted_len e q (d ∷ r)) (length (d ∷ r)) _ i 1 (omega arith))

pub quoted_plain : (e : Bool) (q : ℕ) (u : List ℕ) (i c : ℕ) → Some c ≡ slice_get u i
    → eqb c q ≡ false → (e && eqb c 92) ≡ false → (quoted_end e q u (i + 1) ≡ quoted_end e q u i)
    × (is_terminated e q u (i + 1) ≡ is_terminated e q u i)
quoted_plain e q u i c s other plain =
    rw (drop_some u i c s) (plain_at e q c (drop (i + 1) u) i other plain)

-- Two quotes in a row.
pair_at : (e : Bool) (q d : ℕ) (r : List ℕ) (i : ℕ) → eqb d q ≡ true
    → Same e q (q ∷ d ∷ r) i r (i + 2)
pair_at e q d r i twice =
    rw (eq-eqb q q refl, twice) (mapped (quoted_len e q r) (length r) _ i 2 (omega arith))

pub quoted_pair : (e : Bool) (q : ℕ) (u : List ℕ) (i : ℕ) → 0 < q → get_or u i 0 ≡ q
    → get_or u (i + 1) 0 ≡ q → (quoted_end e q u (i + 2) ≡ quoted_end e q u i)
    × (is_terminated e q u (i + 2) ≡ is_terminated e q u i)
quoted_pair e q u i some here next =
    let h : i < length u = within_read u i (omega arith) in
    let k : i + 1 < length u = within_read u (i + 1) (omega arith) in
    let two : i + 1 + 1 ≡ i + 2 = omega arith in
    rw (drop_read u i h, drop_read u (i + 1) k, here, two)
    (pair_at e q _ (drop (i + 2) u) i (rw next (eq-eqb q q refl)))

-- A backslash that escapes.
escaped_at : (q c : ℕ) (d : ℕ) (r : List ℕ) (i : ℕ) → eqb c q ≡ false → eqb c 92 ≡ true
    → Same true q (c ∷ d ∷ r) i r (i + 2)
escaped_at q c d r i other is_backslash =
    rw (other, is_backslash) (mapped (quoted_len true q r) (length r) _ i 2 (omega arith))

pub quoted_escaped : (q : ℕ) (u : List ℕ) (i c : ℕ) → Some c ≡ slice_get u i → eqb c q ≡ false
    → eqb c 92 ≡ true → (quoted_end true q u (position_after u (i + 1)) ≡ quoted_end true q u i)
    × (is_terminated true q u (position_after u (i + 1)) ≡ is_terminated true q u i)
quoted_escaped q u i c s other is_backslash = by (cases_lt (i + 1) (length u))
  where
    by : (i + 1 < length u) ⊎ (length u ≤ i + 1)
        → (quoted_end true q u (position_after u (i + 1)) ≡ quoted_end true q u i)
        × (is_terminated true q u (position_after u (i + 1)) ≡ is_terminated true q u i)
    by (inl h) =
        let two : i + 1 + 1 ≡ i + 2 = omega arith in
        rw (after_within u (i + 1) h, drop_some u i c s, drop_read u (i + 1) h, two)
        (escaped_at q c _ (drop (i + 2) u) i other is_backslash)
    by (inr h) = rw (after_past u (i + 1) h, drop_some u i c s, drop_past u (i + 1) h, other)
        (omega arith, refl)

-- The closing quote, and the end of the text.
pub quoted_stop : (e : Bool) (q : ℕ) (u : List ℕ) (i : ℕ) → 0 < q → get_or u i 0 ≡ q
    → eqb (get_or u (i + 1) 0) q ≡ false
    → (quoted_end e q u i ≡ i + 1) × (is_terminated e q u i ≡ true)
quoted_stop e q u i some here next = by (cases_lt (i + 1) (length u))
  where
    h : i < length u
    h = within_read u i (omega arith)

    by : (i + 1 < length u) ⊎ (length u ≤ i + 1) → (quoted_end e q u i ≡ i + 1)
        × (is_terminated e q u i ≡ true)
    by (inl k) = rw (drop_read u i h, drop_read u (i + 1) k, here, eq-eqb q q refl, next)
        (refl, refl)
    by (inr k) = rw (drop_read u i h, drop_past u (i + 1) k, here, eq-eqb q q refl) (refl, refl)

pub quoted_at_end : (e : Bool) (q : ℕ) (u : List ℕ) (i : ℕ) → None ≡ slice_get u i
    → (quoted_end e q u i ≡ i) × (is_terminated e q u i ≡ false)
quoted_at_end e q u i s = rw (drop_none u i s) (omega arith, refl)

-- ---- a run of quotes, of which the first is at index i

-- A run that is not empty is a quote and a run.
run_more : (q : ℕ) (u : List ℕ) (i n : ℕ) → prefix_len (is_quote q) (drop i u) ≡ suc n
    → (get_or u i 0 ≡ q) × (prefix_len (is_quote q) (drop (i + 1) u) ≡ n)
run_more q u i n e = by (cases_lt i (length u)) (cases_Bool (eqb (get_or u i 0) q))
  where
    by : (i < length u) ⊎ (length u ≤ i)
        → (eqb (get_or u i 0) q ≡ true) ⊎ (eqb (get_or u i 0) q ≡ false)
        → (get_or u i 0 ≡ q) × (prefix_len (is_quote q) (drop (i + 1) u) ≡ n)
    by (inl h) (inl t) =
        let first : prefix_len (is_quote q) (drop i u)
        ≡ 1 + prefix_len (is_quote q) (drop (i + 1) u) = rw (drop_read u i h, t) refl in
        (grind (arith, nat_tests), omega arith)
    by (inl h) (inr f) = absurd (let none : prefix_len (is_quote q) (drop i u) ≡ 0 =
        rw (drop_read u i h, f) refl in omega arith)
    by (inr h) t = absurd (let none : prefix_len (is_quote q) (drop i u) ≡ 0 =
        rw (drop_past u i h) refl in omega arith)

-- At an empty run there is no quote.
run_none : (q : ℕ) (u : List ℕ) (i : ℕ) → 0 < q → prefix_len (is_quote q) (drop i u) ≡ 0
    → eqb (get_or u i 0) q ≡ false
run_none q u i some e = by (cases_Bool (eqb (get_or u i 0) q))
  where
    by : (eqb (get_or u i 0) q ≡ true) ⊎ (eqb (get_or u i 0) q ≡ false)
        → eqb (get_or u i 0) q ≡ false
    by (inl t) =
        let same : get_or u i 0 ≡ q = grind (arith, nat_tests) in
        let h : i < length u = within_read u i (omega arith) in
        absurd (let first : prefix_len (is_quote q) (drop i u)
        ≡ 1 + prefix_len (is_quote q) (drop (i + 1) u) = rw (drop_read u i h, t) refl in
        omega arith)
    by (inr f) = f

-- An even number of quotes after the first: the last one ends the text.
quotes_end : (e : Bool) (q : ℕ) (u : List ℕ) (k i : ℕ) → 0 < q → get_or u i 0 ≡ q
    → prefix_len (is_quote q) (drop (i + 1) u) ≡ k + k
    → (quoted_end e q u i ≡ i + 1 + (k + k)) × (is_terminated e q u i ≡ true)
quotes_end e q u zero i some here run =
    let p = quoted_stop e q u i some here (run_none q u (i + 1) some run) in
    (p.0 ∙ omega arith, p.1)
quotes_end e q u (suc k) i some here run =
    let second = run_more q u (i + 1) (suc (k + k)) (omega (arith, run)) in
    let two : i + 1 + 1 ≡ i + 2 = omega arith in
    let third = run_more q u (i + 2) (k + k) (rw two at (second.1)) in
    let p = quoted_pair e q u i some here second.0 in
    let more = quotes_end e q u k (i + 2) some third.0 third.1 in
    (sym p.0 ∙ more.0 ∙ omega arith, sym p.1 ∙ more.1)

-- An odd number of quotes after the first: each two stand for one.
quotes_pair : (e : Bool) (q : ℕ) (u : List ℕ) (k i : ℕ) → 0 < q → get_or u i 0 ≡ q
    → prefix_len (is_quote q) (drop (i + 1) u) ≡ suc (k + k)
    → (quoted_end e q u i ≡ quoted_end e q u (i + 1 + suc (k + k)))
    × (is_terminated e q u i ≡ is_terminated e q u (i + 1 + suc (k + k)))
quotes_pair e q u zero i some here run =
    let second = run_more q u (i + 1) zero run in
    let p = quoted_pair e q u i some here second.0 in
    let two : i + 1 + suc (zero + zero) ≡ i + 2 = omega arith in
    rw two (sym p.0, sym p.1)
quotes_pair e q u (suc k) i some here run =
    let second = run_more q u (i + 1) (suc (suc (k + k))) (omega (arith, run)) in
    let two : i + 1 + 1 ≡ i + 2 = omega arith in
    let third = run_more q u (i + 2) (suc (k + k)) (rw two at (second.1)) in
    let p = quoted_pair e q u i some here second.0 in
    let more = quotes_pair e q u k (i + 2) some third.0 third.1 in
    let last : i + 1 + suc (suc k + suc k) ≡ i + 2 + 1 + suc (k + k) = omega arith in
    rw last (sym p.0 ∙ more.0, sym p.1 ∙ more.1)

-- ---- up to the next quote or backslash that escapes

-- A character before the stop is neither the quote nor an escaping backslash.
plain_not : (e : Bool) (q c : ℕ) → is_neither q (cond e 92 q) c ≡ true → (eqb c q ≡ false)
    × ((e && eqb c 92) ≡ false)
plain_not true q c t = let n = other_not q 92 c t in (ne_eqb c q n.0, ne_eqb c 92 n.1)
plain_not false q c t = let n = other_not q q c t in (ne_eqb c q n.0, refl)

-- All characters up to the stop are skipped.
quoted_passed : (e : Bool) (q : ℕ) (u : List ℕ) (i : ℕ)
    → (quoted_end e q u i ≡ quoted_end e q u (stop_at q (cond e 92 q) u i))
    × (is_terminated e q u i ≡ is_terminated e q u (stop_at q (cond e 92 q) u i))
unfolding stop_at
quoted_passed e q u i = (
  run_kept (quoted_end e q u) (is_neither q (cond e 92 q)) u (λ k c s t. let n = plain_not e q c t
      in sym (quoted_plain e q u k c s n.0 n.1).0) i,
  run_kept (is_terminated e q u) (is_neither q (cond e 92 q)) u (λ k c s t. let n =
      plain_not e q c t in sym (quoted_plain e q u k c s n.0 n.1).1) i,
)

-- The steps at the stop, in the form in which the loop has them. With escapes o is the backslash,
-- else the quote.
pub quoted_step_escaped : (e : Bool) (q o : ℕ) (u : List ℕ) (i c : ℕ) → o ≡ cond e 92 q
    → Some c ≡ slice_get u (stop_at q o u i) → (c ≡ q → ⊥)
    → (quoted_end e q u i
    ≡ quoted_end e q u (position_after u (position_after u (stop_at q o u i))))
    × (is_terminated e q u i
    ≡ is_terminated e q u (position_after u (position_after u (stop_at q o u i))))
quoted_step_escaped false q o u i c which s other =
    absurd (other (stop_is q o u i c s other ∙ which))
quoted_step_escaped true q o u i c which s other =
    let j = stop_at q o u i in
    let first = quoted_passed true q u i in
    let is_backslash : c ≡ 92 = stop_is q o u i c s other ∙ which in
    let p = quoted_escaped q u j c s (ne_eqb c q other) (eq-eqb c 92 is_backslash) in
    rw (after_some u j c s) (
      rw (← which) at (first.0) ∙ sym p.0,
      rw (← which) at (first.1) ∙ sym p.1,
    )

pub quoted_step_stop : (e : Bool) (q o : ℕ) (u : List ℕ) (i c j n : ℕ) → o ≡ cond e 92 q
    → Some c ≡ slice_get u (stop_at q o u i) → c ≡ q → 0 < q
    → j ≡ run_end (is_quote q) u (position_after u (stop_at q o u i))
    → j ≡ position_after u (stop_at q o u i) + n → n % 2 ≡ 0
    → (quoted_end e q u i ≡ j) × (is_terminated e q u i ≡ true)
quoted_step_stop e q o u i c j n which s same some run len even =
    let m = stop_at q o u i in
    let b = after_some u m c s in
    let half : n ≡ n / 2 + n / 2 = omega (arith, div-add-mod n 2) in
    let ends : j ≡ m + 1 + prefix_len (is_quote q) (drop (m + 1) u) = rw b at run in
    let counted : j ≡ m + 1 + n = rw b at len in
    let count : prefix_len (is_quote q) (drop (m + 1) u) ≡ n / 2 + n / 2 = omega arith in
    let first = quoted_passed e q u i in
    let p = quotes_end e q u (n / 2) m some (get_some u m c s ∙ same) count in (
      rw (← which) at (first.0) ∙ p.0 ∙ omega arith,
      rw (← which) at (first.1) ∙ p.1,
    )

pub quoted_step_pair : (e : Bool) (q o : ℕ) (u : List ℕ) (i c j n : ℕ) → o ≡ cond e 92 q
    → Some c ≡ slice_get u (stop_at q o u i) → c ≡ q → 0 < q
    → j ≡ run_end (is_quote q) u (position_after u (stop_at q o u i))
    → j ≡ position_after u (stop_at q o u i) + n → (n % 2 ≡ 0 → ⊥)
    → (quoted_end e q u i ≡ quoted_end e q u j) × (is_terminated e q u i ≡ is_terminated e q u j)
quoted_step_pair e q o u i c j n which s same some run len odd =
    let m = stop_at q o u i in
    let b = after_some u m c s in
    let half : n ≡ suc (n / 2 + n / 2) = omega (arith, div-add-mod n 2) in
    let ends : j ≡ m + 1 + prefix_len (is_quote q) (drop (m + 1) u) = rw b at run in
    let counted : j ≡ m + 1 + n = rw b at len in
    let count : prefix_len (is_quote q) (drop (m + 1) u) ≡ suc (n / 2 + n / 2) = omega arith in
    let first = quoted_passed e q u i in
    let p = quotes_pair e q u (n / 2) m some (get_some u m c s ∙ same) count in
    let last : j ≡ m + 1 + suc (n / 2 + n / 2) = omega arith in
    rw last (
      rw (← which) at (first.0) ∙ p.0,
      rw (← which) at (first.1) ∙ p.1,
    )

pub quoted_step_end : (e : Bool) (q o : ℕ) (u : List ℕ) (i : ℕ) → o ≡ cond e 92 q
    → None ≡ slice_get u (stop_at q o u i)
    → (quoted_end e q u i ≡ position_after u (stop_at q o u i)) × (is_terminated e q u i ≡ false)
quoted_step_end e q o u i which s =
    let first = quoted_passed e q u i in
    let p = quoted_at_end e q u (stop_at q o u i) s in
    rw (after_none u (stop_at q o u i) s) (
      rw (← which) at (first.0) ∙ p.0,
      rw (← which) at (first.1) ∙ p.1,
    )

pub ruleset quoted_steps = (
  quoted_step_pair,
  quoted_step_escaped,
  quoted_step_stop,
  quoted_step_end,
  stop_after,
  after_on,
)
