-- The ranges of the nodes' steps that a pass has read, and of those that remain, are those of all
-- steps of nodes.
use Rattle.std.proofs.Common.{◌≡◌, ℕ, suc, zero, ◌<◌, ◌≤◌, true, List, [], ◌∷◌, ◌++◌, length, slice_set, take, drop, ◌+◌, ap, sym, ◌∙◌, refl, subst, append_assoc, arith}
use Rattle.std.proofs.lemmas.List.{append-nil, set-append_left, set_at, length-set, length_push}
use Rattle.std.proofs.lemmas.Bool.Decides.{nat_tests}
use Rattle.squawk_tree.specs.Spans.{AreBelow, spans_after, open_nodes_after, offset_after, closing, starts, open_count, whole}
use Rattle.squawk_tree.specs.Steps.{closes, is_balanced}
use Rattle.squawk_tree.specs.NodeRanges.{at_nodes, node_ranges, node_step_count}
use Rattle.squawk_tree.specs.Ranges.{ranges_from, node_end}
use Rattle.squawk_tree.proofs.NodeRangeLemmas.{node_count_split}
use Rattle.squawk_events.specs.declared.steps.StrStep.{StrStep}
use Rattle.squawk_events.specs.declared.steps.StrStep.TheVariants.{Enter, Token, Exit, Error}

-- indices below a number are below any larger number
pub are_below_le : (m n : ℕ) (ps : List (ℕ × ℕ)) → m ≤ n → AreBelow m ps → AreBelow n ps
are_below_le m n [] le h = tt
are_below_le m n (p ∷ ps) le h = (
  let below : p.0 < m = h.0 in
      omega arith,
  are_below_le m n ps le h.1,
)

-- the range of a step that is no `Enter` does not change with the ends of open nodes
pub closing_push : (spans : List (ℕ × ℕ)) (ps : List (ℕ × ℕ)) (end_at : ℕ → ℕ) (ys : List (ℕ × ℕ))
    → AreBelow (length spans) ps → closing (spans ++ ys) ps end_at ≡ closing spans ps end_at ++ ys
closing_push spans [] end_at ys h = refl
closing_push spans (p ∷ ps) end_at ys h =
    let e = set-append_left spans ys p.0 (p.1, end_at 0) h.0 in
    let below = subst (λ (n : ℕ). AreBelow n ps) (sym (length-set spans p.0 (p.1, end_at 0))) h.1 in
    ap (λ zs. closing zs ps (λ d. end_at (suc d))) e
    ∙ closing_push (slice_set spans p.0 (p.1, end_at 0)) ps (λ d. end_at (suc d)) ys below

-- the same for one range
push_one : (spans : List (ℕ × ℕ)) (ps : List (ℕ × ℕ)) (end_at : ℕ → ℕ) (y : ℕ
    × ℕ) (rest : List (ℕ × ℕ)) → AreBelow (length spans) ps
    → closing (spans ++ y ∷ []) ps end_at ++ rest ≡ closing spans ps end_at ++ (y ∷ rest)
push_one spans ps end_at y rest h = ap (λ zs. zs ++ rest) (closing_push spans ps end_at (y ∷ []) h)
    ∙ append_assoc (closing spans ps end_at) (y ∷ []) rest

-- reading a step keeps: the ranges of all steps, the bound of the indices, the number of open nodes
pub whole_step : (spans : List (ℕ × ℕ)) (ps : List (ℕ
    × ℕ)) (at : ℕ) (x : StrStep) (xs : List StrStep) → AreBelow (length spans) ps
    → whole (spans_after spans ps at x) (open_nodes_after (length spans) ps at x)
    (offset_after at x) xs
    ≡ whole spans ps at (x ∷ xs)
whole_step spans ps at (Enter kind) xs h =
    ap (λ zs. closing zs ps (λ d. node_end (suc d) at xs)
    ++ at_nodes xs (ranges_from (at ∷ starts ps) at xs))
    (set_at spans (at, at) [] (at, node_end 0 at xs) (length spans) refl)
    ∙ push_one spans ps (λ d. node_end (suc d) at xs) (at, node_end 0 at xs)
    (at_nodes xs (ranges_from (at ∷ starts ps) at xs)) h
whole_step spans ps at (Token kind start end) xs h = refl
whole_step spans ps at (Error number offset) xs h =
    push_one spans ps (λ d. node_end d at xs) (at, at)
    (at_nodes xs (ranges_from (starts ps) at xs)) h
whole_step spans [] at Exit xs h =
    append_assoc spans ((0, at) ∷ []) (at_nodes xs (ranges_from [] at xs))
whole_step spans (p ∷ ps) at Exit xs h =
    let below = subst (λ (n : ℕ). AreBelow n ps) (sym (length-set spans p.0 (p.1, at))) h.1 in
    push_one (slice_set spans p.0 (p.1, at)) ps (λ d. node_end d at xs) (p.1, at)
    (at_nodes xs (ranges_from (starts ps) at xs)) below

pub below_step : (spans : List (ℕ × ℕ)) (ps : List (ℕ × ℕ)) (at : ℕ) (x : StrStep)
    → AreBelow (length spans) ps
    → AreBelow (length (spans_after spans ps at x)) (open_nodes_after (length spans) ps at x)
below_step spans ps at (Enter kind) h = let e = length_push spans (at, at) in
    (omega arith, are_below_le (length spans) (length (spans ++ (at, at) ∷ [])) ps (omega arith) h)
below_step spans ps at (Token kind start end) h = h
below_step spans ps at (Error number offset) h = let e = length_push spans (at, at) in
    are_below_le (length spans) (length (spans ++ (at, at) ∷ [])) ps (omega arith) h
below_step spans [] at Exit h = tt
below_step spans (p ∷ ps) at Exit h =
    let e = length_push (slice_set spans p.0 (p.1, at)) (p.1, at) in
    let f = length-set spans p.0 (p.1, at) in
    are_below_le (length spans) (length (slice_set spans p.0 (p.1, at) ++ (p.1, at) ∷ [])) ps
    (omega arith) h.1

pub open_count_step : (n : ℕ) (ps : List (ℕ × ℕ)) (at : ℕ) (x : StrStep) (xs : List StrStep)
    → open_count (length (open_nodes_after n ps at x)) xs ≡ open_count (length ps) (x ∷ xs)
open_count_step n ps at (Enter kind) xs = refl
open_count_step n ps at (Token kind start end) xs = refl
open_count_step n ps at (Error number offset) xs = refl
open_count_step n [] at Exit xs = refl
open_count_step n (p ∷ ps) at Exit xs = refl

-- no node is open after the steps of a node, and of a whole tree
closes_open_count : (d : ℕ) (xs : List StrStep) → closes d xs ≡ true → open_count d xs ≡ 0
closes_open_count d [] h = grind (arith, nat_tests)
closes_open_count zero (x ∷ xs) h = cc
closes_open_count (suc d) (Enter kind ∷ xs) h = closes_open_count (suc (suc d)) xs h
closes_open_count (suc d) (Token kind start end ∷ xs) h = closes_open_count (suc d) xs h
closes_open_count (suc d) (Error number offset ∷ xs) h = closes_open_count (suc d) xs h
closes_open_count (suc d) (Exit ∷ xs) h = closes_open_count d xs h

pub balanced_open_count : (xs : List StrStep) → is_balanced xs ≡ true → open_count 0 xs ≡ 0
balanced_open_count [] h = refl
balanced_open_count (Enter kind ∷ xs) h = closes_open_count 1 xs h
balanced_open_count (Token kind start end ∷ xs) h = cc
balanced_open_count (Error number offset ∷ xs) h = cc
balanced_open_count (Exit ∷ xs) h = cc

-- the state of the pass before the steps `left`, where `all` are the ranges of all steps
pub record SpansSoFar (spans : List (ℕ × ℕ)) (ps : List (ℕ
    × ℕ)) (at : ℕ) (left : List StrStep) (all : List (ℕ × ℕ)) : Type 0 where
  pub below : AreBelow (length spans) ps
  pub whole_is : whole spans ps at left ≡ all
  pub count : open_count (length ps) left ≡ 0

-- the state after a step, and at the start
pub so_far_step : (spans ps : List (ℕ × ℕ)) (at : ℕ) (x : StrStep) (xs left : List StrStep)
    (all spans' ps' : List (ℕ × ℕ)) (at' : ℕ) → SpansSoFar spans ps at left all → left ≡ x ∷ xs
    → spans' ≡ spans_after spans ps at x → ps' ≡ open_nodes_after (length spans) ps at x
    → at' ≡ offset_after at x → SpansSoFar spans' ps' at' xs all
so_far_step spans ps at x xs left all spans' ps' at' h is spans_is ps_is at_is =
    rw (spans_is, ps_is, at_is) (record {
      below = below_step spans ps at x h.below;
      whole_is = whole_step spans ps at x xs h.below
          ∙ (ap (λ ys. whole spans ps at ys) (sym is) ∙ h.whole_is);
      count = open_count_step (length spans) ps at x xs
          ∙ (ap (λ ys. open_count (length ps) ys) (sym is) ∙ h.count);
    })

pub so_far_start : (steps : List StrStep) → is_balanced steps ≡ true
    → SpansSoFar [] [] 0 steps (node_ranges steps)
so_far_start steps h = record {
  below = tt;
  whole_is = refl;
  count =
      balanced_open_count steps h;
}

-- a step adds a range if it is a step of a node
pub spans_len : (spans ps : List (ℕ × ℕ)) (at : ℕ) (x : StrStep)
    → length (spans_after spans ps at x) ≡ length spans + node_step_count (x ∷ [])
spans_len spans ps at (Enter kind) = length_push spans (at, at)
spans_len spans ps at (Token kind start end) = omega arith
spans_len spans ps at (Error number offset) = length_push spans (at, at)
spans_len spans [] at Exit = length_push spans (0, at)
spans_len spans (p ∷ ps) at Exit =
    length_push (slice_set spans p.0 (p.1, at)) (p.1, at)
    ∙ ap (λ n. n + 1) (length-set spans p.0 (p.1, at))

-- so there are as many ranges as steps of nodes
pub spans_counted : (spans ps : List (ℕ × ℕ)) (at i : ℕ) (x : StrStep) (xs steps : List StrStep)
    (spans' : List (ℕ × ℕ)) → length spans ≡ node_step_count (take i steps)
    → drop i steps ≡ x ∷ xs → spans' ≡ spans_after spans ps at x
    → length spans' ≡ node_step_count (take (i + 1) steps)
spans_counted spans ps at i x xs steps spans' len is spans_is =
    let added = ap length spans_is ∙ spans_len spans ps at x in
    let split = node_count_split i 1 steps
    ∙ ap (λ ys. node_step_count (take i steps) + node_step_count (take 1 ys)) is in
    omega (arith, added, split, len)

-- at the end the ranges are those of all steps of nodes
pub so_far_end : (spans ps : List (ℕ × ℕ)) (at : ℕ) (left : List StrStep) (all : List (ℕ × ℕ))
    → SpansSoFar spans ps at left all → left ≡ [] → spans ≡ all
so_far_end spans ps at left all h none =
    sym (append-nil spans) ∙ ap (λ qs. whole spans qs at []) (sym (no_nodes ps
    (ap (open_count (length ps)) (sym none) ∙ h.count)))
    ∙ ap (whole spans ps at) (sym none) ∙ h.whole_is
  where
    no_nodes : (ps : List (ℕ × ℕ)) → length ps ≡ 0 → ps ≡ []
    no_nodes [] e = refl
    no_nodes (p ∷ ps) e = absurd (omega (arith, e))
