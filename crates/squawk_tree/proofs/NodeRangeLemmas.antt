-- A range of a step is found among those of the nodes, by the number of nodes' steps before it.
use Rattle.std.proofs.Common.{◌≡◌, ℕ, zero, suc, ◌+◌, ◌-◌, ◌*◌, ◌/◌, ◌%◌, ◌<◌, ◌≤◌, List, [], ◌∷◌, ◌++◌, length, take, drop, ap, sym, ◌∙◌, refl, arith, get_or, slice_get, slice_index_or}
use Rattle.std.specs.Prelude.{Option, Some, None}
use Rattle.std.proofs.lemmas.List.{length_push, length-take-le}
use Rattle.std.proofs.lemmas.Option.{get_or_from_slice_get, slice_get_within, slice_get-get_or}
use Rattle.std.specs.List.{zip}
use Rattle.squawk_events.specs.declared.steps.StrStep.{StrStep}
use Rattle.squawk_events.specs.declared.steps.StrStep.TheVariants.{Enter, Token, Exit, Error}
use Rattle.squawk_tree.specs.NodeRanges.{AreNodeStepCounts, AreCountsUpTo, token_range, node_step_count, at_nodes, node_ranges, with_ranges}
use Rattle.squawk_tree.specs.Ranges.{node_end, first_offset, other_offsets, ranges, ranges_from}
use Rattle.squawk_tree.proofs.RangeLemmas.{length_ranges_from}

-- there are no more steps of nodes than steps
pub node_count_le : (xs : List StrStep) → node_step_count xs ≤ length xs
node_count_le [] = omega arith
node_count_le (Enter kind ∷ xs) = let h = node_count_le xs in omega arith
node_count_le (Token kind start end ∷ xs) = let h = node_count_le xs in omega arith
node_count_le (Exit ∷ xs) = let h = node_count_le xs in omega arith
node_count_le (Error number offset ∷ xs) = let h = node_count_le xs in omega arith

-- arithmetic
suc_plus : (a b : ℕ) → suc a + b ≡ suc (a + b)
suc_plus a b = omega arith

-- the steps of nodes among the first a + b are those among the first a, and among the next b
pub node_count_split : (a b : ℕ) (xs : List StrStep)
    → node_step_count (take (a + b) xs) ≡ node_step_count (take a xs) + node_step_count (take b (drop a xs))
node_count_split zero b xs = ap (λ n. node_step_count (take n xs)) (let e : 0 + b ≡ b = omega arith in e)
    ∙ (let e : node_step_count (take b xs) ≡ 0 + node_step_count (take b xs) = omega arith in e)
node_count_split (suc a) zero [] =
    ap (λ n. node_step_count (take n [])) (let e : suc a + 0 ≡ suc a = omega arith in e)
node_count_split (suc a) (suc b) [] =
    ap (λ n. node_step_count (take n [])) (suc_plus a (suc b))
node_count_split (suc a) b (Enter kind ∷ xs) =
    let more = node_count_split a b xs in
    ap (λ n. node_step_count (take n (Enter kind ∷ xs))) (suc_plus a b) ∙ omega (arith, more)
node_count_split (suc a) b (Token kind start end ∷ xs) =
    let more = node_count_split a b xs in
    ap (λ n. node_step_count (take n (Token kind start end ∷ xs))) (suc_plus a b) ∙ more
node_count_split (suc a) b (Exit ∷ xs) =
    let more = node_count_split a b xs in
    ap (λ n. node_step_count (take n (Exit ∷ xs))) (suc_plus a b) ∙ omega (arith, more)
node_count_split (suc a) b (Error number offset ∷ xs) =
    let more = node_count_split a b xs in
    ap (λ n. node_step_count (take n (Error number offset ∷ xs))) (suc_plus a b) ∙ omega (arith, more)

-- the range of the i-th step, if it is a `Token`
abbrev pub token_at : List StrStep → ℕ → Option (ℕ × ℕ)
token_at [] i = None
token_at (x ∷ xs) zero = token_range x
token_at (x ∷ xs) (suc i) = token_at xs i

pub token_at_get : (xs : List StrStep) (i : ℕ) (x : StrStep) → slice_get xs i ≡ Some x
    → token_at xs i ≡ token_range x
token_at_get [] i x is = cc
token_at_get (y ∷ ys) zero x is = rw (some_is y x is) refl
  where
    some_is : (y x : StrStep) → Some y ≡ Some x → y ≡ x
    some_is y x is = cc
token_at_get (y ∷ ys) (suc i) x is = token_at_get ys i x is

-- the range of a `Token` is its own
pub range_of_token : (open_nodes : List ℕ) (at : ℕ) (xs : List StrStep) (i : ℕ) (r : ℕ × ℕ)
    → token_at xs i ≡ Some r → slice_get (ranges_from open_nodes at xs) i ≡ Some r
range_of_token open_nodes at [] i r is = cc
range_of_token open_nodes at (Enter kind ∷ xs) zero r is = cc
range_of_token open_nodes at (Token kind start end ∷ xs) zero r is = is
range_of_token open_nodes at (Exit ∷ xs) zero r is = cc
range_of_token open_nodes at (Error number offset ∷ xs) zero r is = cc
range_of_token open_nodes at (Enter kind ∷ xs) (suc i) r is =
    range_of_token (at ∷ open_nodes) at xs i r is
range_of_token open_nodes at (Token kind start end ∷ xs) (suc i) r is =
    range_of_token open_nodes end xs i r is
range_of_token open_nodes at (Exit ∷ xs) (suc i) r is =
    range_of_token (other_offsets open_nodes) at xs i r is
range_of_token open_nodes at (Error number offset ∷ xs) (suc i) r is =
    range_of_token open_nodes at xs i r is

-- the element at a step of a node is found by the number of nodes' steps before it
pub element_of_node : {A : Type 0} (xs : List StrStep) (ys : List A) (i : ℕ)
    → length ys ≡ length xs → token_at xs i ≡ None
    → slice_get (at_nodes xs ys) (node_step_count (take i xs)) ≡ slice_get ys i
element_of_node [] [] i len none = refl
element_of_node [] (y ∷ ys) i len none = absurd (omega (arith, len))
element_of_node (x ∷ xs) [] i len none = absurd (omega (arith, len))
element_of_node (Enter kind ∷ xs) (y ∷ ys) zero len none = refl
element_of_node (Token kind start end ∷ xs) (y ∷ ys) zero len none = absurd (cc)
element_of_node (Exit ∷ xs) (y ∷ ys) zero len none = refl
element_of_node (Error number offset ∷ xs) (y ∷ ys) zero len none = refl
element_of_node (Enter kind ∷ xs) (y ∷ ys) (suc i) len none =
    element_of_node xs ys i (omega (arith, len)) none
element_of_node (Token kind start end ∷ xs) (y ∷ ys) (suc i) len none =
    element_of_node xs ys i (omega (arith, len)) none
element_of_node (Exit ∷ xs) (y ∷ ys) (suc i) len none =
    element_of_node xs ys i (omega (arith, len)) none
element_of_node (Error number offset ∷ xs) (y ∷ ys) (suc i) len none =
    element_of_node xs ys i (omega (arith, len)) none

-- the range of a step, by the step: its own, or that of its node
pub token_range_is : (steps : List StrStep) (i : ℕ) (x : StrStep) (r : ℕ × ℕ)
    → slice_get steps i ≡ Some x → token_range x ≡ Some r → slice_get (ranges steps) i ≡ Some r
token_range_is steps i x r at is = range_of_token [] 0 steps i r (token_at_get steps i x at ∙ is)

pub node_range_is : (steps : List StrStep) (spans : List (ℕ × ℕ)) (i n : ℕ) (x : StrStep)
    → slice_get steps i ≡ Some x → token_range x ≡ None → spans ≡ node_ranges steps
    → n ≡ node_step_count (take i steps) → slice_get spans n ≡ slice_get (ranges steps) i
node_range_is steps spans i n x at none spans_are n_is =
    rw (spans_are, n_is) (element_of_node steps (ranges steps) i (length_ranges_from [] 0 steps)
    (token_at_get steps i x at ∙ none))

-- the range of a node is among those of nodes
pub node_range_within : (steps : List StrStep) (spans : List (ℕ × ℕ)) (i n : ℕ) (x : StrStep)
    → i < length steps → slice_get steps i ≡ Some x → token_range x ≡ None
    → spans ≡ node_ranges steps → n ≡ node_step_count (take i steps) → n < length spans
node_range_within steps spans i n x lt at none spans_are n_is =
    let len = length_ranges_from [] 0 steps in
    slice_get_within spans n (get_or (ranges steps) i (0, 0))
    (node_range_is steps spans i n x at none spans_are n_is
    ∙ slice_get-get_or (ranges steps) i (0, 0) (omega (arith, len, lt)))

-- steps paired with the ranges of nodes are those paired with all ranges
with_ranges_from : (open_nodes : List ℕ) (at : ℕ) (xs : List StrStep)
    → with_ranges xs (at_nodes xs (ranges_from open_nodes at xs))
    ≡ zip xs (ranges_from open_nodes at xs)
with_ranges_from open_nodes at [] = refl
with_ranges_from open_nodes at (Enter kind ∷ xs) =
    ap (λ ps. (Enter kind, (at, node_end 0 at xs)) ∷ ps) (with_ranges_from (at ∷ open_nodes) at xs)
with_ranges_from open_nodes at (Token kind start end ∷ xs) =
    ap (λ ps. (Token kind start end, (start, end)) ∷ ps) (with_ranges_from open_nodes end xs)
with_ranges_from open_nodes at (Exit ∷ xs) =
    ap (λ ps. (Exit, (first_offset open_nodes, at)) ∷ ps)
    (with_ranges_from (other_offsets open_nodes) at xs)
with_ranges_from open_nodes at (Error number offset ∷ xs) =
    ap (λ ps. (Error number offset, (at, at)) ∷ ps) (with_ranges_from open_nodes at xs)

pub with_all_ranges : (steps : List StrStep)
    → with_ranges steps (node_ranges steps) ≡ zip steps (ranges steps)
with_all_ranges steps = with_ranges_from [] 0 steps

-- one more element, where each is a value of its index
pub by_index_push : {A : Type 0} (f : ℕ → A) (xs : List A) (y : A)
    → ((j : ℕ) → j < length xs → slice_get xs j ≡ Some (f j)) → y ≡ f (length xs)
    → (j : ℕ) → j < length (xs ++ y ∷ []) → slice_get (xs ++ y ∷ []) j ≡ Some (f j)
by_index_push f [] y are is zero lt = ap Some is
by_index_push f [] y are is (suc j) lt = absurd (omega (arith, lt))
by_index_push f (x ∷ xs) y are is zero lt = are 0 (omega arith)
by_index_push f (x ∷ xs) y are is (suc j) lt =
    by_index_push (λ k. f (suc k)) xs y (λ k below. are (suc k) (omega (arith, below))) is j
    (omega (arith, lt))

-- the steps of nodes among the first a steps and those from a to n are those among the first n
pub node_count_up_to : (a n : ℕ) (xs : List StrStep) → a ≤ n
    → node_step_count (take a xs) + node_step_count (take (n - a) (drop a xs)) ≡ node_step_count (take n xs)
node_count_up_to a n xs le =
    let sum : a + (n - a) ≡ n = omega (arith, le) in
    sym (node_count_split a (n - a) xs) ∙ ap (λ k. node_step_count (take k xs)) sum

-- the steps of nodes before the i-th step are those that were counted, and those since then
pub count_and_rest : (steps : List StrStep) (counts : List ℕ) (i rest : ℕ)
    → AreNodeStepCounts steps counts → i < length steps
    → rest ≡ node_step_count (take (i - i / 64 * 64) (drop (i / 64 * 64) steps))
    → slice_index_or counts (i / 64) 0 + rest ≡ node_step_count (take i steps)
count_and_rest steps counts i rest are lt is =
    let enough = are.enough in
    let below : i / 64 < length counts = omega (arith, enough, lt) in
    let at : 64 * (i / 64) ≡ i / 64 * 64 = omega arith in
    let le : i / 64 * 64 ≤ i = omega arith in
    let counted = get_or_from_slice_get counts (i / 64) _ 0 (are.counts_are (i / 64) below)
    ∙ ap (λ n. node_step_count (take n steps)) at in
    rw (counted, is) (node_count_up_to (i / 64 * 64) i steps le)

-- so that sum is at most i
pub count_and_rest_le : (steps : List StrStep) (counts : List ℕ) (i rest : ℕ)
    → AreNodeStepCounts steps counts → i < length steps
    → rest ≡ node_step_count (take (i - i / 64 * 64) (drop (i / 64 * 64) steps))
    → slice_index_or counts (i / 64) 0 + rest ≤ i
count_and_rest_le steps counts i rest are lt is =
    let sum = count_and_rest steps counts i rest are lt is in
    let few = node_count_le (take i steps) in
    let len = length-take-le i steps (omega (arith, lt)) in
    omega (arith, sum, few, len)

-- the counts that are kept up to the next step, if one is kept for this step, and if none is
pub counts_push : (steps : List StrStep) (i nodes : ℕ) (counts counts' : List ℕ) → i % 64 ≡ 0
    → AreCountsUpTo steps i counts → nodes ≡ node_step_count (take i steps)
    → counts' ≡ counts ++ nodes ∷ [] → AreCountsUpTo steps (i + 1) counts'
counts_push steps i nodes counts counts' kept are nodes_is is =
    let enough = are.enough in
    let few = are.few in
    let here : i ≡ 64 * length counts = omega (arith, kept, enough, few) in
    let len = ap length is ∙ length_push counts nodes in
    record {
      enough = omega (arith, len, here);
      few = omega (arith, len, here);
      counts_are = rw is (by_index_push (λ j. node_step_count (take (64 * j) steps)) counts nodes
          are.counts_are (nodes_is ∙ ap (λ n. node_step_count (take n steps)) here));
    }

pub counts_keep : (steps : List StrStep) (i : ℕ) (counts : List ℕ) → 1 ≤ i % 64
    → AreCountsUpTo steps i counts → AreCountsUpTo steps (i + 1) counts
counts_keep steps i counts kept are =
    let enough = are.enough in
    let few = are.few in
    record {
      enough = omega (arith, kept, enough, few);
      few = omega (arith, few);
      counts_are = are.counts_are;
    }

-- no count is kept before the first step
pub counts_start : (steps : List StrStep) → AreCountsUpTo steps 0 []
counts_start steps = record {
  enough = omega arith;
  few = omega arith;
  counts_are = λ j lt. absurd (omega (arith, lt));
}
