-- What a `Parse` stores of the ranges of its steps: those of nodes. The range of a token is in its
-- step. Every step other than a `Token` is a step of a node here: the steps of a tree have no
-- `Error` among them.
use Rattle.std.specs.Prelude.{◌≡◌, ℕ, suc, ◌+◌, ◌*◌, ◌<◌, ◌≤◌, List, [], ◌∷◌, Option, Some, None, length, slice_get, take}
use Rattle.squawk_events.specs.declared.steps.StrStep.{StrStep}
use Rattle.squawk_events.specs.declared.steps.StrStep.TheVariants.{Enter, Token, Exit, Error}
use Rattle.squawk_tree.specs.Ranges.{ranges}

-- the range of a `Token`
abbrev pub token_range : StrStep → Option (ℕ × ℕ)
token_range (Enter kind) = None
token_range (Token kind start end) = Some (start, end)
token_range Exit = None
token_range (Error number offset) = None

-- the number of steps of nodes
abbrev pub node_step_count : List StrStep → ℕ
node_step_count [] = 0
node_step_count (Enter kind ∷ xs) = suc (node_step_count xs)
node_step_count (Token kind start end ∷ xs) = node_step_count xs
node_step_count (Exit ∷ xs) = suc (node_step_count xs)
node_step_count (Error number offset ∷ xs) = suc (node_step_count xs)

-- of a list with an element for each step, those at the steps of nodes
abbrev pub at_nodes : {A : Type 0} → List StrStep → List A → List A
at_nodes [] ys = []
at_nodes (x ∷ xs) [] = []
at_nodes (Enter kind ∷ xs) (y ∷ ys) = y ∷ at_nodes xs ys
at_nodes (Token kind start end ∷ xs) (y ∷ ys) = at_nodes xs ys
at_nodes (Exit ∷ xs) (y ∷ ys) = y ∷ at_nodes xs ys
at_nodes (Error number offset ∷ xs) (y ∷ ys) = y ∷ at_nodes xs ys

-- the ranges at the steps of nodes: in a tree, at its `Enter` and `Exit` steps
abbrev pub node_ranges : List StrStep → List (ℕ × ℕ)
node_ranges steps = at_nodes steps (ranges steps)

-- the number of steps from one kept count to the next
abbrev pub stride : ℕ
stride = 64

-- the j-th count is the number of steps of nodes before step `stride * j`
abbrev pub AreCountsByStride : List StrStep → List ℕ → Type 0
AreCountsByStride steps counts = (j : ℕ) → j < length counts
    → slice_get counts j ≡ Some (node_step_count (take (stride * j) steps))

-- for every 64th step, the number of steps of nodes before it
pub record AreNodeStepCounts (steps : List StrStep) (counts : List ℕ) : Type 0 where
  pub enough : length steps ≤ stride * length counts
  pub counts_are : AreCountsByStride steps counts

-- the counts that are kept for the steps before the i-th
pub record AreCountsUpTo (steps : List StrStep) (i : ℕ) (counts : List ℕ) : Type 0 where
  pub enough : i ≤ stride * length counts
  pub few : stride * length counts < i + stride
  pub counts_are : AreCountsByStride steps counts

-- the steps with their ranges, where the steps of nodes have the ranges of the second list
abbrev pub with_ranges : List StrStep → List (ℕ × ℕ) → List (StrStep × (ℕ × ℕ))
with_ranges [] rs = []
with_ranges (Token kind start end ∷ xs) rs =
    (Token kind start end, (start, end)) ∷ with_ranges xs rs
with_ranges (Enter kind ∷ xs) [] = []
with_ranges (Enter kind ∷ xs) (r ∷ rs) = (Enter kind, r) ∷ with_ranges xs rs
with_ranges (Exit ∷ xs) [] = []
with_ranges (Exit ∷ xs) (r ∷ rs) = (Exit, r) ∷ with_ranges xs rs
with_ranges (Error number offset ∷ xs) [] = []
with_ranges (Error number offset ∷ xs) (r ∷ rs) = (Error number offset, r) ∷ with_ranges xs rs
