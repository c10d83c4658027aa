-- A tree while it is built: its steps so far, and what is kept beside them.
use Rattle.std.specs.Prelude.{◌∷◌, ◌≡◌, ℕ, ◌+◌, ◌*◌, ◌≤◌, List, ◌++◌, length, reverse, take, []}
use Rattle.squawk_events.specs.declared.steps.StrStep.{StrStep}
use Rattle.squawk_tree.specs.NodeRanges.{node_ranges, node_step_count, stride, AreCountsByStride}
use Rattle.squawk_tree.specs.Spans.{AreBelow, offset_after, open_count, whole}
use Rattle.squawk_tree.specs.Taken.{tokens_end}
use Rattle.squawk_tree.specs.declared.builder.TreeBuilder.{TreeBuilder}

-- the counts that are kept for the steps so far: none is missing but for steps after the last step
-- of a node
pub record AreCountsSoFar (steps : List StrStep) (counts : List ℕ) : Type 0 where
  pub few : stride * length counts ≤ length steps + stride
  pub counts_are : AreCountsByStride steps counts
  pub complete : node_step_count (take (stride * length counts) steps) ≡ node_step_count steps

-- the ranges of the nodes so far, and the open nodes, the innermost first: whatever steps follow
pub record AreSpansSoFar (steps : List StrStep) (spans open_nodes : List (ℕ × ℕ)) : Type 0 where
  pub below : AreBelow (length spans) open_nodes
  pub whole_is : (rest : List StrStep)
      → whole spans open_nodes (tokens_end steps) rest ≡ node_ranges (steps ++ rest)
  pub open_are : (rest : List StrStep)
      → open_count (length open_nodes) rest ≡ open_count 0 (steps ++ rest)
  pub count : length spans ≡ node_step_count steps

-- the end of the last step if that is a `Token`, else the offset
abbrev pub end_of_last : ℕ → List StrStep → ℕ
end_of_last at [] = at
end_of_last at (x ∷ []) = offset_after at x
end_of_last at (x ∷ y ∷ ys) = end_of_last at (y ∷ ys)

-- what is kept beside the steps so far
pub record IsBuilt (tree : TreeBuilder) : Type 0 where
  pub spans : AreSpansSoFar tree.steps.items tree.spans.items (reverse tree.open_nodes.items)
  pub counts : AreCountsSoFar tree.steps.items tree.counts.items
  pub end : end_of_last tree.end tree.steps.items ≡ tokens_end tree.steps.items

-- the steps so far
abbrev pub emitted : TreeBuilder → List StrStep
emitted tree = tree.steps.items
