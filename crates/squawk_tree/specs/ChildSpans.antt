-- The children of the root, by their first steps, and by the numbers and ranges of their tokens.
use Rattle.std.specs.Prelude.{ℕ, zero, suc, ◌+◌, List, [], ◌∷◌, Option, Some, None}
use Rattle.squawk_events.specs.declared.steps.StrStep.{StrStep}
use Rattle.squawk_events.specs.declared.steps.StrStep.TheVariants.{Enter, Token, Exit, Error}
use Rattle.squawk_tree.specs.Ranges.{node_end}
use Rattle.squawk_tree.specs.Steps.{RootChild, Leaf, Node}
use Rattle.squawk_tree.specs.declared.children.ChildSpan.{ChildSpan}

-- the number of `Token` steps up to the `Exit` of a node, in which d inner nodes are open
abbrev pub node_tokens : ℕ → List StrStep → ℕ
node_tokens d [] = 0
node_tokens d (Token kind start end ∷ xs) = suc (node_tokens d xs)
node_tokens d (Enter kind ∷ xs) = node_tokens (suc d) xs
node_tokens zero (Exit ∷ xs) = 0
node_tokens (suc d) (Exit ∷ xs) = node_tokens d xs
node_tokens d (Error number at ∷ xs) = node_tokens d xs

-- a leaf at the i-th step
abbrev pub leaf_span : (i start end : ℕ) → ChildSpan
leaf_span i start end = record {
  step = i;
  tokens = 1;
  start = start;
  end = end;
  node = None;
}

-- a node whose `Enter` is the i-th step, at an offset, by the steps after it
abbrev pub node_span : (kind i at : ℕ) → List StrStep → ChildSpan
node_span kind i at xs = record {
  step = i;
  tokens = node_tokens 0 xs;
  start = at;
  end = node_end 0 at xs;
  node = Some kind;
}

-- the children that begin in these steps, the first of which is the i-th step and is at an offset;
-- d nodes are open inside the root
abbrev pub child_spans_from : (d i at : ℕ) → List StrStep → List ChildSpan
child_spans_from d i at [] = []
child_spans_from zero i at (Token kind start end ∷ xs) =
    leaf_span i start end ∷ child_spans_from 0 (i + 1) end xs
child_spans_from zero i at (Enter kind ∷ xs) =
    node_span kind i at xs ∷ child_spans_from 1 (i + 1) at xs
child_spans_from zero i at (Exit ∷ xs) = []
child_spans_from zero i at (Error number offset ∷ xs) = child_spans_from 0 (i + 1) at xs
child_spans_from (suc d) i at (Token kind start end ∷ xs) = child_spans_from (suc d) (i + 1) end xs
child_spans_from (suc d) i at (Enter kind ∷ xs) = child_spans_from (suc (suc d)) (i + 1) at xs
child_spans_from (suc d) i at (Exit ∷ xs) = child_spans_from d (i + 1) at xs
child_spans_from (suc d) i at (Error number offset ∷ xs) = child_spans_from (suc d) (i + 1) at xs

-- the children of the root
abbrev pub child_spans : List StrStep → List ChildSpan
child_spans (Enter kind ∷ xs) = child_spans_from 0 1 0 xs
child_spans xs = []

-- a child of the root, by its node and its number of tokens
abbrev pub child_by : Option ℕ → ℕ → RootChild
child_by None tokens = Leaf
child_by (Some kind) tokens = Node tokens

-- a child of the root, without its range
abbrev pub span_child : ChildSpan → RootChild
span_child child = child_by child.node child.tokens
