-- The value of a `Child`, and what holds of every one.
use Rattle.std.specs.Prelude.{◌≡◌, ℕ, ◌-◌, Bool, List, Option, length, take, drop}
use Rattle.squawk_events.specs.declared.steps.ParseError.{ParseError}
use Rattle.squawk_events.specs.declared.steps.StrStep.{StrStep}
use Rattle.squawk_statements.specs.declared.first.ChildShape.{ChildShape}
use Rattle.squawk_tree.specs.Children.{IsChildTree, node_of_steps}
use Rattle.squawk_tree.specs.Join.{ChildTree}
use Rattle.squawk_tree.specs.Steps.{leaves}
use Rattle.squawk_tree.specs.Tree.{Tree}

-- the number of its tokens, its length in bytes, its node, whether it is closed, and its steps and
-- errors, whose offsets are from its start
pub record ChildValue : Type 0 where
  pub tokens : ℕ
  pub bytes : ℕ
  pub node : Option ℕ
  pub closed : Bool
  pub steps : List StrStep
  pub errors : List ParseError

-- what a child brings to the tree
abbrev pub child_tree : ChildValue → ChildTree
child_tree c = record { steps = c.steps; errors = c.errors; len = c.bytes }

-- the child of this shape with these steps and errors
abbrev pub child_value : ChildShape → ChildTree → ChildValue
child_value shape tree = record {
  tokens = shape.tokens;
  bytes = tree.len;
  node = shape.node;
  closed = shape.closed;
  steps = tree.steps;
  errors = tree.errors;
}

-- it is a leaf or a node whose tokens cover its bytes and whose errors lie in them, and its number
-- of tokens and its node are those of its steps
pub record IsChild (c : ChildValue) : Type 0 where
  pub tree : IsChildTree (child_tree c)
  pub tokens_are : c.tokens ≡ length (leaves c.steps)
  pub node_is : c.node ≡ node_of_steps c.steps

-- the steps between the `Enter` of the root and its `Exit`
abbrev pub steps_in_root : List StrStep → List StrStep
steps_in_root steps = take (length steps - 1 - 1) (drop 1 steps)

-- the only child of the root of a tree; the flag says whether it is closed
abbrev pub child_of_tree : Tree → Bool → ChildValue
child_of_tree tree closed = record {
  tokens = length (leaves tree.steps);
  bytes = tree.len;
  node = node_of_steps (steps_in_root tree.steps);
  closed = closed;
  steps = steps_in_root tree.steps;
  errors = tree.errors;
}
