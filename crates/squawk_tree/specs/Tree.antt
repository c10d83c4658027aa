-- The value of a `Parse`, and what holds of every parse.
use Rattle.std.specs.Prelude.{ℕ, ◌≡◌, ◌≤◌, List, All, IsTrue}
use Rattle.std.specs.Str.{IsCharBoundary}
use Rattle.squawk_events.specs.declared.steps.StrStep.{StrStep}
use Rattle.squawk_events.specs.declared.steps.ParseError.{ParseError}
use Rattle.squawk_tree.specs.declared.children.ChildSpan.{ChildSpan}
use Rattle.squawk_tree.specs.Steps.{is_balanced, has_no_errors, leaves, tiles}
use Rattle.squawk_tree.specs.ChildSpans.{child_spans}
use Rattle.squawk_tree.specs.NodeRanges.{node_ranges, AreNodeStepCounts}

-- the steps of a tree, the errors in its text, and the length of its text in bytes
pub record Tree : Type 0 where
  pub steps : List StrStep
  pub errors : List ParseError
  pub len : ℕ

-- the error has one of the ten messages, and lies in a text of `len` bytes
pub record IsErrorWithin (len : ℕ) (e : ParseError) : Type 0 where
  pub first_number : 1 ≤ e.number
  pub last_number : e.number ≤ 10
  pub ordered : e.start ≤ e.end
  pub within : e.end ≤ len

-- the steps are balanced, no `Error` is among them, the tokens cover the text from its start to its
-- end, and the errors lie in it
pub record IsTree (t : Tree) : Type 0 where
  pub balanced : IsTrue (is_balanced t.steps)
  pub no_errors : IsTrue (has_no_errors t.steps)
  pub tiled : IsTrue (tiles 0 (leaves t.steps) t.len)
  pub errors_within : All (IsErrorWithin t.len) t.errors

-- both ends of a range of bytes are character boundaries of a text
abbrev pub IsRangeOf : List ℕ → ℕ × ℕ → Type 0
IsRangeOf text range = IsCharBoundary text range.0 × IsCharBoundary text range.1

-- what a `Parse` stores: a tree, the ranges of its nodes, counts to find them, and the children of
-- the root
pub record IsStored (t : Tree) (spans : List (ℕ × ℕ)) (counts : List ℕ) (children : List ChildSpan)
    : Type 0 where
  pub tree : IsTree t
  pub spans_are : spans ≡ node_ranges t.steps
  pub counts_are : AreNodeStepCounts t.steps counts
  pub children_are : children ≡ child_spans t.steps
