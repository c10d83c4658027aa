-- The model of an iterator over steps with their ranges: the list of those that are left.
use Rattle.std.specs.Prelude.{List, ℕ}
use Rattle.squawk_events.specs.declared.steps.StrStep.{StrStep}
use Rattle.squawk_tree.specs.NodeRanges.{with_ranges}
use Rattle.squawk_tree.specs.declared.step_ranges.StepRanges.TheInside.{Inside}

-- the steps that are left, with their ranges
abbrev pub steps_left : Inside → List (StrStep × (ℕ × ℕ))
steps_left s = with_ranges s.steps.now s.node_ranges.now
