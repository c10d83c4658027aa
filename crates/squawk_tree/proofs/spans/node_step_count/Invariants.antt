use Rattle.std.proofs.Common.{◌≡◌, ◌≤◌, ◌+◌, drop}
use Rattle.squawk_tree.specs.NodeRanges.{node_step_count}
use Rattle.squawk_tree.proofs.spans.node_step_count.Given as goal

-- the steps that were counted and those that remain are all of them
abbrev pub invariant-loop-step : goal.invariant-loop-step
invariant-loop-step l = record {
  count : l.count + node_step_count (drop l.step-index l.steps) ≡ node_step_count l.steps;
  few : l.count ≤ l.step-index;
}
