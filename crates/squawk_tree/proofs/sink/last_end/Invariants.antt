use Rattle.std.proofs.Common.{◌≡◌, drop}
use Rattle.squawk_tree.specs.Taken.{end_after}
use Rattle.squawk_tree.proofs.sink.last_end.Given as goal

-- the last end of the remaining steps is that of all steps
abbrev pub invariant-loop-step : goal.invariant-loop-step
invariant-loop-step l = end_after l.end (drop l.step-index l.steps) ≡ end_after 0 l.steps
