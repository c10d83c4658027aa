use Rattle.std.proofs.Common.{◌≡◌, ◌+◌, ◌++◌}
use Rattle.squawk_events.specs.Depth.{depth_of}
use Rattle.squawk_statements.specs.Plain.{exits}
use Rattle.squawk_statements.proofs.plain.emit_exits.Given as goal

abbrev pub invariant-loop-left : goal.invariant-loop-left
invariant-loop-left l = record {
  steps : l.output ++ exits l.left ≡ l.initial.output ++ exits l.groups;
  depth : depth_of l.output + l.groups ≡ depth_of l.initial.output + l.left;
}

abbrev pub decreases-loop-left : goal.decreases-loop-left
decreases-loop-left l = l.left
