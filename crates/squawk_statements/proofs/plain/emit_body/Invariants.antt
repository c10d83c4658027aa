use Rattle.std.proofs.Common.{◌≡◌, ◌≤◌, ◌+◌, ◌++◌, drop}
use Rattle.squawk_events.specs.Depth.{depth_of}
use Rattle.squawk_statements.specs.Plain.{body_steps}
use Rattle.squawk_statements.proofs.plain.emit_body.Given as goal

abbrev pub invariant-loop-i : goal.invariant-loop-i
invariant-loop-i l = record {
  steps : l.output ++ body_steps l.division l.groups (drop l.i l.kinds)
      ≡ l.initial.output ++ body_steps l.division 0 l.kinds;
  depth : depth_of l.output ≡ depth_of l.initial.output + l.groups;
  groups_within : l.groups ≤ l.i;
}
