use Rattle.std.proofs.Common.{◌≡◌, ◌≤◌, ◌-◌, ◌++◌, drop, length}
use Rattle.squawk_events.specs.Depth.{depth_of}
use Rattle.squawk_kinds.specs.Role.{role}
use Rattle.squawk_statements.specs.Children.{parts}
use Rattle.squawk_statements.specs.Plain.{children_by}
use Rattle.squawk_clauses.specs.Clauses.{clause_child_steps}
use Rattle.squawk_clauses.proofs.grammar.emit_clauses.Given as goal

abbrev pub invariant-loop-at : goal.invariant-loop-at
invariant-loop-at l = record {
  steps : l.output ++ children_by (clause_child_steps l.division)
      (parts role l.division (drop l.at l.kinds))
      ≡ l.initial.output ++ children_by (clause_child_steps l.division)
      (parts role l.division l.kinds);
  depth : depth_of l.output ≡ depth_of l.initial.output;
  within : l.at ≤ length l.kinds;
}

abbrev pub decreases-loop-at : goal.decreases-loop-at
decreases-loop-at l = length l.kinds - l.at
