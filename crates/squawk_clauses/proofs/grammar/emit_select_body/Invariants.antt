use Rattle.std.proofs.Common.{◌≡◌, ◌≤◌, ◌+◌, ◌++◌, drop, false}
use Rattle.squawk_events.specs.Depth.{depth_of}
use Rattle.squawk_clauses.specs.Clauses.{select_steps}
use Rattle.squawk_clauses.specs.Depth.{open_nodes}
use Rattle.squawk_clauses.proofs.grammar.emit_select_body.Given as goal

abbrev pub invariant-loop-i : goal.invariant-loop-i
invariant-loop-i l = record {
  steps : l.output ++ select_steps l.division l.nodes.in_clause l.nodes.groups (drop l.i l.kinds)
      ≡ l.initial.output ++ select_steps l.division false 0 l.kinds;
  depth : depth_of l.output
      ≡ depth_of l.initial.output + open_nodes l.nodes.in_clause l.nodes.groups;
  groups_within : l.nodes.groups ≤ l.i;
}
