use Rattle.std.proofs.Common.{◌≡◌, ◌++◌, drop}
use Rattle.squawk_events.specs.Depth.{depth_of}
use Rattle.squawk_tree.specs.UngroupedGrammar.{ungrouped, ungrouped_from, ungrouped_depth}
use Rattle.squawk_tree.proofs.tests.grammar.emit_ungrouped.Given as goal

-- the steps so far and those of the remaining kinds are those of all kinds
abbrev pub invariant-loop-i : goal.invariant-loop-i
invariant-loop-i l = record {
  steps : l.output ++ ungrouped_from l.in_statement (drop l.i l.kinds) ≡ ungrouped l.kinds;
  depth : depth_of l.output ≡ ungrouped_depth l.in_statement;
}
