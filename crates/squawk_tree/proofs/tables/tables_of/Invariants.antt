use Rattle.std.proofs.Common.{◌≡◌, drop, length, reverse, take}
use Rattle.squawk_tree.specs.NodeRanges.{node_ranges, node_step_count, AreCountsUpTo}
use Rattle.squawk_tree.proofs.SpanLemmas.{SpansSoFar}
use Rattle.squawk_tree.proofs.tables.tables_of.Given as goal

-- the tables of the steps that were read
abbrev pub invariant-loop-i : goal.invariant-loop-i
invariant-loop-i l = record {
  spans : SpansSoFar l.spans.items (reverse l.open_nodes.items) l.at (drop l.i l.steps)
      (node_ranges l.steps);
  nodes : length l.spans.items ≡ node_step_count (take l.i l.steps);
  counts : AreCountsUpTo l.steps l.i l.counts.items;
}
