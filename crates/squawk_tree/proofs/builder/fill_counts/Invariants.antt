use Rattle.std.proofs.Common.{◌≡◌, ◌+◌, ◌-◌, List, length}
use Rattle.squawk_events.specs.declared.steps.StrStep.{StrStep}
use Rattle.squawk_tree.specs.Built.{AreCountsSoFar}
use Rattle.squawk_tree.specs.NodeRanges.{node_step_count}
use Rattle.squawk_tree.proofs.builder.fill_counts.Given as goal

-- the counts so far
abbrev pub invariant-loop-counts : goal.invariant-loop-counts
invariant-loop-counts l = (steps : List StrStep) → length steps ≡ l.len
    → l.node_steps ≡ node_step_count steps → AreCountsSoFar steps l.initial.counts.items
    → AreCountsSoFar steps l.counts.items

abbrev pub decreases-loop-counts : goal.decreases-loop-counts
decreases-loop-counts l = l.len + 1 - length l.counts.items
