use Rattle.std.proofs.Common.{◌≡◌, ◌++◌}
use Rattle.squawk_tree.specs.Built.{IsBuilt}
use Rattle.squawk_tree.specs.ChildSteps.{exit_steps}
use Rattle.squawk_tree.proofs.child_steps.emit_exits.Given as goal

-- what was emitted, and the `Exit` steps that are left, are all
abbrev pub invariant-loop-left : goal.invariant-loop-left
invariant-loop-left l = record {
  steps : l.tree.steps.items ++ exit_steps l.left
      ≡ l.initial.tree.steps.items ++ exit_steps l.groups;
  built : IsBuilt l.tree;
}

abbrev pub decreases-loop-left : goal.decreases-loop-left
decreases-loop-left l = l.left
