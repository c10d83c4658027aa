use Rattle.std.proofs.Common.{◌≡◌, ◌≤◌, ◌++◌, slice_range}
use Rattle.squawk_lexed.specs.LexedText.{token_start}
use Rattle.squawk_tree.specs.Built.{IsBuilt}
use Rattle.squawk_tree.specs.ChildSteps.{nested_steps}
use Rattle.squawk_tree.proofs.child_steps.emit_nested.Given as goal

-- what was emitted, and the steps of the tokens that are left, are the steps of all
abbrev pub invariant-loop-i : goal.invariant-loop-i
invariant-loop-i l = record {
  steps : l.tree.steps.items ++ nested_steps l.groups (token_start l.lexed.tokens l.i)
      (slice_range l.lexed.tokens l.i l.to)
      ≡ l.initial.tree.steps.items ++ nested_steps 0 (token_start l.lexed.tokens l.from)
      (slice_range l.lexed.tokens l.from l.to);
  groups_within : l.groups ≤ l.i;
  built : IsBuilt l.tree;
}
