use Rattle.std.proofs.Common.{◌≡◌, ◌++◌, slice_range}
use Rattle.squawk_lexed.specs.LexedText.{token_start}
use Rattle.squawk_tree.specs.Built.{IsBuilt}
use Rattle.squawk_tree.specs.ParseOf.{token_steps}
use Rattle.squawk_tree.proofs.child_steps.emit_tokens.Given as goal

-- what was emitted, and the steps of the tokens that are left, are the steps of all
abbrev pub invariant-loop-i : goal.invariant-loop-i
invariant-loop-i l = record {
  steps : l.tree.steps.items ++ token_steps (token_start l.lexed.tokens l.i)
      (slice_range l.lexed.tokens l.i l.to)
      ≡ l.initial.tree.steps.items ++ token_steps (token_start l.lexed.tokens l.from)
      (slice_range l.lexed.tokens l.from l.to);
  built : IsBuilt l.tree;
}
