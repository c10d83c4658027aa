use Rattle.std.proofs.Common.{◌≤◌, ◌-◌, length}
use Rattle.squawk_lexed.specs.Stored.{errors_of}
use Rattle.squawk_tree.specs.Built.{IsBuilt}
use Rattle.squawk_tree.proofs.ChildLoopLemmas.{ChildrenSoFar}
use Rattle.squawk_tree.proofs.child_steps.emit_children.Given as goal

-- what was emitted, and what the children of the tokens that are left have, are all
abbrev pub invariant-loop-at : goal.invariant-loop-at
invariant-loop-at g l = record {
  children : ChildrenSoFar (g.G.ChildGrammar.child l.grammar l.division) l.division
      l.lexed.tokens l.at l.error l.tree.steps.items l.errors.items;
  built : IsBuilt l.tree;
  within : l.at ≤ length l.lexed.tokens;
  error_within : l.error ≤ length (errors_of 0 l.lexed.tokens);
}

abbrev pub decreases-loop-at : goal.decreases-loop-at
decreases-loop-at g l = length l.lexed.tokens - l.at
