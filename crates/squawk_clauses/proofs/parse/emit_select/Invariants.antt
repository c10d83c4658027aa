use Rattle.std.proofs.Common.{◌≡◌, ◌≤◌, ◌++◌, [], slice_range, false}
use Rattle.squawk_lexed.specs.Weave.{kinds_without_trivia}
use Rattle.squawk_tree.specs.Built.{IsBuilt}
use Rattle.squawk_clauses.specs.SelectTokens.{select_left}
use Rattle.squawk_clauses.proofs.parse.emit_select.Given as goal

-- what was emitted, and the steps of the tokens that are left, are the steps of all
abbrev pub invariant-loop-i : goal.invariant-loop-i
invariant-loop-i l = record {
  steps : l.tree.steps.items ++ select_left l.division l.nodes.in_clause l.nodes.groups
      l.lexed.tokens l.next l.to
      ≡ l.initial.tree.steps.items ++ select_left l.division false 0 l.lexed.tokens l.from l.to;
  pending : kinds_without_trivia (slice_range l.lexed.tokens l.next l.i) ≡ [];
  ordered : l.next ≤ l.i;
  groups_within : l.nodes.groups ≤ l.i;
  built : IsBuilt l.tree;
}
