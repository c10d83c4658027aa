use Rattle.std.proofs.Common.{◌≡◌, ◌≤◌, ◌++◌, ◌-◌, drop, length}
use Rattle.squawk_lexed.specs.Stored.{errors_from}
use Rattle.squawk_tree.specs.Walk.{errors_before}
use Rattle.squawk_tree.proofs.errors.push_errors_before.Given as goal

-- the errors that were appended and those that remain are all that begin before the end
abbrev pub invariant-loop-next : goal.invariant-loop-next
invariant-loop-next l = record {
  errors : l.errors.items ++ errors_before l.end (drop l.next l.lexical)
      ≡ l.initial.errors.items ++ errors_before l.end (drop l.from l.lexical);
  rest : errors_from l.end (drop l.next l.lexical)
      ≡ errors_from l.end (drop l.from l.lexical);
  within : l.next ≤ length l.lexical;
}

abbrev pub decreases-loop-next : goal.decreases-loop-next
decreases-loop-next l = length l.lexical - l.next
