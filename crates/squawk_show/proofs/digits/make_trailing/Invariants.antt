use Rattle.squawk_show.specs.Digits.{IsTrailingTable}
use Rattle.squawk_show.proofs.digits.make_trailing.Given as goal

-- so far each number has its entry
abbrev pub invariant-loop-n : goal.invariant-loop-n
invariant-loop-n l = IsTrailingTable l.n l.table.items
