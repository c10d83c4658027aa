use Rattle.squawk_show.specs.Digits.{IsLeadingTable}
use Rattle.squawk_show.proofs.digits.make_leading.Given as goal

-- so far each number has its entry
abbrev pub invariant-loop-n : goal.invariant-loop-n
invariant-loop-n l = IsLeadingTable l.n l.table.items
