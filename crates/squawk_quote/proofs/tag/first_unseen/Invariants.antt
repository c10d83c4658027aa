use Rattle.std.proofs.Common.{◌≡◌, ◌≤◌, ◌+◌, ◌-◌, length, drop}
use Rattle.squawk_quote.specs.Tags.{first_unset}
use Rattle.squawk_quote.proofs.tag.first_unseen.Given as goal

-- the flags before `at` are set
abbrev pub invariant-loop-at : goal.invariant-loop-at
invariant-loop-at l = record {
  first : l.at + first_unset (drop l.at l.seen) ≡ first_unset l.seen;
  within : l.at ≤ length l.seen;
}

abbrev pub decreases-loop-at : goal.decreases-loop-at
decreases-loop-at l = length l.seen - l.at
