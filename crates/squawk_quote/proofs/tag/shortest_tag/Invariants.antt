use Rattle.std.proofs.Common.{◌≡◌, ◌<◌, ◌+◌, ◌-◌, ℕ, length, false, chars}
use Rattle.squawk_quote.specs.Values.{delimiter_fits}
use Rattle.squawk_quote.proofs.tag.shortest_tag.Given as goal

-- no tag shorter than `base` fits
abbrev pub invariant-loop-base : goal.invariant-loop-base
invariant-loop-base l = (k : ℕ) → k < l.base → delimiter_fits (chars l.value) k ≡ false

abbrev pub decreases-loop-base : goal.decreases-loop-base
decreases-loop-base l = length l.value + 1 - l.base
