use Rattle.std.proofs.Common.{◌≤◌, ◌-◌, length}
use Rattle.squawk_split.proofs.reader.index_from.Given as goal

abbrev pub invariant-loop-index : goal.invariant-loop-index
invariant-loop-index l = l.index ≤ length l.lexed.tokens

abbrev pub decreases-loop-index : goal.decreases-loop-index
decreases-loop-index l = length l.lexed.tokens - l.index
