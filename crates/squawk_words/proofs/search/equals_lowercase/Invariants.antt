use Rattle.std.proofs.Common.{◌≡◌, ℕ, ◌-◌, ◌<◌, ◌≤◌, length, slice_index}
use Rattle.std.specs.Char.{to_ascii_lowercase}
use Rattle.squawk_words.proofs.search.equals_lowercase.Given as goal

-- the bytes before this index are the same
abbrev pub invariant-loop-i : goal.invariant-loop-i
invariant-loop-i l =
    (l.i ≤ length l.word)
    × ((k : ℕ) → k < l.i
    → slice_index l.word k ≡ to_ascii_lowercase (slice_index l.ident k))

abbrev pub decreases-loop-i : goal.decreases-loop-i
decreases-loop-i l = length l.word - l.i
