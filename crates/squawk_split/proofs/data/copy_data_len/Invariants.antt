use Rattle.std.proofs.Common.{◌≡◌, ◌≤◌, ◌+◌, ◌-◌, drop, length}
use Rattle.squawk_split.specs.CopyData.{copy_data_len}
use Rattle.squawk_split.proofs.data.copy_data_len.Given as goal

-- the bytes before `at`, then the data that begins there, are the data
abbrev pub invariant-loop-at : goal.invariant-loop-at
invariant-loop-at l = record {
  len : l.at + copy_data_len (drop l.at l.text) ≡ copy_data_len l.text;
  within : l.at ≤ length l.text;
}

abbrev pub decreases-loop-at : goal.decreases-loop-at
decreases-loop-at l = length l.text - l.at
