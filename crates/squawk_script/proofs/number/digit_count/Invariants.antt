use Rattle.std.proofs.Common.{◌≡◌, ◌≤◌, ◌+◌, ◌-◌, drop, length}
use Rattle.std.specs.Char.{is_ascii_digit}
use Rattle.std.specs.List.{prefix_len}
use Rattle.squawk_script.proofs.number.digit_count.Given as goal

-- the digits before `end`, and those that begin there, are those that begin at `at`
abbrev pub invariant-loop-end : goal.invariant-loop-end
invariant-loop-end l = record {
  count : l.end + prefix_len is_ascii_digit (drop l.end l.bytes)
      ≡ l.at + prefix_len is_ascii_digit (drop l.at l.bytes);
  after : l.at ≤ l.end;
  within : l.end ≤ length l.bytes;
}

abbrev pub decreases-loop-end : goal.decreases-loop-end
decreases-loop-end l = length l.bytes - l.end
