use Rattle.std.proofs.Common.{◌≡◌, ◌+◌, ◌-◌, ◌≤◌, length, drop}
use Rattle.std.specs.List.{prefix_len}
use Rattle.squawk_lexer.specs.Stops.{is_neither_on_line}
use Rattle.squawk_lexer.proofs.scan.far_len_until2_on_line.Given as goal

abbrev pub invariant-loop-len : goal.invariant-loop-len
invariant-loop-len l = record {
  within : l.len ≤ length l.bytes;
  run : l.len + prefix_len (is_neither_on_line l.a l.b) (drop l.len l.bytes)
      ≡ prefix_len (is_neither_on_line l.fn.a l.fn.b) l.fn.bytes;
}

abbrev pub decreases-loop-len : goal.decreases-loop-len
decreases-loop-len l = length l.bytes - l.len
