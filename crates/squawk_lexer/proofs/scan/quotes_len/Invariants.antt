use Rattle.std.proofs.Common.{◌≡◌, ◌+◌, ◌-◌, ◌≤◌, length, drop}
use Rattle.std.specs.List.{prefix_len}
use Rattle.squawk_lexer.specs.Quoted.{is_quote}
use Rattle.squawk_lexer.proofs.scan.quotes_len.Given as goal

abbrev pub invariant-loop-len : goal.invariant-loop-len
invariant-loop-len l = record {
  within : l.len ≤ length l.bytes;
  run : l.len + prefix_len (is_quote l.quote) (drop l.len l.bytes)
      ≡ prefix_len (is_quote l.quote) l.fn.bytes;
}

abbrev pub decreases-loop-len : goal.decreases-loop-len
decreases-loop-len l = length l.bytes - l.len
