use Rattle.std.proofs.Common.{◌≡◌, ◌+◌, ◌-◌, ◌≤◌, length, drop}
use Rattle.squawk_lexer.specs.ClassTests.{digit_test}
use Rattle.squawk_lexer.specs.Runs.{digits_len}
use Rattle.squawk_lexer.proofs.scan.digits_len.Given as goal

abbrev pub invariant-digits : goal.invariant-digits
invariant-digits l = record {
  within : l.len ≤ length l.bytes;
  run : l.len + digits_len (digit_test l.digits) (drop l.len l.bytes)
      ≡ digits_len (digit_test l.digits) l.fn.bytes;
}

abbrev pub decreases-digits : goal.decreases-digits
decreases-digits l = length l.bytes - l.len
