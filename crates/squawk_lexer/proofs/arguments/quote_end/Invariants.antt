use Rattle.std.proofs.Common.{◌≡◌, ◌-◌, ◌≤◌, length}
use Rattle.squawk_lexer.specs.Runs.{line_end}
use Rattle.squawk_lexer.specs.PsqlQuotes.{close_end}
use Rattle.squawk_lexer.proofs.arguments.quote_end.Given as goal

abbrev pub invariant-loop-at : goal.invariant-loop-at
invariant-loop-at l = record {
  within : l.at ≤ length l.bytes;
  on : l.start ≤ l.at;
  close : close_end l.quote l.bytes l.at ≡ close_end l.fn.quote l.fn.bytes l.fn.start;
  line : line_end l.bytes l.at ≡ line_end l.fn.bytes l.fn.start;
}

abbrev pub decreases-loop-at : goal.decreases-loop-at
decreases-loop-at l = length l.bytes - l.at
