use Rattle.std.proofs.Common.{◌≡◌, ◌-◌, ◌≤◌, length, None}
use Rattle.squawk_lexer.specs.PsqlParts.{arguments_end}
use Rattle.squawk_lexer.proofs.ArgumentSteps.{marked_end}
use Rattle.squawk_lexer.proofs.arguments.find_options.Given as goal

abbrev pub invariant-loop-at : goal.invariant-loop-at
invariant-loop-at l = record {
  within : l.at ≤ length l.bytes;
  end : arguments_end l.bytes l.at ≡ arguments_end l.fn.bytes 0;
  marked : marked_end l.mark l.bytes l.at ≡ marked_end None l.fn.bytes 0;
}

abbrev pub decreases-loop-at : goal.decreases-loop-at
decreases-loop-at l = length l.bytes - l.at
