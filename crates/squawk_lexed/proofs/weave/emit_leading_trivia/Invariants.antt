use Rattle.std.proofs.Common.{◌≡◌, ◌≤◌, ◌+◌, ◌-◌, ◌++◌, drop, length}
use Rattle.squawk_lexed.specs.Weave.{leading_trivia, leading_trivia_end, after_leading_trivia}
use Rattle.squawk_lexed.specs.LexedText.{total_len}
use Rattle.squawk_lexed.proofs.weave.emit_leading_trivia.Given as goal

abbrev pub invariant-loop-token : goal.invariant-loop-token
invariant-loop-token g l = record {
  steps : g.K.StepSink.steps l.sink ++ leading_trivia l.at (drop l.token l.lexed.tokens)
      ≡ g.K.StepSink.steps l.initial.sink
      ++ leading_trivia l.fn.from.at (drop l.fn.from.token l.lexed.tokens);
  more : length (g.K.StepSink.steps l.initial.sink) ≤ length (g.K.StepSink.steps l.sink);
  left : after_leading_trivia (drop l.token l.lexed.tokens)
      ≡ after_leading_trivia (drop l.fn.from.token l.lexed.tokens);
  end : leading_trivia_end l.at (drop l.token l.lexed.tokens)
      ≡ leading_trivia_end l.fn.from.at (drop l.fn.from.token l.lexed.tokens);
  same_end : l.at + total_len (drop l.token l.lexed.tokens)
      ≡ l.fn.from.at + total_len (drop l.fn.from.token l.lexed.tokens);
  within : l.token ≤ length l.lexed.tokens;
  forward : l.fn.from.token ≤ l.token;
  errors : g.K.StepSink.errors l.sink ≡ g.K.StepSink.errors l.initial.sink;
}

abbrev pub decreases-loop-token : goal.decreases-loop-token
decreases-loop-token g l = length l.lexed.tokens - l.token
