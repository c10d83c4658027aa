use Rattle.std.proofs.Common.{◌≡◌, ◌≤◌, ◌+◌, ◌-◌, ◌++◌, length}
use Rattle.squawk_lexed.specs.Weave.{weave_from, remaining_from}
use Rattle.squawk_lexed.specs.WeavePosition.{weave_left, remaining_left, IsPosition}
use Rattle.squawk_lexed.proofs.weave.emit_rest.Given as goal

abbrev pub invariant-loop-position : goal.invariant-loop-position
invariant-loop-position g l = record {
  steps : g.K.StepSink.steps l.sink ++ weave_left l.lexed.tokens l.rest l.position
      ≡ g.K.StepSink.steps l.initial.sink ++ weave_from 0 l.lexed.tokens l.rest;
  more : length (g.K.StepSink.steps l.initial.sink) ≤ length (g.K.StepSink.steps l.sink);
  remaining : remaining_left l.lexed.tokens l.rest l.position
      ≡ remaining_from l.lexed.tokens l.rest;
  position : IsPosition l.lexed.tokens l.rest l.position;
  errors : g.K.StepSink.errors l.sink ≡ g.K.StepSink.errors l.initial.sink;
}

abbrev pub decreases-loop-position : goal.decreases-loop-position
decreases-loop-position g l = (length l.lexed.tokens + length l.rest)
    - (l.position.token + l.position.step)
