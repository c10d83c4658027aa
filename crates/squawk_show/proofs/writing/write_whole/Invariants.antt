use Rattle.std.proofs.Common.{◌≤◌, ◌-◌, length, take}
use Rattle.squawk_show.specs.Edge.{AppendsAll}
use Rattle.squawk_show.proofs.writing.write_whole.Given as goal

-- the first bytes of the text are written, and no fault came
abbrev pub invariant-loop-done : goal.invariant-loop-done
invariant-loop-done g l = record {
  within : l.done ≤ length l.text;
  written : AppendsAll (g.K.Sink.view l.initial.sink) (g.K.Sink.view l.sink)
      (take l.done l.text);
  later : (g.K.Sink.view l.initial.sink).faults ≤ (g.K.Sink.view l.sink).faults;
}

abbrev pub decreases-loop-done : goal.decreases-loop-done
decreases-loop-done g l = length l.text - l.done
