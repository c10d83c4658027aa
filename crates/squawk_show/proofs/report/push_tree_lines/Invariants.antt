use Rattle.std.proofs.Common.{◌≤◌, ◌+◌, ◌++◌, length}
use Rattle.squawk_show.specs.Output.{TakesAllBut}
use Rattle.squawk_show.specs.Report.{step_lines, tree_lines}
use Rattle.squawk_show.proofs.report.push_tree_lines.Given as goal

-- the sink took all but what the block holds and the lines of the remaining steps
abbrev pub invariant-loop-step : goal.invariant-loop-step
invariant-loop-step g l = record {
  left : TakesAllBut (g.K.Sink.view l.initial.sink) (g.K.Sink.view l.sink)
      (l.initial.block ++ tree_lines l.parse.steps)
      (l.block ++ step_lines l.depth l.step-iterator);
  later : (g.K.Sink.view l.initial.sink).faults ≤ (g.K.Sink.view l.sink).faults;
  depth : l.depth + length l.step-iterator ≤ length l.parse.steps;
}
