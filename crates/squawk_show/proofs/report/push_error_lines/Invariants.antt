use Rattle.std.proofs.Common.{◌≤◌, ◌++◌, drop}
use Rattle.std.specs.Prelude.{flat_map}
use Rattle.squawk_show.specs.Output.{TakesAllBut}
use Rattle.squawk_show.specs.Report.{parse_error_line}
use Rattle.squawk_show.proofs.report.push_error_lines.Given as goal

-- the sink took all but what the block holds and the lines of the remaining errors
abbrev pub invariant-loop-error : goal.invariant-loop-error
invariant-loop-error g l = record {
  left : TakesAllBut (g.K.Sink.view l.initial.sink) (g.K.Sink.view l.sink)
      (l.initial.block ++ flat_map parse_error_line l.parse.errors)
      (l.block ++ flat_map parse_error_line (drop l.error-index l.parse.errors));
  later : (g.K.Sink.view l.initial.sink).faults ≤ (g.K.Sink.view l.sink).faults;
}
