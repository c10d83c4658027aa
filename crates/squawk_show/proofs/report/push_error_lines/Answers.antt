use Rattle.std.proofs.Common.{drop, arith}
use Rattle.std.specs.Prelude.{flat_map}
use Rattle.squawk_show.proofs.OutputLemmas.{error_lines_of, takes_line, takes_prefix, takes_some}
use Rattle.squawk_show.specs.Report.{parse_error_line}
use Rattle.squawk_show.proofs.report.push_error_lines.Goals as goal

pub returns-in_err-make_room-clause-prefix : goal.returns-in_err-make_room-clause-prefix
returns-in_err-make_room-clause-prefix g c =
    takes_prefix _ _ (g.K.Sink.view c.make_room.new.sink) _ c.loop-error.block
    (flat_map parse_error_line (drop c.loop-error.error-index c.args.parse.now.errors))
    c.loop-error.invariant.left c.in_err-make_room.ensures.prefix

pub loop-error-preserved : goal.loop-error-preserved
loop-error-preserved g c =
    let errors = c.args.parse.now.errors in
    record {
      left = takes_line _ _ _ _ c.loop-error.block c.make_room.new.block _ _
          (flat_map parse_error_line (drop c.loop-error.error-index errors)) _
          c.loop-error.invariant.left c.in_ok-make_room.ensures.ok c.push_error.ensures
          (error_lines_of errors c.errors-error-items.result.now c.loop-error.error-index _
          c.errors-error-items.ensures.errors c.loop-error-test.true);
      later = omega (arith, c.loop-error.invariant.later, c.in_ok-make_room.ensures.cause.later);
    }

pub returns-clause-prefix : goal.returns-clause-prefix
returns-clause-prefix g c = takes_some _ _ _ _ c.loop-error.invariant.left
