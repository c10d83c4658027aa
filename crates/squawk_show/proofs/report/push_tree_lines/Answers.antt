use Rattle.std.proofs.Common.{◌++◌, ◌∙◌, ap, sym, arith, rules}
use Rattle.squawk_show.proofs.OutputLemmas.{takes_line, takes_prefix, takes_some}
use Rattle.squawk_show.specs.Report.{step_line, step_lines}
use Rattle.squawk_show.proofs.report.push_tree_lines.Goals as goal

pub returns-in_err-make_room-clause-prefix : goal.returns-in_err-make_room-clause-prefix
returns-in_err-make_room-clause-prefix g c =
    takes_prefix _ _ (g.K.Sink.view c.make_room.new.sink) _ c.loop-step.block
    (step_lines c.loop-step.depth c.loop-step.step-iterator)
    c.loop-step.invariant.left c.in_err-make_room.ensures.prefix

pub loop-step-preserved : goal.loop-step-preserved
loop-step-preserved g c =
    let depth = c.loop-step.depth in
    let line = step_line depth c.in-Some.step c.in-Some.range in
    let next = c.in-Some.ensures.steps in
    record {
      left = takes_line _ _ _ _ c.loop-step.block c.make_room.new.block _ line
          (step_lines depth c.loop-step.step-iterator) _
          c.loop-step.invariant.left c.in_ok-make_room.ensures.ok c.push_step.ensures.line
          (ap (step_lines depth) next
          ∙ sym (ap (λ n. line ++ step_lines n c.next.new.self) c.push_step.ensures.depth));
      later = omega (arith, c.loop-step.invariant.later, c.in_ok-make_room.ensures.cause.later);
      depth = search rules;
    }

pub returns-clause-prefix : goal.returns-clause-prefix
returns-clause-prefix g c = takes_some _ _ _ _ c.loop-step.invariant.left
