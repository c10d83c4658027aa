use Rattle.std.proofs.Common.{sym}
use Rattle.squawk_c.proofs.ParseLemmas.{errors_put, steps_put}
use Rattle.squawk_c.specs.Options.{reading}
use Rattle.squawk_c.proofs.parse.squawk_parse.Goals as goal

pub returns-then-step_count-steps-clause-steps : goal.returns-then-step_count-steps-clause-steps
returns-then-step_count-steps-clause-steps c _ =
    steps_put (reading c.args.options) c.in-Some.reading c.args.text.now c.in-Ok.text.now
    c.in-Ok-parse_divided.parse c.args.steps.now _ _ (sym c.in-Some.ensures)
    c.in-Ok.ensures.cases.0 c.in-Ok-parse_divided.ensures.tree c.put_steps.ensures

pub returns-then-step_count-steps-clause-errors : goal.returns-then-step_count-steps-clause-errors
returns-then-step_count-steps-clause-errors c _ =
    errors_put (reading c.args.options) c.in-Some.reading c.args.text.now c.in-Ok.text.now
    c.in-Ok-parse_divided.parse c.args.errors.now _ _ (sym c.in-Some.ensures)
    c.in-Ok.ensures.cases.0 c.in-Ok-parse_divided.ensures.tree c.put_errors.ensures

pub returns-clause-steps : goal.returns-clause-steps
returns-clause-steps c _ =
    steps_put (reading c.args.options) c.in-Some.reading c.args.text.now c.in-Ok.text.now
    c.in-Ok-parse_divided.parse c.args.steps.now _ _ (sym c.in-Some.ensures)
    c.in-Ok.ensures.cases.0 c.in-Ok-parse_divided.ensures.tree c.put_steps.ensures

pub returns-clause-errors : goal.returns-clause-errors
returns-clause-errors c _ =
    errors_put (reading c.args.options) c.in-Some.reading c.args.text.now c.in-Ok.text.now
    c.in-Ok-parse_divided.parse c.args.errors.now _ _ (sym c.in-Some.ensures)
    c.in-Ok.ensures.cases.0 c.in-Ok-parse_divided.ensures.tree c.put_errors.ensures
