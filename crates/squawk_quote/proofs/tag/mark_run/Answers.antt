use Rattle.std.proofs.Common.{sym, ap, ◌∙◌}
use Rattle.squawk_quote.specs.Tags.{mark_run}
use Rattle.squawk_quote.proofs.TagPass.{no_run_marks_none}
use Rattle.squawk_quote.proofs.tag.mark_run.Goals as goal

pub returns-in-None : goal.returns-in-None
returns-in-None c =
    sym (ap (λ run. mark_run c.args.base run c.args.seen.now) c.in-None.is
    ∙ no_run_marks_none c.args.base c.args.seen.now)
