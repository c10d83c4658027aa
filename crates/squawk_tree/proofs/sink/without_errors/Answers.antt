use Rattle.std.proofs.Common.{sym, ◌∙◌}
use Rattle.squawk_tree.proofs.SinkLemmas.{without_none}
use Rattle.squawk_tree.proofs.sink.without_errors.Goals as goal

pub returns-then-no_errors : goal.returns-then-no_errors
returns-then-no_errors c =
    sym (without_none c.args.steps.items (sym c.requires ∙ c.if-no_errors.true))
