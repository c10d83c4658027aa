use Rattle.std.proofs.Common.{ap, sym, ◌∙◌}
use Rattle.squawk_tree.specs.Spans.{offset_after}
use Rattle.squawk_tree.proofs.BuiltLemmas.{end_of_last_at, offset_kept, some_of}
use Rattle.squawk_tree.proofs.builder.end_of_last.Goals as goal

pub returns-in-Token : goal.returns-in-Token
returns-in-Token c =
    sym (end_of_last_at c.args.before c.args.steps.now _
    (some_of _ (sym c.is_empty.ensures ∙ c.if-is_empty.false)) c.index-steps-steps.is
    ∙ ap (offset_after c.args.before) c.in-Token.is)

pub returns-in_default : goal.returns-in_default
returns-in_default c =
    offset_kept c.args.before _ c.in_default.not-Token
    ∙ sym (end_of_last_at c.args.before c.args.steps.now _
    (some_of _ (sym c.is_empty.ensures ∙ c.if-is_empty.false)) c.index-steps-steps.is)
