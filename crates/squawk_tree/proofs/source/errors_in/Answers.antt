use Rattle.std.proofs.Common.{◌≡◌, sym, subst, ◌∙◌}
use Rattle.std.specs.Prelude.{IfOk}
use Rattle.squawk_tree.proofs.WalkLemmas.{by_step_lexical}
use Rattle.squawk_tree.proofs.source.errors_in.Goals as goal

pub returns-then-has_no_errors-clause-ok : goal.returns-then-has_no_errors-clause-ok
returns-then-has_no_errors-clause-ok c =
    subst (λ es. IfOk c.lexical_errors.result (λ errors. errors.items ≡ es))
    (by_step_lexical c.args.lexed.now.tokens c.args.sink.now.steps c.requires.covered
    c.requires.sound (sym c.has_no_errors.ensures ∙ c.if-has_no_errors.true))
    c.lexical_errors.ensures.ok
