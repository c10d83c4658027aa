use Rattle.squawk_lexed.proofs.PrefixLemmas.{prefix_part, prefix_then, prefix_none}
use Rattle.squawk_lexed.proofs.WeaveLemmas.{on_err}
use Rattle.squawk_lexed.proofs.weave.emit_after_trivia.Goals as goal

pub returns-in_err-to-clause-prefix : goal.returns-in_err-to-clause-prefix
returns-in_err-to-clause-prefix g c = on_err _ (prefix_part _ _ _ _ c.in_err-to.ensures.prefix)

pub returns-in_err-step-clause-prefix : goal.returns-in_err-step-clause-prefix
returns-in_err-step-clause-prefix g c =
    on_err _ (prefix_then _ _ _ _ _ c.in_ok-to.ensures.ok
    (prefix_none _ _ _ c.in_err-step.ensures.err))
