use Rattle.squawk_lexed.proofs.PrefixLemmas.{prefix_as}
use Rattle.squawk_lexed.proofs.WeaveLemmas.{on_err}
use Rattle.squawk_lexed.proofs.weave.emit_leading_trivia.Goals as goal

pub returns-in_err-step-clause-prefix : goal.returns-in_err-step-clause-prefix
returns-in_err-step-clause-prefix g c =
    on_err _ (prefix_as _ _ _ _ _ c.in_err-step.ensures.err c.loop-token.invariant.steps
    c.loop-token.invariant.more)
