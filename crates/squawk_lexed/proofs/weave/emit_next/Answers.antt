use Rattle.squawk_lexed.proofs.WeaveSteps.{next_step, enter_after, enter_prefix}
use Rattle.squawk_lexed.proofs.weave.emit_next.Goals as goal

pub returns-in-Enter-clause-after : goal.returns-in-Enter-clause-after
returns-in-Enter-clause-after g c =
    enter_after c.args.lexed.now.tokens c.args.steps.now c.args.from c.in-Enter.kind
    (next_step _ _ _ _ c.requires.step c.in-Enter.is)
    c.emit_after_trivia.result c.requires.position c.emit_after_trivia.ensures.after
    c.emit_after_trivia.ensures.next_step

pub returns-in-Enter-clause-prefix : goal.returns-in-Enter-clause-prefix
returns-in-Enter-clause-prefix g c =
    enter_prefix c.args.lexed.now.tokens c.args.steps.now c.args.from c.in-Enter.kind
    (next_step _ _ _ _ c.requires.step c.in-Enter.is)
    c.emit_after_trivia.result _ _ c.emit_after_trivia.ensures.prefix
