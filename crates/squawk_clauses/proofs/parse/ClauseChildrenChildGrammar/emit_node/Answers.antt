use Rattle.std.proofs.Common.{◌∙◌, sym}
use Rattle.squawk_clauses.proofs.ChildEmitted.{other_emitted, select_emitted}
use Rattle.squawk_clauses.proofs.parse.ClauseChildrenChildGrammar.emit_node.Goals as goal

pub returns-then-has_clauses-clause-steps : goal.returns-then-has_clauses-clause-steps
returns-then-has_clauses-clause-steps c =
    select_emitted c.args.division c.args.lexed.now.tokens c.args.from c.args.shape c.args.node
    _ _ _ _ c.requires.first (sym c.has_clauses.ensures ∙ c.if-has_clauses.true)
    c.in_ok-push.ensures.steps c.emit_select.ensures.steps

pub returns-clause-steps : goal.returns-clause-steps
returns-clause-steps c =
    other_emitted c.args.division c.args.lexed.now.tokens c.args.from c.args.shape c.args.node
    _ _ _ c.requires.first (sym c.has_clauses.ensures ∙ c.if-has_clauses.false)
    c.emit_node.ensures.steps
