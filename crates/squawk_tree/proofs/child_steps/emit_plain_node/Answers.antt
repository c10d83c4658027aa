use Rattle.squawk_tree.proofs.ChildLoopLemmas.{node_emitted}
use Rattle.squawk_tree.proofs.child_steps.emit_plain_node.Goals as goal

pub returns-clause-steps : goal.returns-clause-steps
returns-clause-steps c =
    node_emitted c.args.lexed.now.tokens _ c.args.from c.args.to _ c.args.node c.args.shape.closed
    _ _ _ _ _ c.requires.ordered c.requires.within c.kinds-kinds.ensures
    c.body_len.ensures.len c.body_len.ensures.within c.in_ok-push.ensures.steps
    c.in_ok-emit_nested.ensures.steps c.in_ok-emit_tokens.ensures.steps
    c.in_ok-push-2.ensures.steps
