use Rattle.squawk_tree.proofs.ChildLoopLemmas.{plain_emitted}
use Rattle.squawk_tree.proofs.child_grammar.PlainChildrenChildGrammar.emit_node.Goals as goal

pub returns-clause-steps : goal.returns-clause-steps
returns-clause-steps c =
    plain_emitted c.args.division c.args.lexed.now.tokens c.args.from c.args.shape c.args.node
    _ _ _ c.requires.first c.emit_plain_node.ensures.steps
