use Rattle.squawk_tree.proofs.ChildLoopLemmas.{leaf_emitted}
use Rattle.squawk_tree.proofs.child_steps.emit_child.Goals as goal

pub returns-in-None-clause-steps : goal.returns-in-None-clause-steps
returns-in-None-clause-steps g c =
    leaf_emitted (g.G.ChildGrammar.child c.args.grammar.now c.args.division) c.args.division
    c.args.lexed.now.tokens c.args.from c.args.shape _ _ _
    c.requires.first c.requires.some c.requires.within c.in-None.is c.emit_tokens.ensures.steps
