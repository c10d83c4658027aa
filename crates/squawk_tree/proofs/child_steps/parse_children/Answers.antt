use Rattle.squawk_tree.proofs.StatementParse.{emitted_is, emitted_tree, parses_emitted}
use Rattle.squawk_tree.proofs.child_steps.parse_children.Goals as goal

pub finish-requires-clause-tree : goal.finish-requires-clause-tree
finish-requires-clause-tree g c =
    let ts = c.args.lexed.tokens in
    let law = g.met.G.ChildGrammar.lawful c.args.grammar.now c.args.division in
    emitted_tree _ _ c.args.division law ts _ c.len.ensures.sound
    (emitted_is _ _ c.args.division law ts _ _ _ _ _ _ c.len.ensures.sound c.in_ok-next.ensures.steps
    c.in_ok-next.ensures.errors c.len-2.ensures.count c.text_start-len.ensures
    c.in_ok-push_lexical_errors.ensures.ok)

pub returns-clause-parse : goal.returns-clause-parse
returns-clause-parse g c =
    let ts = c.args.lexed.tokens in
    let law = g.met.G.ChildGrammar.lawful c.args.grammar.now c.args.division in
    parses_emitted _ _ c.args.division law c.args.lexed _ _ c.len.ensures.sound c.len.ensures.whole
    (emitted_is _ _ c.args.division law ts _ _ _ _ _ _ c.len.ensures.sound c.in_ok-next.ensures.steps
    c.in_ok-next.ensures.errors c.len-2.ensures.count c.text_start-len.ensures
    c.in_ok-push_lexical_errors.ensures.ok) c.finish.ensures.parse
