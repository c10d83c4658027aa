use Rattle.squawk_cut.proofs.LexedLemmas.{parse_own}
use Rattle.squawk_cut.proofs.plain.parse_own.Goals as goal

pub returns-in-Flat-clause-tree : goal.returns-in-Flat-clause-tree
returns-in-Flat-clause-tree c =
    parse_own c.parse_lexed.result c.args.division _ c.in_ok-lexed.lexed c.args.text.now c.args.at
    c.args.own.now c.in-Flat.is c.in_ok-lexed.ensures.lexed c.parse_lexed.ensures.parse.tree

pub returns-clause-tree : goal.returns-clause-tree
returns-clause-tree c =
    parse_own c.parse_lexed-in-Grouped.result c.args.division _ c.in_ok-lexed.lexed
    c.args.text.now c.args.at c.args.own.now c.in-Grouped.is c.in_ok-lexed.ensures.lexed
    c.parse_lexed-in-Grouped.ensures.parse.tree
