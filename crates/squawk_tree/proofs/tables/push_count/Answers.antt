use Rattle.std.proofs.Common.{arith}
use Rattle.squawk_tree.proofs.NodeRangeLemmas.{counts_push, counts_keep}
use Rattle.squawk_tree.proofs.tables.push_count.Goals as goal

pub returns-in_ok-push : goal.returns-in_ok-push
returns-in_ok-push c = λ steps are nodes_are.
    counts_push steps c.args.i c.args.node_steps _ _ (omega (arith, c.if-i-eq0.true)) are nodes_are
    c.in_ok-push.ensures.items

pub returns-else-i-eq0 : goal.returns-else-i-eq0
returns-else-i-eq0 c = λ steps are nodes_are.
    counts_keep steps c.args.i _ (omega (arith, c.if-i-eq0.false)) are
