use Rattle.std.proofs.Common.{arith}
use Rattle.squawk_tree.proofs.NodeRangeLemmas.{count_and_rest, count_and_rest_le}
use Rattle.squawk_tree.proofs.spans.node_steps_before.Goals as goal

pub overflow_add-result : goal.overflow_add-result
overflow_add-result c =
    let le = count_and_rest_le c.args.steps.now c.args.counts.now c.args.i c.node_step_count.result
    c.requires.counts c.requires.step c.node_step_count.ensures.count in
    omega (arith, le, c.ranges.i.fits)

pub returns : goal.returns
returns c =
    count_and_rest c.args.steps.now c.args.counts.now c.args.i c.node_step_count.result
    c.requires.counts c.requires.step c.node_step_count.ensures.count
