use Rattle.std.proofs.Common.{arith}
use Rattle.squawk_cut.proofs.JoinSteps.{steps_left, errors_left, bytes_left, open_more, errors_more, whole, tree_is}
use Rattle.squawk_cut.proofs.tree.join.Goals as goal

pub loop-i-preserved : goal.loop-i-preserved
loop-i-preserved c =
    let inv = c.loop-i.invariant in
    let push = c.in_ok-push_child.ensures in
    let child = c.index-children-i.result in
    let bytes = c.bytes-at.ensures in
    record {
      steps = steps_left c.args.children.now c.loop-i.i c.loop-i.at c.bytes-at.result child _ _ _
          c.loop-i-test.true c.index-children-i.is bytes push.steps inv.steps;
      errors = errors_left c.args.children.now c.loop-i.i c.loop-i.at c.bytes-at.result child _ _ _
          c.loop-i-test.true c.index-children-i.is bytes push.errors inv.errors;
      at = bytes_left c.args.children.now c.loop-i.i c.loop-i.at c.bytes-at.result child
          c.loop-i-test.true c.index-children-i.is bytes inv.at;
      is_open = open_more c.loop-i.at c.bytes-at.result child _ _ bytes push.sound push.steps
          inv.is_open;
      within = errors_more c.loop-i.at c.bytes-at.result child _ _ bytes push.sound push.errors
          inv.within;
    }

pub finish-requires-clause-balanced : goal.finish-requires-clause-balanced
finish-requires-clause-balanced c =
    let inv = c.loop-i.invariant in
    let step = c.in_ok-step-2.ensures in
    (whole c.loop-i.at _ _ _ _ inv.is_open step.ok step.kept inv.within).balanced

pub finish-requires-clause-tiled : goal.finish-requires-clause-tiled
finish-requires-clause-tiled c =
    let inv = c.loop-i.invariant in
    let step = c.in_ok-step-2.ensures in
    (whole c.loop-i.at _ _ _ _ inv.is_open step.ok step.kept inv.within).tiled

pub finish-requires-clause-within : goal.finish-requires-clause-within
finish-requires-clause-within c =
    let inv = c.loop-i.invariant in
    let step = c.in_ok-step-2.ensures in
    (whole c.loop-i.at _ _ _ _ inv.is_open step.ok step.kept inv.within).within

pub returns-clause-tree : goal.returns-clause-tree
returns-clause-tree c =
    let inv = c.loop-i.invariant in
    let step = c.in_ok-step-2.ensures in
    let finish = c.finish.ensures in
    tree_is c.finish.result c.args.children.now c.loop-i.i c.loop-i.at _ _ _ _ (omega arith)
    step.ok step.kept (whole c.loop-i.at _ _ _ _ inv.is_open step.ok step.kept inv.within)
    inv.steps inv.errors inv.at finish.steps finish.errors finish.len
