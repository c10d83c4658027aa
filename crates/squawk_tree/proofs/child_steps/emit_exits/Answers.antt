use Rattle.squawk_tree.proofs.ChildTokenLemmas.{exits_more}
use Rattle.squawk_tree.proofs.child_steps.emit_exits.Goals as goal

pub loop-left-preserved : goal.loop-left-preserved
loop-left-preserved c = record {
  steps = exits_more c.loop-left.left _ _ _ c.loop-left-test.true c.loop-left.invariant.steps
      c.in_ok-push.ensures.steps;
  built = c.in_ok-push.ensures.built;
}
