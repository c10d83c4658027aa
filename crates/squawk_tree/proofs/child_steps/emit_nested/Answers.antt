use Rattle.std.proofs.Common.{arith}
use Rattle.squawk_tree.proofs.ChildTokenLemmas.{nested_more}
use Rattle.squawk_tree.proofs.child_steps.emit_nested.Goals as goal

pub loop-i-preserved : goal.loop-i-preserved
loop-i-preserved c = record {
  steps = nested_more c.args.lexed.now.tokens _ c.loop-i.i c.args.to c.loop-i.groups _ _ _ _ _ _
      c.loop-i-test.true c.requires.within c.kinds-kinds.ensures c.index-kinds-i.is
      c.token_step.ensures c.loop-i.invariant.steps
      c.in_ok-groups.ensures.steps c.in_ok-groups.ensures.groups;
  groups_within = omega (arith, c.loop-i.invariant.groups_within, c.in_ok-groups.ensures.bound);
  built = c.in_ok-groups.ensures.built;
}
