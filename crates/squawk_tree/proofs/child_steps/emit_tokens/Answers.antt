use Rattle.squawk_tree.proofs.ChildTokenLemmas.{tokens_more}
use Rattle.squawk_tree.proofs.child_steps.emit_tokens.Goals as goal

pub loop-i-preserved : goal.loop-i-preserved
loop-i-preserved c = record {
  steps = tokens_more c.args.lexed.now.tokens c.loop-i.i c.args.to _ _ _ _ c.loop-i-test.true
      c.requires.within c.token_step.ensures c.loop-i.invariant.steps
      c.in_ok-push.ensures.steps;
  built = c.in_ok-push.ensures.built;
}
