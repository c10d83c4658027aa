use Rattle.std.proofs.Common.{arith, refl, sym, ◌∙◌}
use Rattle.squawk_tree.proofs.ChildTokenLemmas.{trim_more, trim_end}
use Rattle.squawk_tree.proofs.child_steps.body_len.Goals as goal

pub loop-len-preserved : goal.loop-len-preserved
loop-len-preserved c = record {
  trimmed = trim_more _ c.loop-len.len c.args.kinds.now _ _ c.loop-len-test.true
      c.loop-len.invariant.within refl c.index-kinds-len.is (sym c.is_trivia.ensures.role ∙ c.if-is_trivia.true)
      c.loop-len.invariant.trimmed;
  within = omega (arith, c.loop-len.invariant.within);
}

pub returns-else-is_trivia-clause-len : goal.returns-else-is_trivia-clause-len
returns-else-is_trivia-clause-len c =
    trim_end _ c.loop-len.len c.args.kinds.now _ _ c.loop-len-test.true
    c.loop-len.invariant.within refl c.index-kinds-len.is (sym c.is_trivia.ensures.role ∙ c.if-is_trivia.false)
    c.loop-len.invariant.trimmed
