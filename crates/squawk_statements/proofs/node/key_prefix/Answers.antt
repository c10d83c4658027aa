use Rattle.std.proofs.Common.{arith, ap, sym, ◌∙◌, take, drop, length-set}
use Rattle.std.proofs.lemmas.List.{drop_all, length-take-le}
use Rattle.squawk_statements.specs.Rows.{is_skipped}
use Rattle.squawk_statements.proofs.KeySteps.{key_end, key_step_skipped, key_step_kept}
use Rattle.squawk_statements.proofs.node.key_prefix.Goals as goal
use Rattle.squawk_statements.proofs.node.key_prefix.Goals.{then-not-is_skipped, else-not-is_skipped}

pub loop-kind-preserved : goal.loop-kind-preserved
loop-kind-preserved c = elim c.if-not-is_skipped.branch [
  | then-not-is_skipped w ↦ rw w.prefix-is (record {
    key = key_step_kept c.args.skip_trivia c.args.kinds.now c.loop-kind.kind-index w.to_raw.result
        c.kind-item.result c.loop-kind.prefix.kinds c.loop-kind.prefix.len _ c.loop-kind-test.true
        (w.to_raw.ensures.number ∙ c.kind-item.is)
        (omega (arith, c.loop-kind.invariant.size, c.loop-kind.invariant.within))
        (ap (is_skipped c.args.skip_trivia (take c.loop-kind.prefix.len c.loop-kind.prefix.kinds))
        w.to_raw.ensures.number ∙ sym c.is_skipped.ensures
        ∙ w.if-not-is_skipped.true) c.loop-kind.invariant.key;
    within = omega (arith, c.loop-kind.invariant.within);
    size = length-set _ _ _ ∙ c.loop-kind.invariant.size;
  })
  | else-not-is_skipped w ↦ rw w.prefix-is (record {
    key = key_step_skipped c.args.skip_trivia c.args.kinds.now c.loop-kind.kind-index
        c.kind-item.result c.kind-item.result _ _ c.loop-kind-test.true c.kind-item.is
        (sym c.is_skipped.ensures ∙ w.if-not-is_skipped.false) c.loop-kind.invariant.key;
    within = c.loop-kind.invariant.within;
    size = c.loop-kind.invariant.size;
  })
]

pub returns-clause-key : goal.returns-clause-key
returns-clause-key c =
    let size = length-take-le c.loop-kind.prefix.len c.loop-kind.prefix.kinds
    (omega (arith, c.loop-kind.invariant.size, c.loop-kind.invariant.within)) in
    key_end c.args.skip_trivia _ (drop c.loop-kind.kind-index c.args.kinds.now) _
    (omega (arith, c.loop-kind.invariant.within))
    (drop_all c.loop-kind.kind-index c.args.kinds.now (omega arith)) c.loop-kind.invariant.key
