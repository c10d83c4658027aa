use Rattle.squawk_cut.proofs.KindSteps.{next_laid, kinds_more, count_more, closed_shape}
use Rattle.squawk_cut.proofs.plain.first_shape.Goals as goal

pub returns-then-shape-clause-shape : goal.returns-then-shape-clause-shape
returns-then-shape-clause-shape c =
    let inv = c.loop-i.invariant in
    closed_shape c.args.division c.first_child_in-shape.result _ _ _ _ c.deref.ensures.value
    (c.first_child_in-shape.ensures.longer c.if-shape.true)
    (kinds_more c.args.text.now c.loop-i.from c.args.tokens.now c.loop-i.i _ _ _ _ _ _
    c.loop-i-test.true c.range.ensures.value c.kind_of.ensures.kind c.in_ok-push.ensures.items
    inv.so_far)

pub loop-i-preserved : goal.loop-i-preserved
loop-i-preserved c =
    let inv = c.loop-i.invariant in
    let laid = next_laid c.args.text.now c.loop-i.from c.args.tokens.now c.loop-i.i _
    c.loop-i-test.true inv.laid in
    record {
      so_far = kinds_more c.args.text.now c.loop-i.from c.args.tokens.now c.loop-i.i _ _ _ _ _ _
          c.loop-i-test.true c.range.ensures.value c.kind_of.ensures.kind
          c.in_ok-push.ensures.items inv.so_far;
      laid = laid.1;
      boundary = laid.0;
      count = count_more _ _ _ _ c.in_ok-push.ensures.items inv.count;
    }
