use Rattle.std.proofs.Common.{◌∷◌, ◌+◌, ◌<◌, drop, length, ap, sym, refl, ◌∙◌, arith}
use Rattle.std.proofs.lemmas.List.{drop_more}
use Rattle.squawk_tree.proofs.NodeRangeLemmas.{counts_start}
use Rattle.squawk_tree.proofs.SpanLemmas.{so_far_start, so_far_step, spans_counted}
use Rattle.squawk_tree.proofs.tables.tables_of.Goals as goal

pub loop-i-init : goal.loop-i-init
loop-i-init c =
    record {
      spans = rw (c.in_ok-spans.ensures.items, c.new-open_nodes.ensures.items)
          (so_far_start c.args.steps.now c.requires);
      nodes = rw c.in_ok-spans.ensures.items refl;
      counts = rw c.in_ok-counts.ensures.items (counts_start c.args.steps.now);
    }

pub loop-i-preserved : goal.loop-i-preserved
loop-i-preserved c =
    let i = c.loop-i.i in
    let steps = c.args.steps.now in
    let invariant = c.loop-i.invariant in
    let lt : i < length steps = omega (arith, c.loop-i-test.true) in
    let next = drop_more steps i c.index-steps-i.result lt
    ∙ ap (λ x. x ∷ drop (i + 1) steps) (sym c.index-steps-i.is) in
    record {
      spans = so_far_step _ _ _ _ _ _ _ _ _ _ invariant.spans next c.in_ok-at.ensures.spans
          c.in_ok-at.ensures.open_nodes c.in_ok-at.ensures.offset;
      nodes = spans_counted _ _ _ i _ _ steps _ invariant.nodes next c.in_ok-at.ensures.spans;
      counts = c.in_ok-push_count.ensures steps invariant.counts (c.len.ensures
          ∙ c.loop-i.spans.ok.0 ∙ invariant.nodes);
    }
