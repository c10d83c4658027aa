use Rattle.std.proofs.Common.{arith, ap, sym, ◌∙◌}
use Rattle.squawk_tree.specs.Built.{end_of_last}
use Rattle.squawk_tree.specs.Spans.{offset_after}
use Rattle.squawk_tree.proofs.BuiltLemmas.{counts_full, end_pushed, end_of_last-push, offset_twice, spans_pushed}
use Rattle.squawk_tree.proofs.builder.TreeBuilder.push_node_step.Goals as goal

pub returns-clause-built : goal.returns-clause-built
returns-clause-built c =
    let steps = c.args.self.now.steps.items in
    let step = c.args.step in
    let len = c.len.ensures ∙ c.args.self.now.steps.ok.0 in
    let at = c.end_of_last-at.ensures
    ∙ ap (end_of_last c.args.self.now.end) c.deref.ensures.value ∙ c.requires.end in
    record {
      spans = rw c.in_ok-push.ensures.items (spans_pushed steps step _ _ _ _ _
          c.requires.spans at c.in_ok-end.ensures.spans c.in_ok-end.ensures.open_nodes);
      counts = rw c.in_ok-push.ensures.items (counts_full steps step _
          (c.in_ok-fill_counts.ensures.so_far steps (sym len)
          (c.len-2.ensures ∙ c.args.self.now.spans.ok.0 ∙ c.requires.spans.count)
          c.requires.counts) (omega (arith, c.in_ok-fill_counts.ensures.enough, len)));
      end = rw c.in_ok-push.ensures.items (end_of_last-push _ steps step
          ∙ ap (λ n. offset_after n step) c.in_ok-end.ensures.offset
          ∙ offset_twice c.end_of_last-at.result step
          ∙ ap (λ n. offset_after n step) at ∙ sym (end_pushed steps step));
    }
