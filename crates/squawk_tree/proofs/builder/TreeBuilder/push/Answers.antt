use Rattle.squawk_tree.proofs.BuiltLemmas.{counts_token, end_token, spans_token}
use Rattle.squawk_tree.proofs.builder.TreeBuilder.push.Goals as goal

pub returns-in_ok-push-in-Token-clause-built : goal.returns-in_ok-push-in-Token-clause-built
returns-in_ok-push-in-Token-clause-built c =
    let steps = c.args.self.now.steps.items in
    let is = c.in-Token.is in
    record {
      spans = rw c.in_ok-push-in-Token.ensures.items
          (spans_token steps c.args.step _ _ _ _ _ c.requires.spans is);
      counts = rw c.in_ok-push-in-Token.ensures.items
          (counts_token steps c.args.step _ _ _ _ c.requires.counts is);
      end = rw c.in_ok-push-in-Token.ensures.items
          (end_token _ steps c.args.step _ _ _ is);
    }
