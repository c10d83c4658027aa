use Rattle.std.proofs.Common.{◌∙◌}
use Rattle.squawk_tree.proofs.LeavesLemmas.{begins_with_of}
use Rattle.squawk_tree.proofs.source.weave_into_sink.Goals as goal

pub intersperse_trivia-requires-clause-tokens : goal.intersperse_trivia-requires-clause-tokens
intersperse_trivia-requires-clause-tokens g c =
    begins_with_of _ _ (c.in_ok-output.ensures.lawful.tokens ∙ c.in_ok-input.ensures.ok)
