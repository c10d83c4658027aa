use Rattle.squawk_document.specs.TokenFront.{token_lawful}
use Rattle.squawk_document.proofs.tests.fronts.token_front.Goals as goal

pub invariant_of-result : goal.invariant_of-result
invariant_of-result c = record {
  lawful = token_lawful c.tokens_progress.ensures.texts c.tokens_look_ahead.ensures.texts;
}
