use Rattle.std.proofs.Common.{◌∙◌}
use Rattle.squawk_lexed.proofs.KeptLemmas.{input_ok, input_no_trivia}
use Rattle.squawk_lexed.proofs.StoredLemmas.{seen_as}
use Rattle.squawk_lexed.proofs.lexed.LexedStr.to_input.Goals as goal

pub returns-clause-ok : goal.returns-clause-ok
returns-clause-ok c =
    input_ok _ _ c.args.self.now.tokens (c.deref.ensures.value
    ∙ (seen_as _ _ _ _ c.args.self.now c.self.view_is c.self.invariant).kinds_are)
    c.without_trivia.ensures.ok

pub returns-clause-no_trivia : goal.returns-clause-no_trivia
returns-clause-no_trivia c =
    input_no_trivia _ _ c.args.self.now.tokens (c.deref.ensures.value
    ∙ (seen_as _ _ _ _ c.args.self.now c.self.view_is c.self.invariant).kinds_are)
    c.without_trivia.ensures.ok
