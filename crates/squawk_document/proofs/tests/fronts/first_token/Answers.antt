use Rattle.std.proofs.Common.{◌≡◌, subst}
use Rattle.std.specs.Prelude.{IfOk}
use Rattle.squawk_cut.specs.ChildValue.{ChildValue}
use Rattle.squawk_document.proofs.TokenFrontLemmas.{first_child_is}
use Rattle.squawk_document.proofs.tests.fronts.first_token.Goals as goal

pub returns-clause-child : goal.returns-clause-child
returns-clause-child c =
    subst (λ (value : ChildValue). IfOk c.from_parse.result (λ child. child ≡ value))
    (first_child_is c.args.text.now c.args.at c.args.tokens.now c.in_ok-lexed.lexed
    c.in_ok-parse.parse c.requires.some c.in_ok-lexed.ensures.lexed
    c.in_ok-parse.ensures.parse.tree c.in_ok-parse.ensures.parse.leaves)
    c.from_parse.ensures.child
