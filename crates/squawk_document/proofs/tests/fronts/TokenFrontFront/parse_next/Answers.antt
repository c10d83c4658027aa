use Rattle.std.proofs.Common.{◌<◌, ◌==◌, drop, length, length-drop, refl, sym, subst, take, arith}
use Rattle.std.proofs.lemmas.Str.{IsUtf8-drop}
use Rattle.squawk_lexed.specs.LexedText.{EndAtBoundaries}
use Rattle.squawk_lexer.specs.Flags.{AreCut}
use Rattle.squawk_document.proofs.TokenFrontLemmas.{first_is_cut, first_is_laid}
use Rattle.squawk_document.proofs.tests.fronts.TokenFrontFront.parse_next.Goals as goal

pub first_token-requires-clause-cut : goal.first_token-requires-clause-cut
first_token-requires-clause-cut c =
    let rest = drop c.args.at c.args.text.now in
    let some : 0 < length rest =
    omega (arith, c.requires.inside, length-drop c.args.at c.args.text.now) in
    subst (λ ts. AreCut (take 1 ts)) (sym c.requires.tokens)
    (first_is_cut (c.args.at == 0) rest
    (IsUtf8-drop c.args.text.now c.args.at c.utf8.text c.requires.boundary) some)

pub first_token-requires-clause-laid : goal.first_token-requires-clause-laid
first_token-requires-clause-laid c =
    let rest = drop c.args.at c.args.text.now in
    let some : 0 < length rest =
    omega (arith, c.requires.inside, length-drop c.args.at c.args.text.now) in
    subst (λ ts. EndAtBoundaries c.args.text.now c.args.at (take 1 ts)) (sym c.requires.tokens)
    (first_is_laid c.tokens_progress.ensures.texts (c.args.at == 0) c.args.text.now c.args.at
    rest refl c.requires.boundary.0
    (IsUtf8-drop c.args.text.now c.args.at c.utf8.text c.requires.boundary) some)
