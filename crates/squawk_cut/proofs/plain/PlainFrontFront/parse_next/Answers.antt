use Rattle.std.proofs.Common.{drop, sym, subst}
use Rattle.std.proofs.lemmas.Str.{IsUtf8-drop}
use Rattle.squawk_lexed.specs.LexedText.{EndAtBoundaries}
use Rattle.squawk_lexer.specs.Flags.{AreCut}
use Rattle.squawk_cut.proofs.PlainTokens.{tokens_cut, tokens_laid}
use Rattle.squawk_cut.proofs.plain.PlainFrontFront.parse_next.Goals as goal

pub first_child-requires-clause-cut : goal.first_child-requires-clause-cut
first_child-requires-clause-cut c =
    subst AreCut (sym c.requires.tokens)
    (tokens_cut c.tokens_progress.ensures.texts c.tokens_restart.ensures.texts
    c.args.self.now.strings c.args.self.now.division _
    (drop c.args.at c.args.text.now)
    (IsUtf8-drop c.args.text.now c.args.at c.utf8.text c.requires.boundary))

pub first_child-requires-clause-laid : goal.first_child-requires-clause-laid
first_child-requires-clause-laid c =
    subst (EndAtBoundaries c.args.text.now c.args.at) (sym c.requires.tokens)
    (tokens_laid c.tokens_progress.ensures.texts c.args.self.now.strings c.args.self.now.division _
    c.args.text.now c.args.at c.utf8.text
    c.requires.boundary)
