use Rattle.std.proofs.Common.{refl, ◌∙◌}
use Rattle.squawk_lexer.specs.PsqlWords.{option_words}
use Rattle.squawk_lexer.proofs.PsqlChars.{among_same}
use Rattle.squawk_lexer.proofs.psql.takes_options.Goals as goal

pub returns : goal.returns
returns c = c.contains.ensures.value ∙ among_same option_words c.args.word.now refl c.utf8.word
