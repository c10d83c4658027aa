use Rattle.std.proofs.Common.{refl, sym, ◌∙◌, arith}
use Rattle.std.proofs.lemmas.Bool.Decides.{nat_tests}
use Rattle.squawk_lexer.specs.PsqlWords.{pipe_words, option_words}
use Rattle.squawk_lexer.proofs.PsqlChars.{among_same}
use Rattle.squawk_lexer.proofs.PsqlFirst.{among_begun, among_none}
use Rattle.squawk_lexer.proofs.psql.takes_pipe.Goals as goal

pub returns-in-103 : goal.returns-in-103
returns-in-103 c = c.takes_options.ensures
    ∙ sym (among_same option_words c.args.word.now refl c.utf8.word)
    ∙ among_begun pipe_words 103 c.args.word.now refl c.utf8.word
    (sym c.in-103.is ∙ c.first_byte.ensures)

pub returns-in-111 : goal.returns-in-111
returns-in-111 c = c.contains.ensures.value
    ∙ among_begun pipe_words 111 c.args.word.now refl c.utf8.word
    (sym c.in-111.is ∙ c.first_byte.ensures)

pub returns-in-119 : goal.returns-in-119
returns-in-119 c = c.contains-in-119.ensures.value
    ∙ among_begun pipe_words 119 c.args.word.now refl c.utf8.word
    (sym c.in-119.is ∙ c.first_byte.ensures)

pub returns-in_default : goal.returns-in_default
returns-in_default c = among_none pipe_words c.first_byte.result c.args.word.now refl c.utf8.word
    c.first_byte.ensures (grind (arith, nat_tests))
