use Rattle.std.proofs.Common.{refl, sym, ◌∙◌, arith}
use Rattle.std.proofs.lemmas.Bool.Decides.{nat_tests}
use Rattle.squawk_lexer.specs.PsqlWords.{whole_line_words}
use Rattle.squawk_lexer.proofs.PsqlFirst.{among_begun, among_none, equals_one}
use Rattle.squawk_lexer.proofs.psql.is_whole_line_word.Goals as goal

pub returns-in-33 : goal.returns-in-33
returns-in-33 c = c.eq.ensures ∙ equals_one _ c.args.word.now
    ∙ among_begun whole_line_words 33 c.args.word.now refl c.utf8.word
    (sym c.in-33.is ∙ c.first_byte.ensures)

pub returns-in-101 : goal.returns-in-101
returns-in-101 c = c.contains.ensures.value
    ∙ among_begun whole_line_words 101 c.args.word.now refl c.utf8.word
    (sym c.in-101.is ∙ c.first_byte.ensures)

pub returns-in-115 : goal.returns-in-115
returns-in-115 c = c.contains-in-115.ensures.value
    ∙ among_begun whole_line_words 115 c.args.word.now refl c.utf8.word
    (sym c.in-115.is ∙ c.first_byte.ensures)

pub returns-in-104 : goal.returns-in-104
returns-in-104 c = c.contains-in-104.ensures.value
    ∙ among_begun whole_line_words 104 c.args.word.now refl c.utf8.word
    (sym c.in-104.is ∙ c.first_byte.ensures)

pub returns-in_default : goal.returns-in_default
returns-in_default c = among_none whole_line_words c.first_byte.result c.args.word.now refl c.utf8.word
    c.first_byte.ensures (grind (arith, nat_tests))
