use Rattle.std.proofs.Common.{refl, sym, ◌∙◌, arith}
use Rattle.std.proofs.lemmas.Bool.Decides.{nat_tests}
use Rattle.squawk_lexer.specs.PsqlWords.{query_ending_words}
use Rattle.squawk_lexer.proofs.PsqlFirst.{among_begun, among_none, equals_one}
use Rattle.squawk_lexer.proofs.psql.is_query_ending.Goals as goal

pub returns-in-103 : goal.returns-in-103
returns-in-103 c = c.contains.ensures.value
    ∙ among_begun query_ending_words 103 c.args.word.now refl c.utf8.word
    (sym c.in-103.is ∙ c.first_byte.ensures)

pub returns-in-99 : goal.returns-in-99
returns-in-99 c = c.contains-in-99.ensures.value
    ∙ among_begun query_ending_words 99 c.args.word.now refl c.utf8.word
    (sym c.in-99.is ∙ c.first_byte.ensures)

pub returns-in-115 : goal.returns-in-115
returns-in-115 c = c.contains-in-115.ensures.value
    ∙ among_begun query_ending_words 115 c.args.word.now refl c.utf8.word
    (sym c.in-115.is ∙ c.first_byte.ensures)

pub returns-in-102 : goal.returns-in-102
returns-in-102 c = c.contains-in-102.ensures.value
    ∙ among_begun query_ending_words 102 c.args.word.now refl c.utf8.word
    (sym c.in-102.is ∙ c.first_byte.ensures)

pub returns-in-114 : goal.returns-in-114
returns-in-114 c = c.contains-in-114.ensures.value
    ∙ among_begun query_ending_words 114 c.args.word.now refl c.utf8.word
    (sym c.in-114.is ∙ c.first_byte.ensures)

pub returns-in-101 : goal.returns-in-101
returns-in-101 c = c.eq.ensures ∙ equals_one _ c.args.word.now
    ∙ among_begun query_ending_words 101 c.args.word.now refl c.utf8.word
    (sym c.in-101.is ∙ c.first_byte.ensures)

pub returns-in-112 : goal.returns-in-112
returns-in-112 c = c.eq-in-112.ensures ∙ equals_one _ c.args.word.now
    ∙ among_begun query_ending_words 112 c.args.word.now refl c.utf8.word
    (sym c.in-112.is ∙ c.first_byte.ensures)

pub returns-in-119 : goal.returns-in-119
returns-in-119 c = c.eq-in-119.ensures ∙ equals_one _ c.args.word.now
    ∙ among_begun query_ending_words 119 c.args.word.now refl c.utf8.word
    (sym c.in-119.is ∙ c.first_byte.ensures)

pub returns-in_default : goal.returns-in_default
returns-in_default c = among_none query_ending_words c.first_byte.result c.args.word.now refl c.utf8.word
    c.first_byte.ensures (grind (arith, nat_tests))
