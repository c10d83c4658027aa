use Rattle.std.proofs.Common.{◌≡◌, take, refl, ◌∙◌, ap}
use Rattle.std.specs.Str.{chars}
use Rattle.squawk_lexer.specs.Psql.{word_end}
use Rattle.squawk_lexer.proofs.PsqlChars.{word_tail}
use Rattle.squawk_lexer.proofs.cursor.Cursor.command_word.Goals as goal

pub range_from-requires : goal.range_from-requires
range_from-requires c =
    let e : chars c.consumed_text.result.now ≡ take (word_end c.args.self.now.text) c.args.self.now.text =
    c.consumed_text.ensures.chars ∙ rw (c.eat_while.ensures.text, c.eat_while.ensures.at, c.requires.at) refl
    in
    λ h. (word_tail c.args.self.now.text c.consumed_text.result.now c.consumed_text.utf8 c.requires.first e).1

pub returns-clause-chars : goal.returns-clause-chars
returns-clause-chars c =
    let e : chars c.consumed_text.result.now ≡ take (word_end c.args.self.now.text) c.args.self.now.text =
    c.consumed_text.ensures.chars ∙ rw (c.eat_while.ensures.text, c.eat_while.ensures.at, c.requires.at) refl
    in
    ap chars c.range_from.ensures.value
    ∙ (word_tail c.args.self.now.text c.consumed_text.result.now c.consumed_text.utf8 c.requires.first e).2
