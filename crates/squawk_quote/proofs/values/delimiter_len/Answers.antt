use Rattle.std.proofs.Common.{◌+◌, Some, None, length, ap, ◌∙◌, arith}
use Rattle.std.proofs.lemmas.Str.Pattern.{split_after}
use Rattle.squawk_lexer.specs.Classes.{dollar_sign}
use Rattle.squawk_quote.proofs.ValueBytes.{delimiter_split}
use Rattle.squawk_quote.proofs.values.delimiter_len.Goals as goal

pub range_from-requires : goal.range_from-requires
range_from-requires c = λ h. (delimiter_split c.args.text.now c.utf8.text c.requires).start

pub returns-in-Some : goal.returns-in-Some
returns-in-Some c =
    let s = delimiter_split c.args.text.now c.utf8.text c.requires in
    let parts = split_after dollar_sign c.range_from.result.now s.tag s.rest
    (Some (c.in-Some.tag, c.in-Some.field-0-1)) c.in-Some.ensures.cases (omega arith)
    (c.range_from.ensures.value ∙ s.is) s.without_dollar in
    ap (λ w. length w + 2) parts.0 ∙ s.len_is

pub returns-in-None : goal.returns-in-None
returns-in-None c =
    let s = delimiter_split c.args.text.now c.utf8.text c.requires in
    absurd (split_after dollar_sign c.range_from.result.now s.tag s.rest None
    c.in-None.ensures.cases (omega arith) (c.range_from.ensures.value ∙ s.is) s.without_dollar)
