use Rattle.std.proofs.Common.{ap, subst, ◌∙◌}
use Rattle.std.specs.Prelude.{IsUtf8}
use Rattle.squawk_cut.specs.Children.{children_of}
use Rattle.squawk_cut.specs.Join.{join_of}
use Rattle.squawk_show.proofs.ParseLemmas.{if_ok, is_parse}
use Rattle.squawk_show.specs.Run.{IsParsed}
use Rattle.squawk_show.proofs.replay.parse_document.Goals as goal

pub returns-clause-parsed : goal.returns-clause-parsed
returns-clause-parsed c =
    let text = c.args.document.now.text in
    let reading = c.args.reading in
    let utf8 = subst IsUtf8 c.text-text.ensures.text c.text-text.utf8 in
    if_ok _ (IsParsed reading text) (λ parse is.
    is_parse c.parses_have_the_tokens.ensures.leaves c.parses_have_the_tokens.ensures.children
    reading text parse (record { within = c.requires.short; valid = utf8 })
    (is ∙ ap (λ tells. join_of (children_of tells text)) c.requires.plain
    ∙ c.plain_fronts_parse.ensures.children reading.strings reading.division text utf8))
    c.parse.result c.parse.ensures.text
