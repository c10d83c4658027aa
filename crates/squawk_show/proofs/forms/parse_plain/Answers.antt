use Rattle.std.proofs.Common.{ap, subst, ◌∙◌}
use Rattle.std.specs.Prelude.{IsUtf8}
use Rattle.squawk_lexed.specs.LexedText.{LexedText}
use Rattle.squawk_show.proofs.ParseLemmas.{if_ok, is_parse}
use Rattle.squawk_show.specs.Run.{IsParsed}
use Rattle.squawk_tree.specs.ParseOf.{parse_of_tokens}
use Rattle.squawk_show.proofs.forms.parse_plain.Goals as goal

pub returns-clause-parsed : goal.returns-clause-parsed
returns-clause-parsed c =
    let text = c.args.lexed.text in
    let reading = c.args.reading in
    let utf8 = subst IsUtf8 c.as_str-text.ensures c.as_str-text.utf8 in
    if_ok _ (IsParsed reading text) (λ parse is.
    is_parse c.parses_have_the_tokens.ensures.leaves c.parses_have_the_tokens.ensures.children
    reading text parse (record { within = c.requires.within; valid = utf8 })
    (is ∙ ap (λ (l : LexedText). parse_of_tokens reading.division l.tokens) c.requires.lexed))
    c.parse_statements.result c.parse_statements.ensures.parse.tree
