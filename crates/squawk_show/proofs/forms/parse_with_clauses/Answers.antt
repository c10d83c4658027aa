use Rattle.std.proofs.Common.{ap, subst, ◌∙◌}
use Rattle.std.specs.Prelude.{IsUtf8}
use Rattle.squawk_clauses.specs.Laws.{clause_parse}
use Rattle.squawk_lexed.specs.LexedText.{LexedText}
use Rattle.squawk_show.proofs.ClauseLemmas.{is_clause_parse}
use Rattle.squawk_show.proofs.ParseLemmas.{if_ok}
use Rattle.squawk_show.specs.Forms.{clause_parse_under}
use Rattle.squawk_show.specs.Run.{IsParsedBy}
use Rattle.squawk_show.proofs.forms.parse_with_clauses.Goals as goal

pub returns-clause-parsed : goal.returns-clause-parsed
returns-clause-parsed c =
    let text = c.args.lexed.text in
    let reading = c.args.reading in
    let utf8 = subst IsUtf8 c.as_str-text.ensures c.as_str-text.utf8 in
    if_ok _ (IsParsedBy clause_parse_under reading text) (λ parse is.
    is_clause_parse c.parses_have_the_tokens.ensures.leaves
    c.parses_have_the_tokens.ensures.children
    c.clause_parses_are_plain.ensures.steps c.clause_parses_are_plain.ensures.children
    reading text parse (record { within = c.requires.within; valid = utf8 })
    (is ∙ ap (λ (l : LexedText). clause_parse reading.division l.tokens) c.requires.lexed))
    c.parse_clauses.result c.parse_clauses.ensures.parse.tree
