use Rattle.std.proofs.Common.{sym, ◌∙◌}
use Rattle.std.proofs.lemmas.Bool.{eqb-true}
use Rattle.std.proofs.lemmas.Str.{IsCharBoundary-start}
use Rattle.squawk_quote.proofs.FormBytes.{empty_has_no_form, several_have_no_form, one_has_its_form}
use Rattle.squawk_quote.proofs.values.form_of_text.Goals as goal

pub returns-then-is_empty : goal.returns-then-is_empty
returns-then-is_empty c =
    empty_has_no_form c.args.text.now (eqb-true _ 0 (sym c.if-is_empty.ensures))

pub cut_at-token-requires-clause-boundary : goal.cut_at-token-requires-clause-boundary
cut_at-token-requires-clause-boundary c = IsCharBoundary-start c.args.text.now c.utf8.text

pub returns-then-token-text : goal.returns-then-token-text
returns-then-token-text c =
    several_have_no_form c.args.text.now c.cut_at-token.result c.utf8.text
    c.cut_at-token.ensures.first c.cut_at-token.ensures.ends_between c.if-token-text.true

pub returns : goal.returns
returns c =
    c.value_form.ensures ∙ one_has_its_form c.args.text.now c.cut_at-token.result
    c.cut_at-token.ensures.first c.if-token-text.false
