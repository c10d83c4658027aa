use Rattle.std.proofs.Common.{Some, chars, refl, sym, ap, ◌∙◌}
use Rattle.std.proofs.lemmas.Str.{IsUtf8-string_bytes}
use Rattle.squawk_lexer.specs.Classes.{apostrophe, quotation_mark}
use Rattle.squawk_quote.specs.ValueForms.{between_delimiters}
use Rattle.squawk_quote.specs.Values.{unescape_quotes, strip_ends}
use Rattle.squawk_quote.specs.declared.values.ValueForm.TheVariants as form
use Rattle.squawk_quote.proofs.DollarForms.{dollar_is_quoted}
use Rattle.squawk_quote.proofs.TextForms.{string_is_quoted, ident_is_quoted}
use Rattle.squawk_quote.proofs.ValueBytes.{found, spelled_once}
use Rattle.squawk_quote.proofs.values.value_of.Goals as goal

pub quoted_value-requires-clause-quoted : goal.quoted_value-requires-clause-quoted
quoted_value-requires-clause-quoted c =
    string_is_quoted c.tokens_progress.ensures.some c.tokens_progress.ensures.within
    (chars c.args.text.now) (sym c.form_of_text.ensures ∙ c.in-Some-String.is
    ∙ ap Some c.in-Some-String.field-0-is)

pub returns-in_ok-quoted_value-in-Some-String-clause-value
    : goal.returns-in_ok-quoted_value-in-Some-String-clause-value
returns-in_ok-quoted_value-in-Some-String-clause-value c =
    found form.String c.args.text.now _ (unescape_quotes apostrophe (strip_ends 1 (chars c.args.text.now)))
    (sym c.form_of_text.ensures ∙ c.in-Some-String.is
    ∙ ap Some c.in-Some-String.field-0-is) refl
    c.in_ok-quoted_value-in-Some-String.ensures

pub returns-in_ok-quoted_value-in-Some-String-clause-spelling
    : goal.returns-in_ok-quoted_value-in-Some-String-clause-spelling
returns-in_ok-quoted_value-in-Some-String-clause-spelling c =
    spelled_once c.tokens_progress.ensures.some c.tokens_progress.ensures.within c.args.text.now _
    c.utf8.text (IsUtf8-string_bytes c.in_ok-quoted_value-in-Some-String.field-0)
    (returns-in_ok-quoted_value-in-Some-String-clause-value c)

pub quoted_value-requires-in-Some-QuotedIdent-clause-quoted : goal.quoted_value-requires-in-Some-QuotedIdent-clause-quoted
quoted_value-requires-in-Some-QuotedIdent-clause-quoted c =
    ident_is_quoted c.tokens_progress.ensures.some c.tokens_progress.ensures.within
    (chars c.args.text.now) (sym c.form_of_text.ensures ∙ c.in-Some-QuotedIdent.is
    ∙ ap Some c.in-Some-QuotedIdent.field-0-is)

pub returns-in_ok-quoted_value-in-Some-QuotedIdent-clause-value
    : goal.returns-in_ok-quoted_value-in-Some-QuotedIdent-clause-value
returns-in_ok-quoted_value-in-Some-QuotedIdent-clause-value c =
    found form.QuotedIdent c.args.text.now _ (unescape_quotes quotation_mark (strip_ends 1 (chars c.args.text.now)))
    (sym c.form_of_text.ensures ∙ c.in-Some-QuotedIdent.is
    ∙ ap Some c.in-Some-QuotedIdent.field-0-is) refl
    c.in_ok-quoted_value-in-Some-QuotedIdent.ensures

pub returns-in_ok-quoted_value-in-Some-QuotedIdent-clause-spelling
    : goal.returns-in_ok-quoted_value-in-Some-QuotedIdent-clause-spelling
returns-in_ok-quoted_value-in-Some-QuotedIdent-clause-spelling c =
    spelled_once c.tokens_progress.ensures.some c.tokens_progress.ensures.within c.args.text.now _
    c.utf8.text (IsUtf8-string_bytes c.in_ok-quoted_value-in-Some-QuotedIdent.field-0)
    (returns-in_ok-quoted_value-in-Some-QuotedIdent-clause-value c)

pub dollar_value-requires : goal.dollar_value-requires
dollar_value-requires c =
    dollar_is_quoted c.tokens_progress.ensures.some c.tokens_progress.ensures.within
    (chars c.args.text.now) (sym c.form_of_text.ensures ∙ c.in-Some-Dollar.is
    ∙ ap Some c.in-Some-Dollar.field-0-is)

pub returns-in_ok-dollar_value-in-Some-Dollar-clause-value
    : goal.returns-in_ok-dollar_value-in-Some-Dollar-clause-value
returns-in_ok-dollar_value-in-Some-Dollar-clause-value c =
    found form.Dollar c.args.text.now _ (between_delimiters (chars c.args.text.now))
    (sym c.form_of_text.ensures ∙ c.in-Some-Dollar.is
    ∙ ap Some c.in-Some-Dollar.field-0-is) refl
    c.in_ok-dollar_value-in-Some-Dollar.ensures

pub returns-in_ok-dollar_value-in-Some-Dollar-clause-spelling
    : goal.returns-in_ok-dollar_value-in-Some-Dollar-clause-spelling
returns-in_ok-dollar_value-in-Some-Dollar-clause-spelling c =
    spelled_once c.tokens_progress.ensures.some c.tokens_progress.ensures.within c.args.text.now _
    c.utf8.text (IsUtf8-string_bytes c.in_ok-dollar_value-in-Some-Dollar.field-0)
    (returns-in_ok-dollar_value-in-Some-Dollar-clause-value c)
