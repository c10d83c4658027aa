use Rattle.std.proofs.Common.{◌≡◌, IfOk, subst, true}
use Rattle.std.specs.Prelude.{IfErr}
use Rattle.std.specs.Str.{chars}
use Rattle.std.specs.String.{string_bytes}
use Rattle.squawk_events.specs.Refusals.{MayRefuse}
use Rattle.squawk_lexer.specs.declared.token.LiteralKind.TheVariants.{DollarQuotedString}
use Rattle.squawk_lexer.specs.declared.token.TokenKind.TheVariants as kinds
use Rattle.squawk_quote.specs.Values.{dollar_constant}
use Rattle.squawk_quote.proofs.DollarLaws.{dollar_is_token, dollar_value}
use Rattle.squawk_quote.proofs.QuoteBytes.{put_dollar, on_value, on_token}
use Rattle.squawk_quote.proofs.writers.quote_dollar.Goals as goal

pub returns-clause-text : goal.returns-clause-text
returns-clause-text c =
    subst (λ w. IfOk c.check_len.result (λ out. string_bytes out ≡ w))
    (put_dollar c.args.value.now _ _ _ _ c.in_ok-tag.tag c.utf8.value c.in_ok-tag.ensures
    c.new-out.ensures.bytes c.in_ok-push_delimiter.ensures c.in_ok-push_str.ensures.bytes
    c.in_ok-push_delimiter-2.ensures) c.check_len.ensures.same

pub returns-clause-token : goal.returns-clause-token
returns-clause-token c =
    on_token (kinds.Literal (DollarQuotedString true)) (dollar_constant (chars c.args.value.now))
    c.check_len.result (dollar_is_token (chars c.args.value.now)) (returns-clause-text c)

pub returns-clause-value : goal.returns-clause-value
returns-clause-value c =
    on_value (dollar_constant (chars c.args.value.now)) (chars c.args.value.now) c.check_len.result
    (dollar_value (chars c.args.value.now)) (returns-clause-text c)

pub returns-clause-refusals : goal.returns-clause-refusals
returns-clause-refusals c =
    subst (λ w. IfErr c.check_len.result (MayRefuse w))
    (put_dollar c.args.value.now _ _ _ _ c.in_ok-tag.tag c.utf8.value c.in_ok-tag.ensures
    c.new-out.ensures.bytes c.in_ok-push_delimiter.ensures c.in_ok-push_str.ensures.bytes
    c.in_ok-push_delimiter-2.ensures) c.check_len.ensures.refusals
