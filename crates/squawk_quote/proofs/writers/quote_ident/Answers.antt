use Rattle.std.proofs.Common.{true, false}
use Rattle.squawk_lexer.specs.declared.token.TokenKind.TheVariants as kinds
use Rattle.std.specs.Str.{chars}
use Rattle.squawk_quote.specs.Values.{quoted_identifier}
use Rattle.squawk_quote.proofs.QuotedLaws.{ident_value, ident_token}
use Rattle.squawk_quote.proofs.QuoteBytes.{on_value, on_token}
use Rattle.squawk_quote.proofs.writers.quote_ident.Goals as goal

pub returns-clause-value : goal.returns-clause-value
returns-clause-value c =
    on_value (quoted_identifier (chars c.args.value.now)) (chars c.args.value.now)
    c.quote_with.result
    (ident_value (chars c.args.value.now)) c.quote_with.ensures.text

pub returns-clause-token : goal.returns-clause-token
returns-clause-token c =
    on_token (kinds.QuotedIdent true false) (quoted_identifier (chars c.args.value.now))
    c.quote_with.result
    (ident_token (chars c.args.value.now)) c.quote_with.ensures.text
