use Rattle.std.proofs.Common.{true}
use Rattle.squawk_lexer.specs.declared.token.TokenKind.TheVariants as kinds
use Rattle.squawk_lexer.specs.declared.token.LiteralKind.TheVariants.{Str}
use Rattle.std.specs.Str.{chars}
use Rattle.squawk_quote.specs.Values.{string_constant}
use Rattle.squawk_quote.proofs.QuotedLaws.{string_value, string_token}
use Rattle.squawk_quote.proofs.QuoteBytes.{on_value, on_token}
use Rattle.squawk_quote.proofs.writers.quote_string.Goals as goal

pub returns-clause-value : goal.returns-clause-value
returns-clause-value c =
    on_value (string_constant (chars c.args.value.now)) (chars c.args.value.now) c.quote_with.result
    (string_value (chars c.args.value.now)) c.quote_with.ensures.text

pub returns-clause-token : goal.returns-clause-token
returns-clause-token c =
    on_token (kinds.Literal (Str true)) (string_constant (chars c.args.value.now))
    c.quote_with.result
    (string_token (chars c.args.value.now)) c.quote_with.ensures.text
