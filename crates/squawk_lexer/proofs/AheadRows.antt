-- Worked examples of look-ahead: tokens that one character after them does not decide, and texts
-- that end with a semicolon.
use Rattle.std.proofs.Common.{◌≡◌, true, false, [], ◌∷◌, ◌++◌, length, refl, codes}
use Rattle.squawk_lexer.specs.declared.token.LiteralKind.TheVariants.{UnicodeEscStr, Int, Numeric}
use Rattle.squawk_lexer.specs.declared.token.Base.TheVariants.{Decimal}
use Rattle.squawk_lexer.specs.declared.token.Strings.TheVariants.{Standard}
use Rattle.squawk_lexer.specs.declared.token.TokenKind.TheVariants.{Ident, PsqlCommand}
use Rattle.std.specs.Prelude.{None, Some}
use Rattle.squawk_lexer.specs.Kind.{lexeme_until, literal_until}
use Rattle.squawk_lexer.specs.Classes.{byte_order_mark}
use Rattle.squawk_lexer.specs.Symbols.{symbol}
use Rattle.squawk_lexer.specs.Token.{token_form, prefix_of, lexeme_at}
use Rattle.squawk_lexer.specs.Cut.{tokens}
use Rattle.squawk_lexer.specs.LookAhead.{EndsWithSemi}

-- `1` before `..`, and before `.5`.
before_range : lexeme_at Standard true (codes "1..") ≡ literal_until (Int Decimal false 1) 1
unfolding token_form prefix_of symbol
before_range = refl

with_fraction : lexeme_at Standard true (codes "1.5") ≡ literal_until (Numeric None 3) 3
unfolding token_form prefix_of symbol
with_fraction = refl

-- `u` before `&` without a quote, and with one.
before_and : lexeme_at Standard true (codes "u&a") ≡ lexeme_until Ident 1
unfolding token_form prefix_of symbol
before_and = refl

with_quote : lexeme_at Standard true (codes "u&'") ≡ literal_until (UnicodeEscStr false) 3
unfolding token_form prefix_of symbol
with_quote = refl

-- `1e` before a sign without a digit, and with one.
before_sign : lexeme_at Standard true (codes "1e+a") ≡ literal_until (Numeric (Some 1) 2) 2
unfolding token_form prefix_of symbol
before_sign = refl

with_exponent : lexeme_at Standard true (codes "1e+5") ≡ literal_until (Numeric None 4) 4
unfolding token_form prefix_of symbol
with_exponent = refl

-- A statement, `\;` of psql, and a command with `;` among its arguments.
statement : EndsWithSemi (tokens Standard (codes "a;"))
unfolding token_form prefix_of symbol
statement = refl

pair : EndsWithSemi (tokens Standard (codes "\\g x\\;"))
unfolding token_form prefix_of symbol
pair = refl

command : tokens Standard (codes "\\echo x;") ≡ record { kind = PsqlCommand false; len = 8 } ∷ []
unfolding token_form prefix_of symbol
command = refl

-- After a `;`, U+FEFF begins an identifier.
mark_after_semicolon : length (tokens Standard (codes ";" ++ byte_order_mark ∷ codes "x")) ≡ 2
unfolding token_form prefix_of symbol
mark_after_semicolon = refl
