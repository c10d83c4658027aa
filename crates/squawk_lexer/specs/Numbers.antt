-- Numeric constants (PostgreSQL manual, 4.1.2.6) and positional parameters. The ends here
-- are indexes in characters; the offsets in kinds are in bytes.
use Rattle.std.specs.Prelude.{ℕ, ◌+◌, Bool, false, not, ◌&&◌, ◌==◌, List, take, slice_index, Option, Some, None, if◌then◌else◌}
use Rattle.squawk_lexer.specs.declared.token.Base.{Base}
use Rattle.squawk_lexer.specs.declared.token.Base.TheVariants.{Binary, Octal, Decimal, Hexadecimal}
use Rattle.squawk_lexer.specs.declared.token.LiteralKind.TheVariants.{Int, Numeric}
use Rattle.squawk_lexer.specs.declared.token.TokenKind.TheVariants.{PositionalParam}
use Rattle.squawk_lexer.specs.Kind.{Lexeme, lexeme_until, literal_until}
use Rattle.squawk_lexer.specs.Classes.{is_digit, is_letter, dot, digit_0, letter_b, letter_o, letter_x}
use Rattle.squawk_lexer.specs.Text.{utf8_len}
use Rattle.squawk_lexer.specs.Runs.{run_end, digits_end, hex_digits_end, junk_end, exponent_end, is_exponent_letter, fraction_end}

-- An integer whose digits end at index n, with the junk after them.
abbrev pub int : Base → Bool → List ℕ → ℕ → Lexeme
int base empty u n = literal_until (Int base empty (utf8_len (take n u))) (junk_end u n)

-- An integer with a base prefix, whose digits begin at index 2 and end at n, with the junk after
-- them. It is empty where it has neither digits nor junk.
abbrev pub based_int : Base → List ℕ → ℕ → Lexeme
based_int base u n = int base (n == 2 && junk_end u n == n) u n

-- A number with a decimal point or an exponent, which ends at index n, with the junk after it.
-- `empty_exponent` is the offset of an exponent without digits.
abbrev pub numeric : Option ℕ → List ℕ → ℕ → Lexeme
numeric empty_exponent u n =
    literal_until (Numeric empty_exponent (utf8_len (take n u))) (junk_end u n)

-- A number with an exponent, whose letter is at index i. The exponent is empty where it ends after
-- its letter.
abbrev pub with_exponent : List ℕ → ℕ → Lexeme
with_exponent u i = numeric (if exponent_end u i == i + 1 then Some (utf8_len (take i u))
    else None) u (exponent_end u i)

-- A number whose decimal point is before index i: the digits after the point, and an exponent if
-- there is one.
abbrev pub fractional : List ℕ → ℕ → Lexeme
fractional u i =
    if is_exponent_letter (slice_index u (fraction_end u i)) then with_exponent u (fraction_end u i)
    else numeric None u (fraction_end u i)

-- A number without a base prefix, whose first digits end at index a. A `.` there is its decimal
-- point, unless a second one follows: `1..10` is a range.
abbrev pub decimal_from : List ℕ → ℕ → Lexeme
decimal_from u a =
    if slice_index u a == dot && not (slice_index u (a + 1) == dot) then fractional u (a + 1)
    else if is_exponent_letter (slice_index u a) then with_exponent u a
    else int Decimal false u a

-- The lexeme at the start of a text that begins with a digit. The prefixes `0b`, `0o` and `0x`,
-- with the letter in either case, set the base.
abbrev pub number : List ℕ → Lexeme
number u =
    if slice_index u 0 == digit_0 && is_letter letter_b (slice_index u 1)
    then based_int Binary u (digits_end u 2)
    else if slice_index u 0 == digit_0 && is_letter letter_o (slice_index u 1)
    then based_int Octal u (digits_end u 2)
    else if slice_index u 0 == digit_0 && is_letter letter_x (slice_index u 1)
    then based_int Hexadecimal u (hex_digits_end u 2)
    else decimal_from u (digits_end u 1)

-- A positional parameter: `$`, digits without `_`, and junk. It may have no digits.
abbrev pub parameter : List ℕ → Lexeme
parameter u =
    lexeme_until (PositionalParam (utf8_len (take (run_end is_digit u 1) u)))
    (junk_end u (run_end is_digit u 1))
