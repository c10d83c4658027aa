-- The first token of a text that is not empty (PostgreSQL manual, 4.1, and
-- `docs/GRAMMAR.md`).
use Rattle.std.specs.Prelude.{ℕ, Bool, true, false, ◌&&◌, ◌==◌, List, take, slice_index, if◌then◌else◌}
use Rattle.squawk_lexer.specs.declared.token.Token.{Token}
use Rattle.squawk_lexer.specs.declared.token.TokenKind.TheVariants as kinds
use Rattle.squawk_lexer.specs.declared.token.LiteralKind.{LiteralKind}
use Rattle.squawk_lexer.specs.declared.token.LiteralKind.TheVariants.{Str, NationalStr, BitStr, ByteStr, UnicodeEscStr, EscStr}
use Rattle.squawk_lexer.specs.declared.token.Strings.{Strings}
use Rattle.squawk_lexer.specs.declared.token.Strings.TheVariants.{Standard, Backslash}
use Rattle.squawk_lexer.specs.declared.forms.TokenForm.{TokenForm}
use Rattle.squawk_lexer.specs.declared.forms.TokenForm.TheVariants.{Whitespace, LineComment, BlockComment, String, QuotedIdent, Word, Dollar, Number, DotDot, Fraction, Psql, Symbol}
use Rattle.squawk_lexer.specs.declared.forms.StringPrefix.{StringPrefix}
use Rattle.squawk_lexer.specs.declared.forms.StringPrefix.TheVariants.{National, Bit, Byte, Escape, UnicodeString, UnicodeIdent, NoPrefix}
use Rattle.squawk_lexer.specs.Kind.{Lexeme, lexeme_until, literal_until}
use Rattle.squawk_lexer.specs.Text.{utf8_len}
use Rattle.squawk_lexer.specs.Classes.{is_whitespace, is_ident_start, is_ident_cont, is_digit, is_letter, apostrophe, quotation_mark, backslash, dollar_sign, ampersand, minus, slash, asterisk, dot, letter_n, letter_b, letter_x, letter_e, letter_u, byte_order_mark}
use Rattle.squawk_lexer.specs.Runs.{run_end, line_end}
use Rattle.squawk_lexer.specs.Quoted.{quoted_end, is_terminated}
use Rattle.squawk_lexer.specs.Comment.{comment_end, is_comment_closed}
use Rattle.squawk_lexer.specs.Numbers.{number, fractional}
use Rattle.squawk_lexer.specs.Dollar.{dollar}
use Rattle.squawk_lexer.specs.Psql.{psql}
use Rattle.squawk_lexer.specs.Symbols.{symbol}

-- Whether a backslash in a string without a prefix begins an escape:
-- `standard_conforming_strings = off` (4.1.2.1).
abbrev pub has_escapes : Strings → Bool
has_escapes Standard = false
has_escapes Backslash = true

-- A string in `'` whose inside begins at index i.
abbrev pub string : (Bool → LiteralKind) → Bool → List ℕ → ℕ → Lexeme
string kind escapes u i =
    literal_until (kind (is_terminated escapes apostrophe u i)) (quoted_end escapes apostrophe u i)

-- A quoted identifier (4.1.1) whose inside begins at index i. `uescape` says that it has the prefix
-- `U&`.
abbrev pub quoted_ident : Bool → List ℕ → ℕ → Lexeme
quoted_ident uescape u i =
    lexeme_until (kinds.QuotedIdent (is_terminated false quotation_mark u i) uescape)
    (quoted_end false quotation_mark u i)

-- The prefix of a string or quoted identifier that the first three characters are, where the first
-- may begin an identifier: `n'`, `b'`, `x'`, `e'`, `u&'` or `u&"`, with the letter in either case.
-- `NoPrefix` where they are none.
unfoldable pub prefix_of : ℕ → ℕ → ℕ → StringPrefix
prefix_of c d e =
    if is_letter letter_n c && d == apostrophe then National
    else if is_letter letter_b c && d == apostrophe then Bit
    else if is_letter letter_x c && d == apostrophe then Byte
    else if is_letter letter_e c && d == apostrophe then Escape
    else if (is_letter letter_u c && d == ampersand) && e == apostrophe then UnicodeString
    else if (is_letter letter_u c && d == ampersand) && e == quotation_mark then UnicodeIdent
    else NoPrefix

-- The lexeme that a prefix begins: `N'..'`, `B'..'`, `X'..'`, `E'..'`, `U&'..'`, `U&".."` (4.1.2.1
-- to 4.1.2.3, 4.1.2.5), or an identifier or keyword without quotes (4.1.1). Only `E'..'` has
-- escapes.
abbrev pub lexeme_of_prefix : StringPrefix → List ℕ → Lexeme
lexeme_of_prefix National u = string NationalStr false u 2
lexeme_of_prefix Bit u = string BitStr false u 2
lexeme_of_prefix Byte u = string ByteStr false u 2
lexeme_of_prefix Escape u = string EscStr true u 2
lexeme_of_prefix UnicodeString u = string UnicodeEscStr false u 3
lexeme_of_prefix UnicodeIdent u = quoted_ident true u 3
lexeme_of_prefix NoPrefix u = lexeme_until kinds.Ident (run_end is_ident_cont u 1)

-- The lexeme at the start of a text that begins as an identifier does.
abbrev pub ident_or_string : List ℕ → Lexeme
ident_or_string u =
    lexeme_of_prefix (prefix_of (slice_index u 0) (slice_index u 1) (slice_index u 2)) u

-- The form of the token that begins with c and then d: the first test that passes decides. Where
-- the text ends after c, d is 0, which passes no test.
unfoldable pub token_form : ℕ → ℕ → TokenForm
token_form c d =
    if is_whitespace c then Whitespace
    else if c == minus && d == minus then LineComment
    else if c == slash && d == asterisk then BlockComment
    else if c == apostrophe then String
    else if c == quotation_mark then QuotedIdent
    else if is_ident_start c then Word
    else if c == dollar_sign then Dollar
    else if is_digit c then Number
    else if c == dot && d == dot then DotDot
    else if c == dot && is_digit d then Fraction
    else if c == backslash then Psql
    else Symbol

-- The lexeme of each form at the start of a text.
abbrev pub lexeme_of_form : Strings → TokenForm → List ℕ → Lexeme
lexeme_of_form strings Whitespace u = lexeme_until kinds.Whitespace (run_end is_whitespace u 0)
lexeme_of_form strings LineComment u = lexeme_until kinds.LineComment (line_end u 2)
lexeme_of_form strings BlockComment u =
    lexeme_until (kinds.BlockComment (is_comment_closed 0 u 2)) (comment_end 0 u 2)
lexeme_of_form strings String u = string Str (has_escapes strings) u 1
lexeme_of_form strings QuotedIdent u = quoted_ident false u 1
lexeme_of_form strings Word u = ident_or_string u
lexeme_of_form strings Dollar u = dollar u
lexeme_of_form strings Number u = number u
lexeme_of_form strings DotDot u = lexeme_until kinds.DotDot 2
lexeme_of_form strings Fraction u = fractional u 1
lexeme_of_form strings Psql u = psql u
lexeme_of_form strings Symbol u = lexeme_until (symbol (slice_index u 0)) 1

-- The lexeme at the start of a text.
abbrev pub lexeme_of : Strings → List ℕ → Lexeme
lexeme_of strings u = lexeme_of_form strings (token_form (slice_index u 0) (slice_index u 1)) u

-- The same, where `at_start` says that the whole text begins here: a byte order mark is then white
-- space by itself. Anywhere else it is a character that begins an identifier.
abbrev pub lexeme_at : Strings → Bool → List ℕ → Lexeme
lexeme_at strings at_start u =
    if at_start && slice_index u 0 == byte_order_mark then lexeme_until kinds.Whitespace 1
    else lexeme_of strings u

-- The first token of a text: its kind, and its length in bytes.
abbrev pub token_at : Strings → Bool → List ℕ → Token
token_at strings at_start u = record {
  kind = (lexeme_at strings at_start u).kind;
  len = utf8_len (take (lexeme_at strings at_start u).end u);
}
