-- The tokens of a text as C sees them.
use Rattle.std.specs.Prelude.{◌≡◌, ℕ, ◌+◌, ◌*◌, ◌≤◌, ◌==◌, Bool, true, false, Option, Some, None, List, [], ◌∷◌, ◌++◌, length, take, drop}
use Rattle.std.specs.Str.{chars, IsCharBoundary}
use Rattle.squawk_c.specs.declared.token.KindCode.{KindCode}
use Rattle.squawk_c.specs.declared.token.SquawkToken.{SquawkToken}
use Rattle.squawk_lexer.specs.Cut.{tokens_from}
use Rattle.squawk_lexer.specs.Order.{base_value}
use Rattle.squawk_lexer.specs.declared.token.LiteralKind.{LiteralKind}
use Rattle.squawk_lexer.specs.declared.token.LiteralKind.TheVariants.{Int, Numeric, Str, NationalStr, ByteStr, BitStr, DollarQuotedString, UnicodeEscStr, EscStr}
use Rattle.squawk_lexer.specs.declared.token.Strings.{Strings}
use Rattle.squawk_lexer.specs.declared.token.Token.{Token}
use Rattle.squawk_lexer.specs.declared.token.TokenKind.{TokenKind}
use Rattle.squawk_lexer.specs.declared.token.TokenKind.TheVariants as token

-- a flag, if it is set
abbrev pub flag : Bool → ℕ → ℕ
flag true bit = bit
flag false bit = 0

-- the code of these numbers
abbrev pub kind_code : (kind flags junk : ℕ) → KindCode
kind_code kind flags junk = record { kind = kind; flags = flags; junk = junk }

-- the flag of a number with an exponent without digits
abbrev pub exponent_flag : Option ℕ → ℕ
exponent_flag None = 0
exponent_flag (Some offset) = 16

-- the code of a literal
abbrev pub literal_code : LiteralKind → KindCode
literal_code (Int base empty_int junk) =
    kind_code 1 (base_value base * 256 + flag empty_int 8) junk
literal_code (Numeric empty_exponent junk) = kind_code 2 (exponent_flag empty_exponent) junk
literal_code (Str terminated) = kind_code 3 (flag terminated 1) 0
literal_code (NationalStr terminated) = kind_code 4 (flag terminated 1) 0
literal_code (ByteStr terminated) = kind_code 5 (flag terminated 1) 0
literal_code (BitStr terminated) = kind_code 6 (flag terminated 1) 0
literal_code (DollarQuotedString terminated) = kind_code 7 (flag terminated 1) 0
literal_code (UnicodeEscStr terminated) = kind_code 8 (flag terminated 1) 0
literal_code (EscStr terminated) = kind_code 9 (flag terminated 1) 0

-- the code of a kind of token
abbrev pub code_of : TokenKind → KindCode
code_of token.Unknown = kind_code 0 0 0
code_of (token.Literal literal) = literal_code literal
code_of token.Whitespace = kind_code 10 0 0
code_of token.Ident = kind_code 11 0 0
code_of (token.PsqlCommand ends_query) = kind_code 12 (flag ends_query 4) 0
code_of token.Semi = kind_code 13 0 0
code_of token.Eof = kind_code 14 0 0
code_of token.Slash = kind_code 15 0 0
code_of token.LineComment = kind_code 16 0 0
code_of (token.BlockComment terminated) = kind_code 17 (flag terminated 1) 0
code_of token.Minus = kind_code 18 0 0
code_of token.Colon = kind_code 19 0 0
code_of token.Dot = kind_code 20 0 0
code_of token.DotDot = kind_code 21 0 0
code_of token.Eq = kind_code 22 0 0
code_of token.Gt = kind_code 23 0 0
code_of token.And = kind_code 24 0 0
code_of token.Lt = kind_code 25 0 0
code_of token.Bang = kind_code 26 0 0
code_of token.Plus = kind_code 27 0 0
code_of token.Tilde = kind_code 28 0 0
code_of token.Pound = kind_code 29 0 0
code_of token.Question = kind_code 30 0 0
code_of token.Or = kind_code 31 0 0
code_of token.Percent = kind_code 32 0 0
code_of token.Caret = kind_code 33 0 0
code_of token.Star = kind_code 34 0 0
code_of token.Backtick = kind_code 35 0 0
code_of token.At = kind_code 36 0 0
code_of token.CloseBracket = kind_code 37 0 0
code_of token.OpenBracket = kind_code 38 0 0
code_of token.CloseCurly = kind_code 39 0 0
code_of token.OpenCurly = kind_code 40 0 0
code_of token.CloseParen = kind_code 41 0 0
code_of token.OpenParen = kind_code 42 0 0
code_of token.Comma = kind_code 43 0 0
code_of (token.PositionalParam junk) = kind_code 44 0 junk
code_of (token.QuotedIdent terminated uescape) = kind_code 45 (flag terminated 1 + flag uescape 2) 0

-- the record of a token that begins at an offset
unfoldable pub token_record : ℕ → Token → SquawkToken
token_record start t = record {
  kind = (code_of t.kind).kind;
  flags = (code_of t.kind).flags;
  start = start;
  len = t.len;
  junk = (code_of t.kind).junk;
}

-- the records of tokens, the first of which begins at an offset
abbrev pub token_records : ℕ → List Token → List SquawkToken
token_records at [] = []
token_records at (t ∷ ts) = token_record at t ∷ token_records (at + t.len) ts

-- the records of the tokens of a text from an offset on
unfoldable pub records_from : Strings → List ℕ → ℕ → List SquawkToken
records_from strings text at =
    token_records at (tokens_from strings 0 (at == 0) (chars (drop at text)))

-- The first `count` elements of an array that was `before` are the records of the tokens of a text
-- from the offset `at` up to the offset `end`.
pub record IsCut (strings : Strings) (text : List ℕ) (at end : ℕ) (before after : List SquawkToken)
    (count : ℕ) : Type 0 where
  -- the records, and those of the tokens from `end` on, are those of the tokens from `at` on
  pub cut : take count after ++ records_from strings text end ≡ records_from strings text at
  -- what comes after the records is as it was
  pub rest : drop count after ≡ drop count before
  pub same_length : length after ≡ length before
  pub within : count ≤ length before
  pub boundary : IsCharBoundary text end
