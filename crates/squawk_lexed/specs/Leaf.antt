-- The kind of a token's leaf, and the role of the token in the division into statements.
use Rattle.std.specs.Prelude.{ℕ, true, false, List, unwrap_or}
use Rattle.squawk_kinds.specs.declared.numbers.TheConstants.Number as kind
use Rattle.squawk_kinds.specs.Role.{Role, Trivia, Semicolon, Terminator, Command, Open, Close, Other}
use Rattle.squawk_words.specs.KindOf.{keyword_of}
use Rattle.squawk_lexer.specs.declared.token.LiteralKind.{LiteralKind}
use Rattle.squawk_lexer.specs.declared.token.LiteralKind.TheVariants.{Int, Numeric, Str, NationalStr, ByteStr, BitStr, DollarQuotedString, UnicodeEscStr, EscStr}
use Rattle.squawk_lexer.specs.declared.token.TokenKind.{TokenKind}
use Rattle.squawk_lexer.specs.declared.token.TokenKind.TheVariants as token

-- the kind of an unquoted word: a keyword, or else an identifier
abbrev pub word_kind : List ℕ → ℕ
word_kind word = unwrap_or (keyword_of word) kind.IDENT

-- the leaf kind of a literal
abbrev pub literal_kind : LiteralKind → ℕ
literal_kind (Int base empty_int junk) = kind.INT_NUMBER
literal_kind (Numeric empty_exponent junk) = kind.NUMERIC_NUMBER
literal_kind (Str terminated) = kind.STRING
literal_kind (NationalStr terminated) = kind.NATIONAL_STRING
literal_kind (ByteStr terminated) = kind.BYTE_STRING
literal_kind (BitStr terminated) = kind.BIT_STRING
literal_kind (DollarQuotedString terminated) = kind.DOLLAR_QUOTED_STRING
literal_kind (UnicodeEscStr terminated) = kind.UNICODE_ESC_STRING
literal_kind (EscStr terminated) = kind.ESC_STRING

-- the leaf kind of a token of this kind with these bytes
abbrev pub leaf_kind : TokenKind → List ℕ → ℕ
leaf_kind token.Whitespace text = kind.WHITESPACE
leaf_kind token.LineComment text = kind.COMMENT
leaf_kind (token.BlockComment terminated) text = kind.COMMENT
leaf_kind token.Ident text = word_kind text
leaf_kind (token.QuotedIdent terminated uescape) text = kind.IDENT
leaf_kind (token.Literal literal) text = literal_kind literal
leaf_kind (token.PositionalParam junk) text = kind.POSITIONAL_PARAM
leaf_kind (token.PsqlCommand true) text = kind.PSQL_TERMINATOR_TEXT
leaf_kind (token.PsqlCommand false) text = kind.PSQL_COMMAND_TEXT
leaf_kind token.Unknown text = kind.ERROR
leaf_kind token.Eof text = kind.EOF
leaf_kind token.Semi text = kind.SEMICOLON
leaf_kind token.Comma text = kind.COMMA
leaf_kind token.OpenParen text = kind.L_PAREN
leaf_kind token.CloseParen text = kind.R_PAREN
leaf_kind token.OpenBracket text = kind.L_BRACK
leaf_kind token.CloseBracket text = kind.R_BRACK
leaf_kind token.OpenCurly text = kind.L_CURLY
leaf_kind token.CloseCurly text = kind.R_CURLY
leaf_kind token.At text = kind.AT
leaf_kind token.Pound text = kind.POUND
leaf_kind token.Tilde text = kind.TILDE
leaf_kind token.Question text = kind.QUESTION
leaf_kind token.Colon text = kind.COLON
leaf_kind token.Eq text = kind.EQ
leaf_kind token.Bang text = kind.BANG
leaf_kind token.Lt text = kind.L_ANGLE
leaf_kind token.Gt text = kind.R_ANGLE
leaf_kind token.And text = kind.AMP
leaf_kind token.Or text = kind.PIPE
leaf_kind token.Plus text = kind.PLUS
leaf_kind token.Minus text = kind.MINUS
leaf_kind token.Star text = kind.STAR
leaf_kind token.Slash text = kind.SLASH
leaf_kind token.Caret text = kind.CARET
leaf_kind token.Percent text = kind.PERCENT
leaf_kind token.Backtick text = kind.BACKTICK
leaf_kind token.Dot text = kind.DOT
leaf_kind token.DotDot text = kind.DOT_DOT

-- the role of a token of this kind
abbrev pub token_role : TokenKind → Role
token_role token.Whitespace = Trivia
token_role token.LineComment = Trivia
token_role (token.BlockComment terminated) = Trivia
token_role token.Semi = Semicolon
token_role (token.PsqlCommand true) = Terminator
token_role (token.PsqlCommand false) = Command
token_role token.OpenParen = Open
token_role token.CloseParen = Close
token_role _ = Other
