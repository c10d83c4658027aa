-- The first token of a text as the grammar determines it: its kind with all fields, and its length
-- in characters.
use Rattle.std.specs.Prelude.{ℕ}
use Rattle.squawk_lexer.specs.declared.token.TokenKind.{TokenKind}
use Rattle.squawk_lexer.specs.declared.token.TokenKind.TheVariants.{Literal}
use Rattle.squawk_lexer.specs.declared.token.LiteralKind.{LiteralKind}

-- The kind of a token, and the index in the text at which it ends. The token begins at index 0.
pub record Lexeme : Type 0 where
  pub kind : TokenKind
  pub end : ℕ

-- The lexeme of a kind that ends at an index.
abbrev pub lexeme_until : TokenKind → ℕ → Lexeme
lexeme_until kind end = record { kind = kind; end = end }

-- The lexeme of a literal that ends at an index.
abbrev pub literal_until : LiteralKind → ℕ → Lexeme
literal_until kind end = lexeme_until (Literal kind) end
