-- The tokens of a text, cut one after another from its start.
use Rattle.std.specs.Prelude.{◌≡◌, ◌≢◌, ℕ, zero, suc, ◌+◌, ◌-◌, ◌<◌, Bool, true, false, List, [], ◌∷◌, length}
use Rattle.std.specs.Str.{IsCharBoundary}
use Rattle.squawk_lexer.specs.declared.token.Token.{Token}
use Rattle.squawk_lexer.specs.declared.token.TokenKind.{TokenKind}
use Rattle.squawk_lexer.specs.declared.token.TokenKind.TheVariants as kinds
use Rattle.squawk_lexer.specs.declared.token.Strings.{Strings}
use Rattle.squawk_lexer.specs.Token.{lexeme_at, token_at}

-- The tokens that begin in a text. Its first `inside` characters belong to a token that began
-- before; the next token begins after them. `at_start` says that the text begins with these
-- characters, so that a byte order mark is white space.
abbrev pub tokens_from : Strings → ℕ → Bool → List ℕ → List Token
tokens_from strings inside at_start [] = []
tokens_from strings zero at_start (c ∷ cs) =
    token_at strings at_start (c ∷ cs)
    ∷ tokens_from strings ((lexeme_at strings at_start (c ∷ cs)).end - 1) false cs
tokens_from strings (suc inside) at_start (c ∷ cs) = tokens_from strings inside at_start cs

-- The tokens of a text: each begins where the last one ended.
abbrev pub tokens : Strings → List ℕ → List Token
tokens strings text = tokens_from strings 0 true text

-- The offset in bytes at which each token ends, where the first one begins at offset `at`.
abbrev pub token_ends : ℕ → List Token → List ℕ
token_ends at [] = []
token_ends at (t ∷ ts) = (at + t.len) ∷ token_ends (at + t.len) ts

-- The tokens cover `text`, a list of bytes, from offset `at` to its end without a gap: each has at
-- least one byte, is not `Eof`, and ends on a character boundary.
abbrev pub Tiles : List ℕ → ℕ → List Token → Type 0
Tiles text at [] = at ≡ length text
Tiles text at (t ∷ ts) = (0 < t.len) × (t.kind ≢ kinds.Eof) × IsCharBoundary text (at + t.len)
    × Tiles text (at + t.len) ts

-- Whether a token is trivia: white space, which includes a leading byte order mark, or a comment.
abbrev pub is_trivia : TokenKind → Bool
is_trivia kinds.Whitespace = true
is_trivia kinds.LineComment = true
is_trivia (kinds.BlockComment terminated) = true
is_trivia _ = false
