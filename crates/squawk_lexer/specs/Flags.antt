-- Bounds of the offsets in a token's kind, `trailing_junk_start` and `empty_exponent_start`. They
-- count bytes from the start of the token.
use Rattle.std.specs.Prelude.{◌≡◌, ⊤, ℕ, ◌<◌, ◌≤◌, Bool, List, [], ◌∷◌, length, Option, Some, None}
use Rattle.squawk_lexer.specs.declared.token.Token.{Token}
use Rattle.squawk_lexer.specs.declared.token.TokenKind.{TokenKind}
use Rattle.squawk_lexer.specs.declared.token.TokenKind.TheVariants.{Literal, PositionalParam}
use Rattle.squawk_lexer.specs.declared.token.LiteralKind.{LiteralKind}
use Rattle.squawk_lexer.specs.declared.token.LiteralKind.TheVariants.{Int, Numeric}
use Rattle.squawk_lexer.specs.declared.token.Strings.{Strings}
use Rattle.squawk_lexer.specs.Token.{token_at}
use Rattle.squawk_lexer.specs.Cut.{tokens}

-- The junk begins after the first byte, and at the end of the token at the latest.
abbrev pub JunkWithin : ℕ → ℕ → Type 0
JunkWithin junk len = (1 ≤ junk) × (junk ≤ len)

-- An exponent without digits begins before the junk.
abbrev pub ExponentBefore : Option ℕ → ℕ → Type 0
ExponentBefore None junk = ⊤
ExponentBefore (Some exponent) junk = exponent < junk

-- The offsets in a literal's kind lie in its `len` bytes, in this order.
abbrev pub LiteralFlagsWithin : LiteralKind → ℕ → Type 0
LiteralFlagsWithin (Int base empty junk) len = JunkWithin junk len
LiteralFlagsWithin (Numeric empty_exponent junk) len = ExponentBefore empty_exponent junk
    × JunkWithin junk len
LiteralFlagsWithin _ len = ⊤

-- The offsets in a token's kind lie in its `len` bytes, in this order.
abbrev pub FlagsWithin : TokenKind → ℕ → Type 0
FlagsWithin (Literal kind) len = LiteralFlagsWithin kind len
FlagsWithin (PositionalParam junk) len = JunkWithin junk len
FlagsWithin _ len = ⊤

-- They do in the first token of every text that is not empty, and that token has at least one byte.
abbrev pub FlagsLieWithin : Type 0
FlagsLieWithin =
    (strings : Strings) (at_start : Bool) (u : List ℕ) → 1 ≤ length u
    → (1 ≤ (token_at strings at_start u).len)
    × FlagsWithin (token_at strings at_start u).kind (token_at strings at_start u).len

-- The token is the first one of some text, under one of the two settings of strings.
pub record IsCut (t : Token) : Type 0 where
  pub strings : Strings
  pub at_start : Bool
  pub text : List ℕ
  pub some : 1 ≤ length text
  pub same : t ≡ token_at strings at_start text

-- Each of the tokens is the first one of some text.
abbrev pub AreCut : List Token → Type 0
AreCut [] = ⊤
AreCut (t ∷ ts) = IsCut t × AreCut ts

-- Each token of every text is the first one of some text.
abbrev pub TokensAreCut : Type 0
TokensAreCut = (strings : Strings) (u : List ℕ) → AreCut (tokens strings u)
