-- The leaf of a token has the token's role.
use Rattle.std.proofs.Common.{◌≡◌, ℕ, List, true, false, refl}
use Rattle.std.specs.Prelude.{Option, Some, None, IfSome, unwrap_or}
use Rattle.squawk_kinds.specs.Role.{role, Other}
use Rattle.squawk_kinds.specs.declared.numbers.TheConstants.Number.{IDENT}
use Rattle.squawk_words.specs.KindOf.{keyword_of}
use Rattle.squawk_lexer.specs.declared.token.LiteralKind.{LiteralKind}
use Rattle.squawk_lexer.specs.declared.token.LiteralKind.TheVariants.{Int, Numeric, Str, NationalStr, ByteStr, BitStr, DollarQuotedString, UnicodeEscStr, EscStr}
use Rattle.squawk_lexer.specs.declared.token.TokenKind.{TokenKind}
use Rattle.squawk_lexer.specs.declared.token.TokenKind.TheVariants as token
use Rattle.squawk_lexed.specs.Leaf.{leaf_kind, literal_kind, token_role}

literal_role : (literal : LiteralKind) → role (literal_kind literal) ≡ Other
unfolding role
literal_role (Int base empty_int junk) = refl
literal_role (Numeric empty_exponent junk) = refl
literal_role (Str terminated) = refl
literal_role (NationalStr terminated) = refl
literal_role (ByteStr terminated) = refl
literal_role (BitStr terminated) = refl
literal_role (DollarQuotedString terminated) = refl
literal_role (UnicodeEscStr terminated) = refl
literal_role (EscStr terminated) = refl

word_role : (found : Option ℕ) → IfSome found (λ kind. role kind ≡ Other)
    → role (unwrap_or found IDENT) ≡ Other
unfolding role
word_role (Some kind) plain = plain
word_role None plain = refl

pub leaf_role : ((text : List ℕ) → IfSome (keyword_of text) (λ kind. role kind ≡ Other))
    → (kind : TokenKind) (text : List ℕ) → role (leaf_kind kind text) ≡ token_role kind
unfolding role
leaf_role plain token.Ident text = word_role (keyword_of text) (plain text)
leaf_role plain (token.Literal literal) text = literal_role literal
leaf_role plain (token.PsqlCommand true) text = refl
leaf_role plain (token.PsqlCommand false) text = refl
leaf_role plain _ text = refl
