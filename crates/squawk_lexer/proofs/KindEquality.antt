-- A kind of token is `==` to itself alone.
use Rattle.std.proofs.Common.{◌≡◌, IsTrue, true, false, refl, rules}
use Rattle.squawk_lexer.specs.declared.token.TokenKind.{TokenKind}
use Rattle.squawk_lexer.specs.declared.token.TokenKind.TheVariants as kinds
use Rattle.squawk_lexer.specs.contracts.token.TokenKindPartialEq.TheImpl as kind_eq

-- A test that fails does not pass.
not_equal : false ≡ true → ⊥
not_equal t = cc

-- Kinds that are `==` are the same.
pub kinds_are_same : (a b : TokenKind) → IsTrue (kind_eq.ghosts.eq a b) → a ≡ b
kinds_are_same kinds.Unknown kinds.Unknown t = refl
kinds_are_same (kinds.Literal x) (kinds.Literal y) t = search rules
kinds_are_same kinds.Whitespace kinds.Whitespace t = refl
kinds_are_same kinds.Ident kinds.Ident t = refl
kinds_are_same (kinds.PsqlCommand x) (kinds.PsqlCommand y) t = search rules
kinds_are_same kinds.Semi kinds.Semi t = refl
kinds_are_same kinds.Eof kinds.Eof t = refl
kinds_are_same kinds.Slash kinds.Slash t = refl
kinds_are_same kinds.LineComment kinds.LineComment t = refl
kinds_are_same (kinds.BlockComment x) (kinds.BlockComment y) t = search rules
kinds_are_same kinds.Minus kinds.Minus t = refl
kinds_are_same kinds.Colon kinds.Colon t = refl
kinds_are_same kinds.Dot kinds.Dot t = refl
kinds_are_same kinds.DotDot kinds.DotDot t = refl
kinds_are_same kinds.Eq kinds.Eq t = refl
kinds_are_same kinds.Gt kinds.Gt t = refl
kinds_are_same kinds.And kinds.And t = refl
kinds_are_same kinds.Lt kinds.Lt t = refl
kinds_are_same kinds.Bang kinds.Bang t = refl
kinds_are_same kinds.Plus kinds.Plus t = refl
kinds_are_same kinds.Tilde kinds.Tilde t = refl
kinds_are_same kinds.Pound kinds.Pound t = refl
kinds_are_same kinds.Question kinds.Question t = refl
kinds_are_same kinds.Or kinds.Or t = refl
kinds_are_same kinds.Percent kinds.Percent t = refl
kinds_are_same kinds.Caret kinds.Caret t = refl
kinds_are_same kinds.Star kinds.Star t = refl
kinds_are_same kinds.Backtick kinds.Backtick t = refl
kinds_are_same kinds.At kinds.At t = refl
kinds_are_same kinds.CloseBracket kinds.CloseBracket t = refl
kinds_are_same kinds.OpenBracket kinds.OpenBracket t = refl
kinds_are_same kinds.CloseCurly kinds.CloseCurly t = refl
kinds_are_same kinds.OpenCurly kinds.OpenCurly t = refl
kinds_are_same kinds.CloseParen kinds.CloseParen t = refl
kinds_are_same kinds.OpenParen kinds.OpenParen t = refl
kinds_are_same kinds.Comma kinds.Comma t = refl
kinds_are_same (kinds.PositionalParam x) (kinds.PositionalParam y) t = search rules
kinds_are_same (kinds.QuotedIdent x x2) (kinds.QuotedIdent y y2) t = search rules
kinds_are_same a b t = absurd (not_equal t)

-- A kind is `==` to itself.
pub kind_is_itself : (a b : TokenKind) → a ≡ b → IsTrue (kind_eq.ghosts.eq a b)
kind_is_itself = search rules
