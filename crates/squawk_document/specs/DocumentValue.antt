-- The value of a document in contracts.
use Rattle.std.specs.Prelude.{ℕ, List}
use Rattle.squawk_cut.specs.ChildValue.{ChildValue}
use Rattle.squawk_lexer.specs.declared.token.Token.{Token}

-- its front, the bytes of its text, its tokens and the children of the root
pub record DocumentValue (F : Type 0) : Type 0 where
  pub front : F
  pub text : List ℕ
  pub tokens : List Token
  pub children : List ChildValue
