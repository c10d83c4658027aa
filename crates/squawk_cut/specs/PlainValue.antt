-- The value of a `PlainFront`.
use Rattle.std.specs.Prelude.{ℕ}
use Rattle.squawk_cut.specs.PlainTells.{plain_tells}
use Rattle.squawk_cut.specs.Tells.{IsLawful}
use Rattle.squawk_lexer.specs.declared.token.Strings.{Strings}
use Rattle.squawk_statements.specs.declared.division.Division.{Division}

-- its options, the number of its steps so far, and that what it tells is lawful
pub record PlainValue : Type 0 where
  pub strings : Strings
  pub division : Division
  pub steps : ℕ
  pub lawful : IsLawful (plain_tells strings division)
