use Rattle.squawk_lexer.proofs.KindEquality.{kinds_are_same, kind_is_itself}
use Rattle.squawk_lexer.proofs.laws.equal_values_are_the_same.Goals as goal

pub returns-clause-kinds : goal.returns-clause-kinds
returns-clause-kinds c = λ a b. (kinds_are_same a b, kind_is_itself a b)
