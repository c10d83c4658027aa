use Rattle.squawk_lexer.proofs.LiteralOrder.{literal_order}
use Rattle.squawk_lexer.proofs.laws.literals_are_ordered.Goals as goal

pub returns-clause-literals : goal.returns-clause-literals
returns-clause-literals c = literal_order
