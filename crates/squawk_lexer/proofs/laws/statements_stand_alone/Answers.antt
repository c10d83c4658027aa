use Rattle.squawk_lexer.proofs.StatementLaws.{statements_stand_alone}
use Rattle.squawk_lexer.proofs.laws.statements_stand_alone.Goals as goal

pub returns : goal.returns
returns c = statements_stand_alone
