use Rattle.squawk_lexer.proofs.PsqlArgumentLaws.{marked_is_first}
use Rattle.squawk_lexer.proofs.laws.marked_is_first.Goals as goal

pub returns : goal.returns
returns c = marked_is_first
