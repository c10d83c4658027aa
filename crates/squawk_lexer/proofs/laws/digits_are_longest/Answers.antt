use Rattle.squawk_lexer.proofs.DigitLaws.{digits_are_longest}
use Rattle.squawk_lexer.proofs.laws.digits_are_longest.Goals as goal

pub returns : goal.returns
returns c = digits_are_longest
