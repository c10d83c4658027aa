use Rattle.squawk_statements.proofs.LongestLaw.{longest_is}
use Rattle.squawk_statements.proofs.laws.openings_are_longest.Goals as goal

pub returns : goal.returns
returns c = λ kinds row is. longest_is kinds row is
