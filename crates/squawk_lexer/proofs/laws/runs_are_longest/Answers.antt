use Rattle.squawk_lexer.proofs.LawLemmas.{runs_are_longest, runs_are_one}
use Rattle.squawk_lexer.proofs.laws.runs_are_longest.Goals as goal

pub returns-clause-longest : goal.returns-clause-longest
returns-clause-longest c = runs_are_longest

pub returns-clause-only : goal.returns-clause-only
returns-clause-only c = runs_are_one
