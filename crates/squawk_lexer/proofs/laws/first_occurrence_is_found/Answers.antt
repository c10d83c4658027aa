use Rattle.squawk_lexer.proofs.LawLemmas.{found_is_first, none_is_nowhere}
use Rattle.squawk_lexer.proofs.laws.first_occurrence_is_found.Goals as goal

pub returns-clause-first : goal.returns-clause-first
returns-clause-first c = found_is_first

pub returns-clause-nowhere : goal.returns-clause-nowhere
returns-clause-nowhere c = none_is_nowhere
