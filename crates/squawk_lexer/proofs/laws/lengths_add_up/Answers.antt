use Rattle.squawk_lexer.proofs.LawLemmas.{lengths_add_up}
use Rattle.squawk_lexer.proofs.WithinLaws.{lengths_within}
use Rattle.squawk_lexer.proofs.laws.lengths_add_up.Goals as goal

pub returns-clause-within : goal.returns-clause-within
returns-clause-within c = lengths_within

pub returns-clause-bytes : goal.returns-clause-bytes
returns-clause-bytes c = lengths_add_up
