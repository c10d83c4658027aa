use Rattle.squawk_lexer.proofs.AheadBytes.{texts_progress}
use Rattle.squawk_lexer.proofs.LawLemmas.{tokens_progress}
use Rattle.squawk_lexer.proofs.WithinLaws.{tokens_within}
use Rattle.squawk_lexer.proofs.laws.tokens_progress.Goals as goal

pub returns-clause-some : goal.returns-clause-some
returns-clause-some c = tokens_progress

pub returns-clause-within : goal.returns-clause-within
returns-clause-within c = tokens_within

pub returns-clause-texts : goal.returns-clause-texts
returns-clause-texts c = texts_progress
