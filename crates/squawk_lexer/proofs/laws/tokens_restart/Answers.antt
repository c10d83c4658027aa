use Rattle.squawk_lexer.proofs.AheadBytes.{texts_restart}
use Rattle.squawk_lexer.proofs.LawLemmas.{tokens_restart}
use Rattle.squawk_lexer.proofs.laws.tokens_restart.Goals as goal

pub returns-clause-chars : goal.returns-clause-chars
returns-clause-chars c = tokens_restart

pub returns-clause-texts : goal.returns-clause-texts
returns-clause-texts c = texts_restart
