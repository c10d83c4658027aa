use Rattle.squawk_lexer.proofs.PsqlArgumentLaws.{quotes_close_first, open_quotes_stay_open}
use Rattle.squawk_lexer.proofs.laws.quotes_close_first.Goals as goal

pub returns-clause-first : goal.returns-clause-first
returns-clause-first c = quotes_close_first

pub returns-clause-open : goal.returns-clause-open
returns-clause-open c = open_quotes_stay_open
