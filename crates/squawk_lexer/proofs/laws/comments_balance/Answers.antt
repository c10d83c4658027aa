use Rattle.squawk_lexer.proofs.BalanceLaws.{comments_balance, open_comments_stay_open}
use Rattle.squawk_lexer.proofs.laws.comments_balance.Goals as goal

pub returns-clause-ends : goal.returns-clause-ends
returns-clause-ends c = comments_balance

pub returns-clause-unterminated : goal.returns-clause-unterminated
returns-clause-unterminated c = open_comments_stay_open
