use Rattle.squawk_statements.proofs.EndLaws.{end_is_first, none_ends, trimmed_is}
use Rattle.squawk_statements.proofs.laws.statements_end_first.Goals as goal

pub returns-clause-closed : goal.returns-clause-closed
returns-clause-closed c = λ division roles tokens is. end_is_first division 0 roles tokens is

pub returns-clause-open : goal.returns-clause-open
returns-clause-open c = λ division roles is. none_ends division 0 roles is

pub returns-clause-trimmed : goal.returns-clause-trimmed
returns-clause-trimmed c = λ roles. trimmed_is roles
