use Rattle.squawk_clauses.proofs.Divided.{clauses_divide_statements, ending_token_is_in_no_clause}
use Rattle.squawk_clauses.proofs.laws.clauses_divide_statements.Goals as goal

pub returns : goal.returns
returns c = record { divided = clauses_divide_statements; ending = ending_token_is_in_no_clause }
