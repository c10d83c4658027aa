use Rattle.squawk_statements.proofs.Groups.{body_divides, division_is_unique, ending_token_is_last}
use Rattle.squawk_statements.proofs.laws.groups_divide_uniquely.Goals as goal

pub returns-clause-some : goal.returns-clause-some
returns-clause-some c = λ division kinds goes. body_divides division kinds goes

pub returns-clause-one : goal.returns-clause-one
returns-clause-one c = λ division nesting other h k same.
    division_is_unique division nesting other h k same

pub returns-clause-closing : goal.returns-clause-closing
returns-clause-closing c = λ division kinds kind h e. ending_token_is_last division 0 kinds kind h e
