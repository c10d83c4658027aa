use Rattle.squawk_statements.proofs.Found.{none_opening}
use Rattle.squawk_statements.proofs.node.opening.Goals as goal

pub returns-clause-none : goal.returns-clause-none
returns-clause-none c = none_opening c.opening_in.result c.args.kinds.now c.opening_in.ensures
