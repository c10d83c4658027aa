use Rattle.squawk_clauses.proofs.RootsWithout.{root_children_stay}
use Rattle.squawk_clauses.proofs.TreeWithout.{errors_are_plain, tree_is_plain}
use Rattle.squawk_clauses.proofs.laws.clause_parses_are_plain.Goals as goal

pub returns : goal.returns
returns c = record {
  steps = tree_is_plain;
  errors = errors_are_plain;
  children = root_children_stay;
}
