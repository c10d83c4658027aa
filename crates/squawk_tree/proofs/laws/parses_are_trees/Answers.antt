use Rattle.squawk_tree.proofs.TreeLaws.{tree_of_lawful}
use Rattle.squawk_tree.proofs.RootLemmas.{root_children_woven}
use Rattle.squawk_tree.proofs.laws.parses_are_trees.Goals as goal

pub returns-clause-lawful : goal.returns-clause-lawful
returns-clause-lawful c = λ tokens steps sound lawful. tree_of_lawful tokens steps sound lawful

pub returns-clause-children : goal.returns-clause-children
returns-clause-children c = λ division tokens. root_children_woven division tokens
