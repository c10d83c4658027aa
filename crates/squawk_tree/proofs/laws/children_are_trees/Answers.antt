use Rattle.squawk_tree.proofs.ChildTrees.{child_is_tree}
use Rattle.squawk_tree.proofs.laws.children_are_trees.Goals as goal

pub returns : goal.returns
returns c = λ division token tokens sound. child_is_tree division token tokens sound
