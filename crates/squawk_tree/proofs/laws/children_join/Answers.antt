use Rattle.squawk_tree.proofs.JoinIsParse.{parse_joined}
use Rattle.squawk_tree.proofs.laws.children_join.Goals as goal

pub returns : goal.returns
returns c = λ division tokens sound. parse_joined division tokens sound
