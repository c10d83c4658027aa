use Rattle.squawk_tree.proofs.Alone.{parse_alone}
use Rattle.squawk_tree.proofs.laws.children_stand_alone.Goals as goal

pub returns : goal.returns
returns c = λ division token tokens sound. parse_alone division token tokens sound
