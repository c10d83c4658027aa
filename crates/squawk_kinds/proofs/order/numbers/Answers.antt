use Rattle.std.proofs.Common.{refl}
use Rattle.squawk_kinds.specs.Kinds.{kinds}
use Rattle.squawk_kinds.proofs.order.numbers.Goals as goal

pub returns : goal.returns
unfolding kinds
returns c = refl
