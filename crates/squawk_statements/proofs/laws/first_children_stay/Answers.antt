use Rattle.squawk_statements.proofs.Stay.{stay, within as all_within}
use Rattle.squawk_statements.proofs.laws.first_children_stay.Goals as goal

pub returns : goal.returns
returns c = record { within = all_within; stays = stay }
