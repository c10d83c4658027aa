use Rattle.squawk_split.proofs.DataLaws as laws
use Rattle.squawk_split.proofs.laws.data_ends_at_first_marker.Goals as goal

pub returns-clause-ends : goal.returns-clause-ends
returns-clause-ends c = laws.data_ends_at_first_marker

pub returns-clause-all : goal.returns-clause-all
returns-clause-all c = laws.data_without_marker_is_all
