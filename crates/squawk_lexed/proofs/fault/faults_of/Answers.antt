use Rattle.squawk_lexed.proofs.FaultLemmas.{few_faults, faults_lie_within}
use Rattle.squawk_lexed.proofs.fault.faults_of.Goals as goal

pub returns-clause-few : goal.returns-clause-few
returns-clause-few c = few_faults c.flags_lie_within.ensures.within c.args.token c.requires.cut

pub returns-clause-within : goal.returns-clause-within
returns-clause-within c =
    faults_lie_within c.flags_lie_within.ensures.within c.args.token c.requires.cut
