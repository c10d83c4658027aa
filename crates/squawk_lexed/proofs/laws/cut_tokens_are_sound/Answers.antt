use Rattle.squawk_lexed.proofs.StoredLemmas.{tokens_are_sound}
use Rattle.squawk_lexed.proofs.laws.cut_tokens_are_sound.Goals as goal

pub returns : goal.returns
returns c = λ text at ts cut. tokens_are_sound c.flags_lie_within.ensures.within text at ts cut
