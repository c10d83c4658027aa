use Rattle.squawk_lexed.proofs.GivenLemmas.{weave_is}
use Rattle.squawk_lexed.proofs.laws.trivia_is_woven.Goals as goal

pub returns : goal.returns
returns c = λ tokens steps balanced kinds. weave_is tokens steps balanced kinds
