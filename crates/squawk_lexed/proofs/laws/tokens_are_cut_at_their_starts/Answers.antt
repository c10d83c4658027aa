use Rattle.squawk_lexed.proofs.StartLemmas.{cut_at_their_starts}
use Rattle.squawk_lexed.proofs.laws.tokens_are_cut_at_their_starts.Goals as goal

pub returns : goal.returns
returns c = cut_at_their_starts c.tokens_progress.ensures.texts c.tokens_restart.ensures.texts
