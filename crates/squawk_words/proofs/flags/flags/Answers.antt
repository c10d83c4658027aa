use Rattle.squawk_words.proofs.FlagsAgree.{HasFlags_FLAGS}
use Rattle.squawk_words.proofs.flags.flags.Goals as goal

pub returns : goal.returns
returns c = HasFlags_FLAGS
