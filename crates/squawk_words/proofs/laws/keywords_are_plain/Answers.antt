use Rattle.std.proofs.Common.{refl}
use Rattle.squawk_words.specs.KindOf.{keyword_of}
use Rattle.squawk_words.specs.Words.{keywords}
use Rattle.squawk_words.proofs.KindLemmas.{found_other}
use Rattle.squawk_words.proofs.WordTables.{keywords_are_other}
use Rattle.squawk_words.proofs.laws.keywords_are_plain.Goals as goal

pub returns : goal.returns
unfolding keyword_of
returns c = λ text. found_other keywords text (keyword_of text) refl keywords_are_other
