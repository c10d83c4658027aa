use Rattle.squawk_words.specs.Words.{keywords}
use Rattle.squawk_words.proofs.KindLemmas.{found_other}
use Rattle.squawk_words.proofs.WordTables.{keywords_are_other}
use Rattle.squawk_words.proofs.from_keyword.Goals as goal

pub returns-clause-role : goal.returns-clause-role
returns-clause-role c =
    found_other keywords c.args.ident.now c.look_up.result c.look_up.ensures.kind keywords_are_other
