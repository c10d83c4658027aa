use Rattle.squawk_script.proofs.RecordLaws as laws
use Rattle.squawk_script.proofs.laws.new_texts_are_short.Goals as goal

pub returns : goal.returns
returns c = laws.new_texts_are_short
