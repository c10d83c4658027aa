use Rattle.squawk_script.proofs.Utf8Laws as laws
use Rattle.squawk_script.proofs.laws.new_texts_are_utf8.Goals as goal

pub returns : goal.returns
returns c = laws.new_texts_are_utf8
