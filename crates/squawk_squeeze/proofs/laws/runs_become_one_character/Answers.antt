use Rattle.squawk_squeeze.proofs.TokenLaws as laws
use Rattle.squawk_squeeze.proofs.laws.runs_become_one_character.Goals as goal

pub returns-clause-runs : goal.returns-clause-runs
returns-clause-runs c = laws.runs_become_one_character
