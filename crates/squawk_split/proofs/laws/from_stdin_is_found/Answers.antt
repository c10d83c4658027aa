use Rattle.squawk_split.proofs.FromStdinLaws as laws
use Rattle.squawk_split.proofs.laws.from_stdin_is_found.Goals as goal

pub returns-clause-found : goal.returns-clause-found
returns-clause-found c = laws.from_stdin_is_found

pub returns-clause-only : goal.returns-clause-only
returns-clause-only c = laws.only_from_stdin_is_found
