use Rattle.squawk_clauses.specs.ClausesAreLawful.{clauses_lawful}
use Rattle.squawk_clauses.specs.PlainWithoutClauses.{plain_without_clauses}
use Rattle.squawk_clauses.proofs.laws.clauses_add_only_nodes.Goals as goal

pub returns : goal.returns
returns c = record { lawful = clauses_lawful; plain = plain_without_clauses }
