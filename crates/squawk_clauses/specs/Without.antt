-- Steps without the nodes of clauses.
use Rattle.std.specs.Prelude.{Bool, true, false, List, [], ◌∷◌, if◌then◌else◌}
use Rattle.squawk_events.specs.declared.steps.Step.{Step}
use Rattle.squawk_events.specs.declared.steps.Step.TheVariants.{Enter, Token, Exit, Error}
use Rattle.squawk_clauses.specs.Clauses.{is_clause_node}

-- the steps without the `Enter` of each clause and its own `Exit`; the first argument says of each
-- node that is open before the steps whether it is a clause, from the innermost outwards
abbrev pub without_clauses_from : List Bool → List Step → List Step
without_clauses_from nodes [] = []
without_clauses_from nodes (Enter kind ∷ xs) = if is_clause_node kind
    then without_clauses_from (true ∷ nodes) xs
    else Enter kind ∷ without_clauses_from (false ∷ nodes) xs
without_clauses_from nodes (Token kind ∷ xs) = Token kind ∷ without_clauses_from nodes xs
without_clauses_from [] (Exit ∷ xs) = Exit ∷ without_clauses_from [] xs
without_clauses_from (true ∷ nodes) (Exit ∷ xs) = without_clauses_from nodes xs
without_clauses_from (false ∷ nodes) (Exit ∷ xs) = Exit ∷ without_clauses_from nodes xs
without_clauses_from nodes (Error number ∷ xs) = Error number ∷ without_clauses_from nodes xs

-- the steps without the `Enter` of each clause and its own `Exit`
abbrev pub without_clause_nodes : List Step → List Step
without_clause_nodes steps = without_clauses_from [] steps
