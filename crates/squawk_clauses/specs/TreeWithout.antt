-- The steps of a tree without the nodes of clauses.
use Rattle.std.specs.Prelude.{Bool, true, false, List, [], ◌∷◌, if◌then◌else◌}
use Rattle.squawk_events.specs.declared.steps.StrStep.{StrStep}
use Rattle.squawk_events.specs.declared.steps.StrStep.TheVariants.{Enter, Token, Exit, Error}
use Rattle.squawk_clauses.specs.Clauses.{is_clause_node}

-- the steps without the `Enter` of each clause and its own `Exit`; the first argument says of each
-- node that is open before the steps whether it is a clause, from the innermost outwards
abbrev pub tree_without_from : List Bool → List StrStep → List StrStep
tree_without_from nodes [] = []
tree_without_from nodes (Enter kind ∷ xs) = if is_clause_node kind
    then tree_without_from (true ∷ nodes) xs
    else Enter kind ∷ tree_without_from (false ∷ nodes) xs
tree_without_from nodes (Token kind start end ∷ xs) =
    Token kind start end ∷ tree_without_from nodes xs
tree_without_from [] (Exit ∷ xs) = Exit ∷ tree_without_from [] xs
tree_without_from (true ∷ nodes) (Exit ∷ xs) = tree_without_from nodes xs
tree_without_from (false ∷ nodes) (Exit ∷ xs) = Exit ∷ tree_without_from nodes xs
tree_without_from nodes (Error number at ∷ xs) = Error number at ∷ tree_without_from nodes xs

-- the steps of a tree without the `Enter` of each clause and its own `Exit`
abbrev pub tree_without_clauses : List StrStep → List StrStep
tree_without_clauses steps = tree_without_from [] steps
