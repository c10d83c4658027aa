-- What the definitions mean.
use Rattle.std.specs.Prelude.{◌≡◌, ℕ, List, IsTrue}
use Rattle.squawk_events.specs.Kinds.{has_no_trivia}
use Rattle.squawk_events.specs.Lawful.{IsLawful}
use Rattle.squawk_lexed.specs.LexedToken.{LexedToken}
use Rattle.squawk_statements.specs.Plain.{plain}
use Rattle.squawk_statements.specs.declared.division.Division.{Division}
use Rattle.squawk_tree.specs.ParseOf.{parse_by, parse_of_tokens}
use Rattle.squawk_tree.specs.Steps.{root_children}
use Rattle.squawk_tree.specs.Tree.{Tree}
use Rattle.squawk_clauses.specs.Clauses.{clauses}
use Rattle.squawk_clauses.specs.TreeWithout.{tree_without_clauses}
use Rattle.squawk_clauses.specs.Without.{without_clause_nodes}

-- the parse of tokens by the clause grammar
abbrev pub clause_parse : Division → List LexedToken → Tree
clause_parse division tokens = parse_by (clauses division) tokens

-- ---- the laws

-- the steps of kinds without trivia are a tree of these kinds
abbrev pub ClausesAreLawful : Type 0
ClausesAreLawful = (division : Division) (kinds : List ℕ) → IsTrue (has_no_trivia kinds)
    → IsLawful kinds (clauses division kinds)

-- without the nodes of clauses they are the steps of the plain grammar
abbrev pub StepsWithoutClauses : Type 0
StepsWithoutClauses = (division : Division) (kinds : List ℕ)
    → without_clause_nodes (clauses division kinds) ≡ plain division kinds

-- without the nodes of clauses the parse has the steps of the parse into statements
abbrev pub TreeWithoutClauses : Type 0
TreeWithoutClauses = (division : Division) (tokens : List LexedToken)
    → tree_without_clauses (clause_parse division tokens).steps
    ≡ (parse_of_tokens division tokens).steps

-- it has the same errors
abbrev pub ErrorsStay : Type 0
ErrorsStay = (division : Division) (tokens : List LexedToken)
    → (clause_parse division tokens).errors ≡ (parse_of_tokens division tokens).errors

-- it has the same children of the root
abbrev pub RootChildrenStay : Type 0
RootChildrenStay = (division : Division) (tokens : List LexedToken)
    → root_children (clause_parse division tokens).steps
    ≡ root_children (parse_of_tokens division tokens).steps
