-- The steps of the clause grammar: those of the plain grammar, with clauses in `SELECT` statements.
--
-- The kinds of a statement before the token that ends it are plain kinds and groups. In a statement
-- whose node is `SELECT`, each plain kind of the table begins a clause, which extends to the next
-- such kind or to the last before the token that ends the statement. That token, and what is before
-- the first clause, are in no clause.
use Rattle.std.specs.Prelude.{ℕ, zero, suc, ◌==◌, ◌||◌, Bool, true, false, List, [], ◌∷◌, ◌++◌, Option, Some, None, is_some, if◌then◌else◌}
use Rattle.std.specs.List.{list_any}
use Rattle.squawk_kinds.specs.Role.{role}
use Rattle.squawk_kinds.specs.declared.numbers.TheConstants.Number as kind
use Rattle.squawk_events.specs.declared.steps.Step.{Step}
use Rattle.squawk_events.specs.declared.steps.Step.TheVariants.{Enter, Token, Exit}
use Rattle.squawk_statements.specs.Children.{ends_statement, parts}
use Rattle.squawk_statements.specs.Plain.{node_of, exits, kind_steps, groups_open_after, child_steps, children_by}
use Rattle.squawk_statements.specs.declared.division.Division.{Division}

-- a row of the table: the kind that begins a clause, and the clause's node
abbrev pub ClauseRow : Type 0
ClauseRow = ℕ × ℕ

-- the table
unfoldable pub clause_rows : List ClauseRow
clause_rows =
    (kind.SELECT_KW, kind.SELECT_CLAUSE) ∷
    (kind.FROM_KW, kind.FROM_CLAUSE) ∷
    (kind.WHERE_KW, kind.WHERE_CLAUSE) ∷
    (kind.GROUP_KW, kind.GROUP_BY_CLAUSE) ∷
    (kind.HAVING_KW, kind.HAVING_CLAUSE) ∷
    (kind.ORDER_KW, kind.ORDER_BY_CLAUSE) ∷
    (kind.LIMIT_KW, kind.LIMIT_CLAUSE) ∷
    (kind.OFFSET_KW, kind.OFFSET_CLAUSE) ∷ []

-- the node of the clause that a kind begins by these rows, if it begins one
abbrev pub clause_in : List ClauseRow → ℕ → Option ℕ
clause_in [] k = None
clause_in (row ∷ rows) k = if k == row.0 then Some row.1 else clause_in rows k

-- whether a kind is the node of a clause
unfoldable pub is_clause_node : ℕ → Bool
is_clause_node k = list_any (λ (row : ClauseRow). k == row.1) clause_rows

-- the node of the clause that a kind inside n groups begins, if it begins one
abbrev pub clause_of : ℕ → ℕ → Option ℕ
clause_of zero k = clause_in clause_rows k
clause_of (suc n) k = None

-- the steps at the end of the clause that is open, if one is
abbrev pub clause_end : Bool → List Step
clause_end true = Exit ∷ []
clause_end false = []

-- the steps before the first kind of a clause with this node: the clause before it ends
abbrev pub clause_start : Bool → Option ℕ → List Step
clause_start in_clause None = []
clause_start in_clause (Some node) = clause_end in_clause ++ Enter node ∷ []

-- the steps of a kind of a `SELECT` statement, by whether a clause is open before it, and by the
-- number of groups that are
abbrev pub select_kind_steps : Division → Bool → ℕ → ℕ → List Step
select_kind_steps d in_clause n k =
    if ends_statement d n (role k) then exits n ++ clause_end in_clause ++ Token k ∷ []
    else clause_start in_clause (clause_of n k) ++ kind_steps d n k

-- whether a clause is open after a kind
abbrev pub in_clause_after : Division → Bool → ℕ → ℕ → Bool
in_clause_after d in_clause n k = if ends_statement d n (role k) then false
    else in_clause || is_some (clause_of n k)

-- the steps of the kinds of a `SELECT` statement, by whether a clause is open before them, and by
-- the number of groups that are
abbrev pub select_steps : Division → Bool → ℕ → List ℕ → List Step
select_steps d in_clause n [] = exits n ++ clause_end in_clause
select_steps d in_clause n (k ∷ ks) = select_kind_steps d in_clause n k
    ++ select_steps d (in_clause_after d in_clause n k) (groups_open_after d n (role k)) ks

-- the steps of a `SELECT` statement of these kinds
abbrev pub select_child_steps : Division → List ℕ → List Step
select_child_steps d kinds = Enter kind.SELECT ∷ select_steps d false 0 kinds ++ Exit ∷ []

-- the steps of a child of these kinds
abbrev pub clause_child_steps : Division → List ℕ → List Step
clause_child_steps d kinds = if node_of kinds == kind.SELECT then select_child_steps d kinds
    else child_steps d kinds

-- the steps of a list of kinds without trivia
abbrev pub clauses : Division → List ℕ → List Step
clauses d kinds = Enter kind.SOURCE_FILE ∷ children_by (clause_child_steps d) (parts role d kinds)
    ++ Exit ∷ []
