-- What the clauses of a `SELECT` statement are.
use Rattle.std.specs.Prelude.{◌≡◌, ◌<◌, ℕ, false, IsTrue, List, [], ◌∷◌, ◌++◌, length, map, take, slice_index, Some, None}
use Rattle.squawk_kinds.specs.Role.{role}
use Rattle.squawk_events.specs.declared.steps.Step.{Step}
use Rattle.squawk_events.specs.declared.steps.Step.TheVariants.{Enter, Token, Exit}
use Rattle.squawk_statements.specs.Children.{ends_statement}
use Rattle.squawk_statements.specs.Groups.{stays_open}
use Rattle.squawk_statements.specs.Laws.{groups_left_open}
use Rattle.squawk_statements.specs.Plain.{body_steps}
use Rattle.squawk_statements.specs.declared.division.Division.{Division}
use Rattle.squawk_clauses.specs.Clauses.{clause_in, clause_rows, select_steps}

-- no clause begins at these kinds: each that is outside all groups is no kind of the table
abbrev pub NoneBegins : List ℕ → Type 0
NoneBegins kinds = (i : ℕ) → i < length kinds → groups_left_open 0 (map role (take i kinds)) ≡ 0
    → clause_in clause_rows (slice_index kinds i) ≡ None

-- what follows these kinds, if there is more, is outside all groups
abbrev pub IsOutsideAfter : List ℕ → List ℕ → Type 0
IsOutsideAfter kinds more = 0 < length more → groups_left_open 0 (map role kinds) ≡ 0

-- These kinds are clauses, one after another, and have these steps. A clause is a kind of the table
-- and all kinds to the next of them outside all groups, or to the end; its steps are those of its
-- kinds and groups, in the node of the table.
pub data AreClauses (d : Division) : List ℕ → List Step → Type 0 where
  NoClause : AreClauses d [] []
  OneClause : (node kind : ℕ) (others more : List ℕ) (steps : List Step)
      → clause_in clause_rows kind ≡ Some node → NoneBegins others
      → IsOutsideAfter (kind ∷ others) more → AreClauses d more steps
      → AreClauses d (kind ∷ others ++ more)
      (Enter node ∷ body_steps d 0 (kind ∷ others) ++ Exit ∷ steps)

-- these kinds are some in no clause, and clauses after them; their steps follow in this order
pub record HaveClauses (d : Division) (kinds : List ℕ) (steps : List Step) : Type 0 where
  pub before : List ℕ
  pub after : List ℕ
  pub clause_steps : List Step
  pub whole : before ++ after ≡ kinds
  pub none : NoneBegins before
  pub outside : IsOutsideAfter before after
  pub clauses : AreClauses d after clause_steps
  pub same : steps ≡ body_steps d 0 before ++ clause_steps

-- ---- the laws

-- the kinds of a statement before the token that ends it have the steps of their clauses
abbrev pub ClausesDivideStatements : Type 0
ClausesDivideStatements = (division : Division) (kinds : List ℕ)
    → IsTrue (stays_open division 0 kinds)
    → HaveClauses division kinds (select_steps division false 0 kinds)

-- the token that ends a statement stands after its last clause
abbrev pub EndingTokenIsInNoClause : Type 0
EndingTokenIsInNoClause = (division : Division) (kinds : List ℕ) (kind : ℕ)
    → IsTrue (stays_open division 0 kinds)
    → IsTrue (ends_statement division (groups_left_open 0 (map role kinds)) (role kind))
    → select_steps division false 0 (kinds ++ kind ∷ [])
    ≡ select_steps division false 0 kinds ++ Token kind ∷ []
