-- What the definitions mean: the longest row, the first token that ends a statement, the one
-- nesting of groups, and what decides the first child.
use Rattle.std.specs.Prelude.{ℕ, suc, ◌≡◌, ◌≤◌, ◌<◌, Bool, true, false, IsTrue, List, [], ◌∷◌, ◌++◌, length, map, take, Some, None, slice_index_or, All, Contains}
use Rattle.squawk_events.specs.declared.steps.Step.TheVariants.{Token}
use Rattle.squawk_kinds.specs.Role.{Role, role, Other, is_trivia}
use Rattle.squawk_statements.specs.Children.{ends_statement, open_groups_after, statement_end, trimmed_len}
use Rattle.squawk_statements.specs.Groups.{Nesting, nesting_kinds, nesting_steps, is_nesting, stays_open}
use Rattle.squawk_statements.specs.First.{first_shape}
use Rattle.squawk_statements.specs.declared.division.Division.{Division}
use Rattle.squawk_statements.specs.Opening.{Row, rows, is_prefix, longest}
use Rattle.squawk_statements.specs.Plain.{body_steps}

-- the row is in the table and a prefix of the kinds, and no other such row is longer
pub record IsLongest (table : List Row) (ks : List ℕ) (row : Row) : Type 0 where
  pub listed : Contains table row
  pub fits : is_prefix row.0 ks ≡ true
  pub longest : All (λ (other : Row). is_prefix other.0 ks ≡ true
      → length other.0 ≤ length row.0) table

-- the number of groups that tokens of these roles leave open, where n are open before them
abbrev pub groups_left_open : ℕ → List Role → ℕ
groups_left_open n [] = n
groups_left_open n (f ∷ fs) = groups_left_open (open_groups_after n f) fs

-- whether the token at index i may end the statement, where n groups are open before its first
-- token: it is a terminator, or a semicolon that the division counts there
abbrev pub may_end_at : Division → ℕ → List Role → ℕ → Bool
may_end_at d n fs i = ends_statement d (groups_left_open n (take i fs)) (slice_index_or fs i Other)

-- the token at index i may end the statement, and none before it may
pub record EndsFirstAt (d : Division) (n : ℕ) (fs : List Role) (i : ℕ) : Type 0 where
  pub within : i < length fs
  pub ends : may_end_at d n fs i ≡ true
  pub first : (j : ℕ) → j < i → may_end_at d n fs j ≡ false

-- no token may end the statement
abbrev pub NoneEnds : Division → ℕ → List Role → Type 0
NoneEnds d n fs = (i : ℕ) → i < length fs → may_end_at d n fs i ≡ false

-- all from the n-th on are trivia, and the one before them is not
pub record IsTrimmed (fs : List Role) (n : ℕ) : Type 0 where
  pub within : n ≤ length fs
  pub trivia : (i : ℕ) → n ≤ i → i < length fs → is_trivia (slice_index_or fs i Other) ≡ true
  pub last : (i : ℕ) → n ≡ suc i → is_trivia (slice_index_or fs i Other) ≡ false

-- ---- the laws

-- the row that decides a statement's node is the longest that fits
abbrev pub FoundRowIsLongest : Type 0
FoundRowIsLongest = (kinds : List ℕ) (row : Row) → longest rows kinds ≡ Some row
    → IsLongest rows kinds row

-- a closed statement extends to the first token that may end it
abbrev pub ClosedStatementEndsFirst : Type 0
ClosedStatementEndsFirst = (division : Division) (roles : List Role) (tokens : ℕ)
    → statement_end division 0 roles ≡ Some tokens
    → (i : ℕ) × (tokens ≡ suc i) × EndsFirstAt division 0 roles i

-- no token may end an open statement
abbrev pub NothingEndsOpenStatement : Type 0
NothingEndsOpenStatement = (division : Division) (roles : List Role)
    → statement_end division 0 roles ≡ None → NoneEnds division 0 roles

-- an open statement extends to the last token that is not trivia
abbrev pub LastTokenIsNotTrivia : Type 0
LastTokenIsNotTrivia = (roles : List Role) → IsTrimmed roles (trimmed_len roles)

-- kinds none of which ends the statement are the kinds of a nesting, and have its steps
abbrev pub NestingExists : Type 0
NestingExists = (division : Division) (kinds : List ℕ) → IsTrue (stays_open division 0 kinds)
    → (nesting : Nesting) × (nesting_kinds nesting ≡ kinds) × (is_nesting division 0 nesting ≡ true)
    × (body_steps division 0 kinds ≡ nesting_steps nesting)

-- nestings with the same kinds are the same
abbrev pub NestingIsUnique : Type 0
NestingIsUnique = (division : Division) (nesting other : Nesting)
    → IsTrue (is_nesting division 0 nesting) → IsTrue (is_nesting division 0 other)
    → nesting_kinds nesting ≡ nesting_kinds other → nesting ≡ other

-- the token that ends a statement stands after all of its groups
abbrev pub EndingTokenIsLast : Type 0
EndingTokenIsLast = (division : Division) (kinds : List ℕ) (kind : ℕ)
    → IsTrue (stays_open division 0 kinds)
    → IsTrue (ends_statement division (groups_left_open 0 (map role kinds)) (role kind))
    → body_steps division 0 (kinds ++ kind ∷ []) ≡ body_steps division 0 kinds ++ Token kind ∷ []

-- the first child has at least one token, and no more than there are
abbrev pub FirstChildrenWithin : Type 0
FirstChildrenWithin = (division : Division) (kinds : List ℕ) → 0 < length kinds
    → (0 < (first_shape division kinds).tokens)
    × ((first_shape division kinds).tokens ≤ length kinds)

-- a closed first child whose kinds are `own` is the first child of every list that begins with them
abbrev pub FirstChildrenStay : Type 0
FirstChildrenStay = (division : Division) (own rest other : List ℕ)
    → IsTrue (first_shape division (own ++ rest)).closed
    → (first_shape division (own ++ rest)).tokens ≡ length own
    → first_shape division (own ++ other) ≡ first_shape division (own ++ rest)
