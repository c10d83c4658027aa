-- The steps of a list of kinds without trivia.
use Rattle.std.specs.Prelude.{ℕ, zero, suc, ◌==◌, List, [], ◌∷◌, ◌++◌, unwrap_or, if◌then◌else◌}
use Rattle.squawk_kinds.specs.Role.{Role, role, Trivia, Semicolon, Terminator, Command, Open, Close, Other}
use Rattle.squawk_kinds.specs.declared.numbers.TheConstants.Number.{PAREN_EXPR, SOURCE_FILE, ERROR}
use Rattle.squawk_events.specs.declared.steps.Step.{Step}
use Rattle.squawk_events.specs.declared.steps.Step.TheVariants.{Enter, Token, Exit, Error}
use Rattle.squawk_statements.specs.Children.{ends_statement, open_groups_after, parts}
use Rattle.squawk_statements.specs.First.{node_by}
use Rattle.squawk_statements.specs.declared.division.Division.{Division}

-- the node of a child of these kinds, none of which is trivia
abbrev pub node_of : List ℕ → ℕ
node_of [] = ERROR
node_of (kind ∷ kinds) = unwrap_or (node_by (role kind) (kind ∷ kinds)) ERROR

-- the steps before a token of this role: a group begins with its `(`
abbrev pub enters_before : Role → List Step
enters_before Open = Enter PAREN_EXPR ∷ []
enters_before Trivia = []
enters_before Semicolon = []
enters_before Terminator = []
enters_before Command = []
enters_before Close = []
enters_before Other = []

-- the steps after a token of this role, where n groups are open before it: a group ends with its
-- `)`
abbrev pub exits_after : ℕ → Role → List Step
exits_after n Trivia = []
exits_after n Semicolon = []
exits_after n Terminator = []
exits_after n Command = []
exits_after n Open = []
exits_after zero Close = []
exits_after (suc n) Close = Exit ∷ []
exits_after n Other = []

-- an Exit for each of n open groups
abbrev pub exits : ℕ → List Step
exits zero = []
exits (suc n) = Exit ∷ exits n

-- the steps of a token of a child, where n groups are open before it; all groups end before the
-- token that ends a statement
abbrev pub kind_steps : Division → ℕ → ℕ → List Step
kind_steps d n kind =
    if ends_statement d n (role kind) then exits n ++ Token kind ∷ []
    else enters_before (role kind) ++ Token kind ∷ exits_after n (role kind)

-- the number of open groups after a token of this role, where n are open before it
abbrev pub groups_open_after : Division → ℕ → Role → ℕ
groups_open_after d n f = if ends_statement d n f then 0 else open_groups_after n f

-- the steps of the tokens of a child, where n groups are open before them; groups that are still
-- open at the end of the child end there
abbrev pub body_steps : Division → ℕ → List ℕ → List Step
body_steps d n [] = exits n
body_steps d n (kind ∷ kinds) = kind_steps d n kind
    ++ body_steps d (groups_open_after d n (role kind)) kinds

-- an `ERROR` statement begins with the error of an unknown statement
abbrev pub unknown_statement_error : ℕ → List Step
unknown_statement_error node = if node == ERROR then Error 10 ∷ [] else []

-- the steps of a child of these kinds
abbrev pub child_steps : Division → List ℕ → List Step
child_steps d kinds = Enter (node_of kinds) ∷ unknown_statement_error (node_of kinds)
    ++ body_steps d 0 kinds ++ Exit ∷ []

-- the steps of the children that have these kinds, by those of each child
abbrev pub children_by : (List ℕ → List Step) → List (List ℕ) → List Step
children_by child [] = []
children_by child (part ∷ rest) = child part ++ children_by child rest

-- the steps of a list of kinds without trivia
abbrev pub plain : Division → List ℕ → List Step
plain d kinds = Enter SOURCE_FILE ∷ children_by (child_steps d) (parts role d kinds) ++ Exit ∷ []
