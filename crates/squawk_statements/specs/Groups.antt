-- The tokens of a statement before the one that ends it, as a sequence of plain kinds and groups.
use Rattle.std.specs.Prelude.{ℕ, zero, suc, ◌&&◌, not, Bool, true, false, List, [], ◌∷◌, ◌++◌}
use Rattle.squawk_events.specs.declared.steps.Step.{Step}
use Rattle.squawk_events.specs.declared.steps.Step.TheVariants.{Enter, Token, Exit}
use Rattle.squawk_kinds.specs.declared.numbers.TheConstants.Number.{L_PAREN, R_PAREN, PAREN_EXPR}
use Rattle.squawk_kinds.specs.Role.{Role, role, Trivia, Semicolon, Terminator, Command, Open, Close, Other}
use Rattle.squawk_statements.specs.Children.{ends_statement, open_groups_after}
use Rattle.squawk_statements.specs.declared.division.Division.{Division}

-- A list of plain kinds and groups: nothing; a plain kind, or a group with its `)`, and what
-- follows it; or a group without a `)`, which extends to the end.
pub data Nesting : Type 0 where
  Done : Nesting
  Plain : ℕ → Nesting → Nesting
  Closed : Nesting → Nesting → Nesting
  Unclosed : Nesting → Nesting

-- the kinds of a nesting, in order
abbrev pub nesting_kinds : Nesting → List ℕ
nesting_kinds Done = []
nesting_kinds (Plain kind rest) = kind ∷ nesting_kinds rest
nesting_kinds (Closed inside rest) = L_PAREN ∷ nesting_kinds inside ++ R_PAREN ∷ nesting_kinds rest
nesting_kinds (Unclosed inside) = L_PAREN ∷ nesting_kinds inside

-- the steps of a nesting: each group is a PAREN_EXPR node around its tokens
abbrev pub nesting_steps : Nesting → List Step
nesting_steps Done = []
nesting_steps (Plain kind rest) = Token kind ∷ nesting_steps rest
nesting_steps (Closed inside rest) =
    Enter PAREN_EXPR ∷ Token L_PAREN ∷ nesting_steps inside
    ++ Token R_PAREN ∷ Exit ∷ nesting_steps rest
nesting_steps (Unclosed inside) =
    Enter PAREN_EXPR ∷ Token L_PAREN ∷ nesting_steps inside ++ Exit ∷ []

-- whether a kind of this role may be a plain kind inside n groups: `)` is one exactly outside all
-- groups, and `(` never is
abbrev pub is_plain : ℕ → Role → Bool
is_plain n Trivia = true
is_plain n Semicolon = true
is_plain n Terminator = true
is_plain n Command = true
is_plain n Open = false
is_plain zero Close = true
is_plain (suc n) Close = false
is_plain n Other = true

-- whether each group, of those that are in no other, has its `)`
abbrev pub all_closed : Nesting → Bool
all_closed Done = true
all_closed (Plain kind rest) = all_closed rest
all_closed (Closed inside rest) = all_closed rest
all_closed (Unclosed inside) = false

-- whether this is a nesting in a statement inside n groups: no kind ends the statement, and a group
-- with its `)` holds no group without one
abbrev pub is_nesting : Division → ℕ → Nesting → Bool
is_nesting d n Done = true
is_nesting d n (Plain kind rest) = (is_plain n (role kind) && not (ends_statement d n (role kind)))
    && is_nesting d n rest
is_nesting d n (Closed inside rest) = (is_nesting d (suc n) inside && all_closed inside)
    && is_nesting d n rest
is_nesting d n (Unclosed inside) = is_nesting d (suc n) inside

-- whether no kind ends the statement, where n groups are open before these kinds
abbrev pub stays_open : Division → ℕ → List ℕ → Bool
stays_open d n [] = true
stays_open d n (k ∷ ks) = not (ends_statement d n (role k))
    && stays_open d (open_groups_after n (role k)) ks
