-- The steps of children, as the parse into statements emits them: child by child, with trivia.
use Rattle.std.specs.Prelude.{◌≡◌, ℕ, zero, suc, ◌+◌, ◌-◌, ◌==◌, Bool, Option, Some, None, List, [], ◌∷◌, ◌++◌, length, map, take, drop, if◌then◌else◌}
use Rattle.squawk_events.specs.Lawful.{IsLawful}
use Rattle.squawk_events.specs.declared.steps.Step.{Step}
use Rattle.squawk_events.specs.declared.steps.StrStep.{StrStep}
use Rattle.squawk_events.specs.declared.steps.StrStep.TheVariants.{Enter, Token, Exit, Error}
use Rattle.squawk_kinds.specs.Role.{Role, role, Trivia, Semicolon, Terminator, Command, Open, Close, Other}
use Rattle.squawk_kinds.specs.declared.numbers.TheConstants.Number.{PAREN_EXPR, ERROR}
use Rattle.squawk_lexed.specs.LexedText.{total_len}
use Rattle.squawk_lexed.specs.LexedToken.{LexedToken, lexed_role}
use Rattle.squawk_lexed.specs.Weave.{kinds_without_trivia, weave}
use Rattle.squawk_statements.specs.Children.{open_groups_after, trimmed_len}
use Rattle.squawk_statements.specs.Plain.{child_steps}
use Rattle.squawk_statements.specs.declared.division.Division.{Division}
use Rattle.squawk_statements.specs.declared.first.ChildShape.{ChildShape}
use Rattle.squawk_tree.specs.ChildGrammar.{woven_children_by}
use Rattle.squawk_tree.specs.ParseOf.{token_steps}

-- the steps of the children of these tokens, the first of which begins at an offset
abbrev pub woven_children : Division → ℕ → List (List LexedToken) → List StrStep
woven_children d at parts = woven_children_by (child_steps d) at parts

-- the steps before a token of this role: a group begins with its `(`
abbrev pub enters_of : Role → List StrStep
enters_of Open = Enter PAREN_EXPR ∷ []
enters_of Trivia = []
enters_of Semicolon = []
enters_of Terminator = []
enters_of Command = []
enters_of Close = []
enters_of Other = []

-- the steps after a token of this role, where n groups are open before it: a group ends with its
-- `)`
abbrev pub exits_of : ℕ → Role → List StrStep
exits_of n Trivia = []
exits_of n Semicolon = []
exits_of n Terminator = []
exits_of n Command = []
exits_of n Open = []
exits_of zero Close = []
exits_of (suc n) Close = Exit ∷ []
exits_of n Other = []

-- the `Token` step of a token of this role inside n groups, with the group that it begins or ends
abbrev pub steps_in_groups : ℕ → Role → StrStep → List StrStep
steps_in_groups n f step = enters_of f ++ step ∷ exits_of n f

-- an `Exit` for each of n open groups
abbrev pub exit_steps : ℕ → List StrStep
exit_steps zero = []
exit_steps (suc n) = Exit ∷ exit_steps n

-- the steps of tokens none of which ends the statement, where n groups are open before them and the
-- first begins at an offset; groups that are still open end after the last
abbrev pub nested_steps : ℕ → ℕ → List LexedToken → List StrStep
nested_steps n at [] = exit_steps n
nested_steps n at (t ∷ ts) = steps_in_groups n (role t.kind) (Token t.kind at (at + t.len))
    ++ nested_steps (open_groups_after n (role t.kind)) (at + t.len) ts

-- the `Error` step at the start of an `ERROR` statement
abbrev pub unknown_error : ℕ → ℕ → List StrStep
unknown_error at node = if node == ERROR then Error 10 at ∷ [] else []

-- the number of tokens of a node before the token that ends it and the trivia there; a node that is
-- not closed has neither
abbrev pub body_len : Bool → List LexedToken → ℕ
body_len closed ts =
    trimmed_len (map lexed_role (take (length ts - (if closed then 1 else 0)) ts))

-- the steps of a node with this body and the tokens after it, the first of which begins at an
-- offset
abbrev pub steps_of_node : ℕ → ℕ → (body rest : List LexedToken) → List StrStep
steps_of_node node at body rest = Enter node ∷ unknown_error at node
    ++ nested_steps 0 at body ++ token_steps (at + total_len body) rest ++ Exit ∷ []

-- the steps of a node of these tokens, the first of which begins at an offset
abbrev pub node_steps : ℕ → Bool → ℕ → List LexedToken → List StrStep
node_steps node closed at ts =
    steps_of_node node at (take (body_len closed ts) ts) (drop (body_len closed ts) ts)

-- the steps of a child by its node, if it is one
abbrev pub child_steps_by : Option ℕ → Bool → ℕ → List LexedToken → List StrStep
child_steps_by None closed at ts = token_steps at ts
child_steps_by (Some node) closed at ts = node_steps node closed at ts

-- the steps of a child of this shape and of these tokens, the first of which begins at an offset
abbrev pub steps_of_shape : ChildShape → ℕ → List LexedToken → List StrStep
steps_of_shape shape at ts = child_steps_by shape.node shape.closed at ts

-- the `Error` step at the start of a child with this node
abbrev pub child_error : ℕ → Option ℕ → List StrStep
child_error at None = []
child_error at (Some node) = unknown_error at node

-- the steps are the weave of these tokens and the lawful steps of a grammar
pub record IsWeaveOf (ts : List LexedToken) (output : List Step) (steps : List StrStep)
    : Type 0 where
  pub lawful : IsLawful (kinds_without_trivia ts) output
  pub steps_are : steps ≡ weave ts output

-- the steps are such a weave of these tokens
abbrev pub IsWoven : List LexedToken → List StrStep → Type 0
IsWoven ts steps = (output : List Step) × IsWeaveOf ts output steps
