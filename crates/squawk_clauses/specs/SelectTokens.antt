-- The steps of the tokens of a `SELECT` statement, as they are emitted. For private functions.
use Rattle.std.specs.Prelude.{ℕ, Bool, List, [], ◌∷◌, ◌++◌, Option, Some, None, slice_range, if◌then◌else◌}
use Rattle.squawk_events.specs.declared.steps.Step.TheVariants as step
use Rattle.squawk_events.specs.declared.steps.StrStep.{StrStep}
use Rattle.squawk_events.specs.declared.steps.StrStep.TheVariants.{Enter}
use Rattle.squawk_kinds.specs.Role.{role}
use Rattle.squawk_lexed.specs.LexedText.{token_start}
use Rattle.squawk_lexed.specs.LexedToken.{LexedToken}
use Rattle.squawk_lexed.specs.Weave.{kinds_without_trivia, weave_from}
use Rattle.squawk_statements.specs.Children.{ends_statement}
use Rattle.squawk_statements.specs.declared.division.Division.{Division}
use Rattle.squawk_tree.specs.ChildSteps.{exit_steps, steps_in_groups}
use Rattle.squawk_tree.specs.Steps.{without_errors}
use Rattle.squawk_clauses.specs.Clauses.{clause_of, select_steps}
use Rattle.squawk_clauses.specs.Depth.{open_nodes}

-- the steps of tokens from an index up to another inside the node of a `SELECT` statement, and its
-- end, where a clause may be open before them, and n groups are
abbrev pub select_left : Division → Bool → ℕ → List LexedToken → (from to : ℕ) → List StrStep
select_left d in_clause n ts from to = without_errors (weave_from (token_start ts from)
    (slice_range ts from to) (select_steps d in_clause n
    (kinds_without_trivia (slice_range ts from to)) ++ step.Exit ∷ []))

-- trivia, and the start of a clause after it, if one begins: the clause before it ends first
abbrev pub clause_enter : Bool → Option ℕ → List StrStep → List StrStep
clause_enter in_clause None trivia = trivia
clause_enter in_clause (Some node) trivia =
    (exit_steps (open_nodes in_clause 0) ++ trivia) ++ Enter node ∷ []

-- the steps of a token of this kind, after trivia
abbrev pub select_token : Division → Bool → ℕ → ℕ → List StrStep → StrStep → List StrStep
select_token d in_clause n kind trivia token =
    if ends_statement d n (role kind)
    then ((exit_steps n ++ exit_steps (open_nodes in_clause 0)) ++ trivia) ++ token ∷ []
    else clause_enter in_clause (clause_of n kind) trivia ++ steps_in_groups n (role kind) token
