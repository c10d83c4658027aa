-- The parse by the clause grammar, without the nodes of clauses, is the parse into statements.
use Rattle.std.proofs.Common.{◌≡◌, ℕ, ◌+◌, ◌==◌, Bool, true, false, List, [], ◌∷◌, ◌++◌, map, refl, ap, sym, ◌∙◌, if◌then◌else◌}
use Rattle.squawk_events.specs.declared.steps.StrStep.{StrStep}
use Rattle.squawk_events.specs.declared.steps.StrStep.TheVariants.{Enter, Token, Exit, Error}
use Rattle.squawk_events.specs.declared.steps.Step.TheVariants as step
use Rattle.squawk_kinds.specs.Role.{role}
use Rattle.squawk_kinds.specs.declared.numbers.TheConstants.Number as kind
use Rattle.squawk_lexed.specs.LexedToken.{LexedToken}
use Rattle.squawk_lexed.specs.Stored.{errors_at}
use Rattle.squawk_lexed.specs.Weave.{kinds_without_trivia, weave}
use Rattle.squawk_statements.specs.Children.{parts}
use Rattle.squawk_statements.specs.Plain.{plain, children_by}
use Rattle.squawk_statements.specs.declared.division.Division.{Division}
use Rattle.squawk_tree.specs.Errors.{error, errors, errors_by_token, numbers_at}
use Rattle.squawk_tree.specs.Steps.{without_errors}
use Rattle.squawk_clauses.specs.Clauses.{clauses, clause_rows, is_clause_node, clause_child_steps}
use Rattle.squawk_clauses.specs.Laws.{TreeWithoutClauses, ErrorsStay}
use Rattle.squawk_clauses.specs.PlainWithoutClauses.{plain_without_clauses}
use Rattle.squawk_clauses.specs.TreeWithout.{tree_without_from, tree_without_clauses}
use Rattle.squawk_clauses.specs.Without.{without_clause_nodes, without_clauses_from}
use Rattle.squawk_clauses.proofs.Stays.{children_stay}
use Rattle.squawk_clauses.proofs.WeaveWithout.{weave_stays}

root_is_no_clause : is_clause_node kind.SOURCE_FILE ≡ false
unfolding is_clause_node clause_rows
root_is_no_clause = refl

-- the weave of the steps of the clause grammar
pub weave_without : (d : Division) (ts : List LexedToken) (kinds : List ℕ)
    → tree_without_clauses (weave ts (clauses d kinds)) ≡ weave ts (plain d kinds)
weave_without d ts kinds =
    let inner = children_by (clause_child_steps d) (parts role d kinds) ++ step.Exit ∷ [] in
    let root : without_clause_nodes (clauses d kinds)
    ≡ step.Enter kind.SOURCE_FILE ∷ without_clauses_from (false ∷ []) inner =
    rw root_is_no_clause refl in
    rw root_is_no_clause
    (ap (λ ys. Enter kind.SOURCE_FILE ∷ ys)
    (weave_stays inner (false ∷ []) 0 ts (children_stay d kinds)))
    ∙ ap (weave ts) (sym root ∙ plain_without_clauses d kinds)

-- one of two lists has a property that both have
either : (P : List StrStep → Type 0) (b : Bool) (xs ys : List StrStep) → P xs → P ys
    → P (if b then xs else ys)
either P true xs ys first second = first
either P false xs ys first second = second

-- ---- steps and errors

errors_left_out : (nodes : List Bool) (xs : List StrStep)
    → tree_without_from nodes (without_errors xs) ≡ without_errors (tree_without_from nodes xs)
errors_left_out nodes [] = refl
errors_left_out nodes (Enter kind ∷ xs) =
    by (is_clause_node kind) (errors_left_out (true ∷ nodes) xs)
    (errors_left_out (false ∷ nodes) xs)
  where
    by : (b : Bool) → tree_without_from (true ∷ nodes) (without_errors xs)
        ≡ without_errors (tree_without_from (true ∷ nodes) xs)
        → tree_without_from (false ∷ nodes) (without_errors xs)
        ≡ without_errors (tree_without_from (false ∷ nodes) xs)
        → (if b then tree_without_from (true ∷ nodes) (without_errors xs)
        else Enter kind ∷ tree_without_from (false ∷ nodes) (without_errors xs))
        ≡ without_errors (if b then tree_without_from (true ∷ nodes) xs
        else Enter kind ∷ tree_without_from (false ∷ nodes) xs)
    by true inside outside = inside
    by false inside outside = ap (λ ys. Enter kind ∷ ys) outside
errors_left_out nodes (Token kind start end ∷ xs) =
    ap (λ ys. Token kind start end ∷ ys) (errors_left_out nodes xs)
errors_left_out [] (Exit ∷ xs) = ap (λ ys. Exit ∷ ys) (errors_left_out [] xs)
errors_left_out (true ∷ nodes) (Exit ∷ xs) = errors_left_out nodes xs
errors_left_out (false ∷ nodes) (Exit ∷ xs) = ap (λ ys. Exit ∷ ys) (errors_left_out nodes xs)
errors_left_out nodes (Error number at ∷ xs) = errors_left_out nodes xs

numbers_stay : (nodes : List Bool) (at : ℕ) (xs : List StrStep)
    → numbers_at at (tree_without_from nodes xs) ≡ numbers_at at xs
numbers_stay nodes at [] = refl
numbers_stay nodes at (Enter kind ∷ xs) =
    either (λ ys. numbers_at at ys ≡ numbers_at at xs) (is_clause_node kind)
    (tree_without_from (true ∷ nodes) xs) (Enter kind ∷ tree_without_from (false ∷ nodes) xs)
    (numbers_stay (true ∷ nodes) at xs) (numbers_stay (false ∷ nodes) at xs)
numbers_stay nodes at (Token kind start end ∷ xs) = numbers_stay nodes at xs
numbers_stay [] at (Exit ∷ xs) = numbers_stay [] at xs
numbers_stay (true ∷ nodes) at (Exit ∷ xs) = numbers_stay nodes at xs
numbers_stay (false ∷ nodes) at (Exit ∷ xs) = numbers_stay nodes at xs
numbers_stay nodes at (Error number offset ∷ xs) =
    ap (λ all. if offset == at then number ∷ all else all) (numbers_stay nodes at xs)

errors_stay_from : (at : ℕ) (ts : List LexedToken) (xs : List StrStep)
    → errors_by_token at ts (tree_without_clauses xs) ≡ errors_by_token at ts xs
errors_stay_from at [] xs = ap (map (error at at)) (numbers_stay [] at xs)
errors_stay_from at (t ∷ ts) xs =
    ap (λ all. map (error at (at + t.len)) all ++ errors_at at t.faults
    ++ errors_by_token (at + t.len) ts (tree_without_clauses xs)) (numbers_stay [] at xs)
    ∙ ap (λ all. map (error at (at + t.len)) (numbers_at at xs) ++ errors_at at t.faults ++ all)
    (errors_stay_from (at + t.len) ts xs)

-- ---- the parse

pub tree_is_plain : TreeWithoutClauses
tree_is_plain d ts =
    let kinds = kinds_without_trivia ts in
    errors_left_out [] (weave ts (clauses d kinds))
    ∙ ap without_errors (weave_without d ts kinds)

pub errors_are_plain : ErrorsStay
errors_are_plain d ts =
    let kinds = kinds_without_trivia ts in
    sym (errors_stay_from 0 ts (weave ts (clauses d kinds)))
    ∙ ap (errors ts) (weave_without d ts kinds)
