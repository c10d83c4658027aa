-- The children of the root are the same with the nodes of clauses as without them, since each
-- clause is inside a child.
use Rattle.std.proofs.Common.{◌≡◌, ℕ, suc, ◌+◌, ◌&&◌, Bool, true, false, List, [], ◌∷◌, ◌++◌, refl, ap, sym, ◌∙◌, append_assoc, if◌then◌else◌}
use Rattle.std.proofs.lemmas.Bool.{and_parts}
use Rattle.squawk_events.specs.Kinds.{is_trivia_kind}
use Rattle.squawk_events.specs.declared.steps.Step.{Step}
use Rattle.squawk_events.specs.declared.steps.Step.TheVariants as step
use Rattle.squawk_events.specs.declared.steps.StrStep.{StrStep}
use Rattle.squawk_events.specs.declared.steps.StrStep.TheVariants.{Enter, Token, Exit, Error}
use Rattle.squawk_kinds.specs.Role.{role}
use Rattle.squawk_kinds.specs.declared.numbers.TheConstants.Number as kind
use Rattle.squawk_lexed.specs.LexedToken.{LexedToken}
use Rattle.squawk_lexed.specs.Weave.{after_leading_trivia, is_empty, kinds_without_trivia, leading_trivia, leading_trivia_end, next_len, offset_after_step, tokens_after_step, weave_from, weave_step}
use Rattle.squawk_statements.specs.Children.{parts}
use Rattle.squawk_statements.specs.Plain.{children_by}
use Rattle.squawk_tree.specs.Steps.{Leaf, Node, root_children, root_children_from, without_errors}
use Rattle.squawk_clauses.specs.Clauses.{clause_rows, is_clause_node, clause_child_steps}
use Rattle.squawk_clauses.specs.Laws.{RootChildrenStay}
use Rattle.squawk_clauses.specs.TreeWithout.{tree_without_from, tree_without_clauses}
use Rattle.squawk_clauses.proofs.Stays.{begins_with_token, children_stay, is_in_child, stays}
use Rattle.squawk_clauses.proofs.TreeWithout.{tree_is_plain}

-- whether each clause that begins in the steps begins in a child of the root
abbrev clauses_in_children : List Bool → List StrStep → Bool
clauses_in_children nodes [] = true
clauses_in_children nodes (Enter kind ∷ xs) = if is_clause_node kind
    then is_in_child nodes && clauses_in_children (true ∷ nodes) xs
    else clauses_in_children (false ∷ nodes) xs
clauses_in_children nodes (Token kind start end ∷ xs) = clauses_in_children nodes xs
clauses_in_children [] (Exit ∷ xs) = clauses_in_children [] xs
clauses_in_children (node ∷ nodes) (Exit ∷ xs) = clauses_in_children nodes xs
clauses_in_children nodes (Error number at ∷ xs) = clauses_in_children nodes xs

-- ---- in the weave they do

trivia_in_children : (nodes : List Bool) (at : ℕ) (ts : List LexedToken) (xs : List StrStep)
    → clauses_in_children nodes (leading_trivia at ts ++ xs) ≡ clauses_in_children nodes xs
trivia_in_children nodes at [] xs = refl
trivia_in_children nodes at (t ∷ ts) xs =
    by (is_trivia_kind t.kind) (trivia_in_children nodes (at + t.len) ts xs)
  where
    by : (b : Bool) → clauses_in_children nodes (leading_trivia (at + t.len) ts ++ xs)
        ≡ clauses_in_children nodes xs
        → clauses_in_children nodes ((if b then Token t.kind at (at + t.len)
        ∷ leading_trivia (at + t.len) ts else []) ++ xs) ≡ clauses_in_children nodes xs
    by true rest = rest
    by false rest = refl

-- a step with the trivia before it
step_in_children : (nodes : List Bool) (at : ℕ) (ts : List LexedToken) (x : StrStep)
    (xs : List StrStep)
    → clauses_in_children nodes ((leading_trivia at ts ++ x ∷ []) ++ xs)
    ≡ clauses_in_children nodes (x ∷ xs)
step_in_children nodes at ts x xs =
    ap (clauses_in_children nodes) (append_assoc (leading_trivia at ts) (x ∷ []) xs)
    ∙ trivia_in_children nodes at ts (x ∷ xs)

exit_in_children : (last : Bool) (nodes : List Bool) (at : ℕ) (ts : List LexedToken)
    (xs : List StrStep)
    → clauses_in_children nodes (weave_step last at ts step.Exit ++ xs)
    ≡ clauses_in_children nodes (Exit ∷ xs)
exit_in_children true nodes at ts xs = step_in_children nodes at ts Exit xs
exit_in_children false nodes at ts xs = refl

abbrev WeaveInChildren : List Step → Type 0
WeaveInChildren xs = (nodes : List Bool) (at : ℕ) (ts : List LexedToken) → stays nodes xs ≡ true
    → clauses_in_children nodes (weave_from at ts xs) ≡ true

weave_in_children : (xs : List Step) → WeaveInChildren xs
weave_in_children [] nodes at ts h = refl
weave_in_children (step.Token kind ∷ xs) nodes at ts h =
    let end = leading_trivia_end at ts in
    let next = end + next_len (after_leading_trivia ts) in
    step_in_children nodes at ts (Token kind end next) _
    ∙ weave_in_children xs nodes next (tokens_after_step true ts (step.Token kind)) h
weave_in_children (step.Error number ∷ xs) nodes at ts h = weave_in_children xs nodes at ts h
weave_in_children (step.Exit ∷ xs) [] at ts h =
    exit_in_children (is_empty xs) [] at ts _
    ∙ weave_in_children xs [] (offset_after_step (is_empty xs) at ts step.Exit)
    (tokens_after_step (is_empty xs) ts step.Exit) h
weave_in_children (step.Exit ∷ xs) (false ∷ nodes) at ts h =
    exit_in_children (is_empty xs) (false ∷ nodes) at ts _
    ∙ weave_in_children xs nodes (offset_after_step (is_empty xs) at ts step.Exit)
    (tokens_after_step (is_empty xs) ts step.Exit) h
weave_in_children (step.Exit ∷ xs) (true ∷ nodes) at ts h =
    exit_in_children (is_empty xs) (true ∷ nodes) at ts _
    ∙ weave_in_children xs nodes (offset_after_step (is_empty xs) at ts step.Exit)
    (tokens_after_step (is_empty xs) ts step.Exit) (and_parts _ (stays nodes xs) h).1
weave_in_children (step.Enter node ∷ xs) nodes at ts h =
    let end = leading_trivia_end at ts in
    let after = after_leading_trivia ts in
    step_in_children nodes at ts (Enter node) (weave_from end after xs)
    ∙ by (is_clause_node node) h (λ outer. weave_in_children xs outer end after)
  where
    by : (b : Bool) → (if b then is_in_child nodes && (begins_with_token xs
        && stays (true ∷ nodes) xs) else stays (false ∷ nodes) xs) ≡ true
        → ((outer : List Bool) → stays outer xs ≡ true → clauses_in_children outer
        (weave_from (leading_trivia_end at ts) (after_leading_trivia ts) xs) ≡ true)
        → (if b then is_in_child nodes && clauses_in_children (true ∷ nodes)
        (weave_from (leading_trivia_end at ts) (after_leading_trivia ts) xs)
        else clauses_in_children (false ∷ nodes)
        (weave_from (leading_trivia_end at ts) (after_leading_trivia ts) xs)) ≡ true
    by false h rest = rest (false ∷ nodes) h
    by true h rest =
        let parts = and_parts (is_in_child nodes) (begins_with_token xs
        && stays (true ∷ nodes) xs) h in
        rw parts.0 (rest (true ∷ nodes)
        (and_parts (begins_with_token xs) (stays (true ∷ nodes) xs) parts.1).1)

errors_in_children : (nodes : List Bool) (xs : List StrStep)
    → clauses_in_children nodes (without_errors xs) ≡ clauses_in_children nodes xs
errors_in_children nodes [] = refl
errors_in_children nodes (Enter kind ∷ xs) =
    ap (λ b. if is_clause_node kind then is_in_child nodes && b
    else clauses_in_children (false ∷ nodes) (without_errors xs))
    (errors_in_children (true ∷ nodes) xs)
    ∙ ap (λ b. if is_clause_node kind
    then is_in_child nodes && clauses_in_children (true ∷ nodes) xs else b)
    (errors_in_children (false ∷ nodes) xs)
errors_in_children nodes (Token kind start end ∷ xs) = errors_in_children nodes xs
errors_in_children [] (Exit ∷ xs) = errors_in_children [] xs
errors_in_children (node ∷ nodes) (Exit ∷ xs) = errors_in_children nodes xs
errors_in_children nodes (Error number at ∷ xs) = errors_in_children nodes xs

-- ---- the children of the root

-- nodes inside a child of the root, with that child and the root
abbrev in_child : List Bool → List Bool
in_child [] = false ∷ false ∷ []
in_child (node ∷ nodes) = node ∷ in_child nodes

-- the number of nodes, and of those that are no clauses
abbrev depth : List Bool → ℕ
depth [] = 0
depth (node ∷ nodes) = suc (depth nodes)

abbrev plain_depth : List Bool → ℕ
plain_depth [] = 0
plain_depth (true ∷ nodes) = plain_depth nodes
plain_depth (false ∷ nodes) = suc (plain_depth nodes)

-- the children of the root that steps in the root have, and those of steps inside a child
record SameRoots (xs : List StrStep) : Type 0 where
  root : (n : ℕ) → clauses_in_children (false ∷ []) xs ≡ true
      → root_children_from 0 n xs
      ≡ root_children_from 0 n (tree_without_from (false ∷ []) xs)
  child : (n : ℕ) (nodes : List Bool) → clauses_in_children (in_child nodes) xs ≡ true
      → root_children_from (suc (depth nodes)) n xs
      ≡ root_children_from (suc (plain_depth nodes)) n (tree_without_from (in_child nodes) xs)

same_enter : (kind : ℕ) (xs : List StrStep) → SameRoots xs → SameRoots (Enter kind ∷ xs)
same_enter kind xs same = record {
  root = λ n. root_by n (is_clause_node kind);
  child = λ n nodes. child_by n nodes (is_clause_node kind);
}
  where
    root_by : (n : ℕ) (b : Bool)
        → (if b then false && clauses_in_children (true ∷ false ∷ []) xs
        else clauses_in_children (false ∷ false ∷ []) xs) ≡ true
        → root_children_from 1 0 xs
        ≡ root_children_from 0 n (if b then tree_without_from (true ∷ false ∷ []) xs
        else Enter kind ∷ tree_without_from (false ∷ false ∷ []) xs)
    root_by n true h = absurd (cc h)
    root_by n false h = same.child 0 [] h

    child_by : (n : ℕ) (nodes : List Bool) (b : Bool)
        → (if b then is_in_child (in_child nodes)
        && clauses_in_children (true ∷ in_child nodes) xs
        else clauses_in_children (false ∷ in_child nodes) xs) ≡ true
        → root_children_from (suc (suc (depth nodes))) n xs
        ≡ root_children_from (suc (plain_depth nodes)) n
        (if b then tree_without_from (true ∷ in_child nodes) xs
        else Enter kind ∷ tree_without_from (false ∷ in_child nodes) xs)
    child_by n nodes true h = same.child n (true ∷ nodes)
        (and_parts (is_in_child (in_child nodes))
        (clauses_in_children (true ∷ in_child nodes) xs) h).1
    child_by n nodes false h = same.child n (false ∷ nodes) h

same_exit : (xs : List StrStep) → SameRoots xs → SameRoots (Exit ∷ xs)
same_exit xs same = record {
  root = λ n h. refl;
  child = λ n nodes. child_by n nodes;
}
  where
    child_by : (n : ℕ) (nodes : List Bool) → clauses_in_children (in_child nodes) (Exit ∷ xs) ≡ true
        → root_children_from (suc (depth nodes)) n (Exit ∷ xs)
        ≡ root_children_from (suc (plain_depth nodes)) n
        (tree_without_from (in_child nodes) (Exit ∷ xs))
    child_by n [] h = ap (λ all. Node n ∷ all) (same.root 0 h)
    child_by n (true ∷ nodes) h = same.child n nodes h
    child_by n (false ∷ nodes) h = same.child n nodes h

same_roots : (xs : List StrStep) → SameRoots xs
same_roots [] = record { root = λ n h. refl; child = λ n nodes h. refl }
same_roots (Enter kind ∷ xs) = same_enter kind xs (same_roots xs)
same_roots (Token kind start end ∷ xs) = record {
  root = λ n h. ap (λ all. Leaf ∷ all) ((same_roots xs).root 0 h);
  child = λ n nodes h. (same_roots xs).child (n + 1) nodes h;
}
same_roots (Exit ∷ xs) = same_exit xs (same_roots xs)
same_roots (Error number at ∷ xs) = record {
  root = λ n h. (same_roots xs).root 0 h;
  child = λ n nodes h. (same_roots xs).child n nodes h;
}

root_is_no_clause : is_clause_node kind.SOURCE_FILE ≡ false
unfolding is_clause_node clause_rows
root_is_no_clause = refl

pub root_children_stay : RootChildrenStay
root_children_stay d ts =
    let kinds = kinds_without_trivia ts in
    let inner = children_by (clause_child_steps d) (parts role d kinds) ++ step.Exit ∷ [] in
    let steps = without_errors (weave_from 0 ts inner) in
    let alike : root_children (tree_without_clauses (Enter kind.SOURCE_FILE ∷ steps))
    ≡ root_children_from 0 0 (tree_without_from (false ∷ []) steps) = rw root_is_no_clause refl in
    (same_roots steps).root 0 (errors_in_children (false ∷ []) (weave_from 0 ts inner)
    ∙ weave_in_children inner (false ∷ []) 0 ts (children_stay d kinds))
    ∙ sym alike ∙ ap root_children (tree_is_plain d ts)
