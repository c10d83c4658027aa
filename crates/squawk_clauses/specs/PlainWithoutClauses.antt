-- The steps of the clause grammar, without the nodes of clauses, are those of the plain grammar.
use Rattle.std.specs.Prelude.{◌≡◌, ℕ, zero, suc, ◌==◌, ◌||◌, Bool, true, false, List, [], ◌∷◌, ◌++◌, Option, Some, None, is_some, refl, if◌then◌else◌}
use Rattle.std.proofs.Common.{ap, sym, ◌∙◌, append_assoc}
use Rattle.std.proofs.lemmas.Bool.{eqb-true}
use Rattle.squawk_kinds.specs.Role.{Role, role, Trivia, Semicolon, Terminator, Command, Open, Close, Other}
use Rattle.squawk_kinds.specs.declared.numbers.TheConstants.Number as kind
use Rattle.squawk_events.specs.declared.steps.Step.{Step}
use Rattle.squawk_events.specs.declared.steps.Step.TheVariants.{Enter, Token, Exit, Error}
use Rattle.squawk_statements.specs.Children.{ends_statement, parts}
use Rattle.squawk_statements.specs.Plain.{plain, node_of, body_steps, exits, kind_steps, groups_open_after, unknown_statement_error, child_steps, children_by}
use Rattle.squawk_statements.specs.PlainIsLawful.{steps_by}
use Rattle.squawk_statements.specs.declared.division.Division.{Division}
use Rattle.squawk_statements.specs.declared.division.Division.TheVariants.{Flat, Grouped}
use Rattle.squawk_clauses.specs.Clauses.{clauses, clause_of, clause_child_steps, clause_end, clause_start, clause_rows, is_clause_node, in_clause_after, select_child_steps, select_kind_steps, select_steps}
use Rattle.squawk_clauses.specs.ClauseNodes.{clause_of_is_clause_node, is_clause_or_none, node_is_no_clause}
use Rattle.squawk_clauses.specs.Without.{without_clauses_from, without_clause_nodes}

-- n groups inside other nodes
abbrev pub with_groups : ℕ → List Bool → List Bool
with_groups zero nodes = nodes
with_groups (suc n) nodes = false ∷ with_groups n nodes

-- a clause, if one is open, inside other nodes
abbrev pub with_clause : Bool → List Bool → List Bool
with_clause true nodes = true ∷ nodes
with_clause false nodes = nodes

-- ---- groups and their tokens stay

-- the node of a group is none of a clause
group_is_no_clause : is_clause_node kind.PAREN_EXPR ≡ false
unfolding is_clause_node clause_rows
group_is_no_clause = refl

without_exits : (n : ℕ) (nodes : List Bool) (xs : List Step)
    → without_clauses_from (with_groups n nodes) (exits n ++ xs)
    ≡ exits n ++ without_clauses_from nodes xs
without_exits zero nodes xs = refl
without_exits (suc n) nodes xs = ap (λ ys. Exit ∷ ys) (without_exits n nodes xs)

without_ending : (n kind : ℕ) (nodes : List Bool) (xs : List Step)
    → without_clauses_from (with_groups n nodes) ((exits n ++ Token kind ∷ []) ++ xs)
    ≡ (exits n ++ Token kind ∷ []) ++ without_clauses_from nodes xs
without_ending n kind nodes xs =
    ap (without_clauses_from (with_groups n nodes)) (append_assoc (exits n) (Token kind ∷ []) xs)
    ∙ without_exits n nodes (Token kind ∷ xs)
    ∙ sym (append_assoc (exits n) (Token kind ∷ []) (without_clauses_from nodes xs))

without_kind : (d : Division) (n kind : ℕ) (f : Role) (nodes : List Bool) (xs : List Step)
    → without_clauses_from (with_groups n nodes) (steps_by d n kind f ++ xs)
    ≡ steps_by d n kind f ++ without_clauses_from (with_groups (groups_open_after d n f) nodes) xs
without_kind d n kind Trivia nodes xs = refl
without_kind Flat n kind Semicolon nodes xs = without_ending n kind nodes xs
without_kind Grouped zero kind Semicolon nodes xs = refl
without_kind Grouped (suc n) kind Semicolon nodes xs = refl
without_kind d n kind Terminator nodes xs = without_ending n kind nodes xs
without_kind d n kind Command nodes xs = refl
without_kind d n kind Open nodes xs = rw group_is_no_clause refl
without_kind d zero kind Close nodes xs = refl
without_kind d (suc n) kind Close nodes xs = refl
without_kind d n kind Other nodes xs = refl

without_body : (d : Division) (n : ℕ) (kinds : List ℕ) (nodes : List Bool) (xs : List Step)
    → without_clauses_from (with_groups n nodes) (body_steps d n kinds ++ xs)
    ≡ body_steps d n kinds ++ without_clauses_from nodes xs
without_body d n [] nodes xs = without_exits n nodes xs
without_body d n (kind ∷ kinds) nodes xs =
    let after = groups_open_after d n (role kind) in
    let rest = body_steps d after kinds in
    ap (without_clauses_from (with_groups n nodes)) (append_assoc (kind_steps d n kind) rest xs)
    ∙ without_kind d n kind (role kind) nodes (rest ++ xs)
    ∙ ap (λ ys. kind_steps d n kind ++ ys) (without_body d after kinds nodes xs)
    ∙ sym (append_assoc (kind_steps d n kind) rest (without_clauses_from nodes xs))

-- ---- clauses in a `SELECT` statement

-- the end of a clause is left out
without_end : (in_clause : Bool) (nodes : List Bool) (xs : List Step)
    → without_clauses_from (with_clause in_clause nodes) (clause_end in_clause ++ xs)
    ≡ without_clauses_from nodes xs
without_end true nodes xs = refl
without_end false nodes xs = refl

-- so is the start of a clause
without_start : (in_clause : Bool) (next_clause : Option ℕ) (nodes : List Bool) (xs : List Step)
    → is_clause_or_none next_clause ≡ true
    → without_clauses_from (with_clause in_clause nodes) (clause_start in_clause next_clause ++ xs)
    ≡ without_clauses_from (with_clause (in_clause || is_some next_clause) nodes) xs
without_start true None nodes xs h = refl
without_start false None nodes xs h = refl
without_start true (Some node) nodes xs h = rw h refl
without_start false (Some node) nodes xs h = rw h refl

without_start_in : (n kind : ℕ) (in_clause : Bool) (nodes : List Bool) (xs : List Step)
    → without_clauses_from (with_groups n (with_clause in_clause nodes))
    (clause_start in_clause (clause_of n kind) ++ xs)
    ≡ without_clauses_from (with_groups n (with_clause (in_clause
    || is_some (clause_of n kind)) nodes)) xs
without_start_in zero kind in_clause nodes xs =
    without_start in_clause (clause_of 0 kind) nodes xs (clause_of_is_clause_node 0 kind)
without_start_in (suc n) kind true nodes xs = refl
without_start_in (suc n) kind false nodes xs = refl

-- the steps of a kind of this role in a `SELECT` statement
abbrev pub select_steps_by : Division → Bool → ℕ → ℕ → Role → List Step
select_steps_by d in_clause n kind f =
    if ends_statement d n f then exits n ++ clause_end in_clause ++ Token kind ∷ []
    else clause_start in_clause (clause_of n kind) ++ steps_by d n kind f

-- whether a clause is open after a kind of this role
abbrev pub in_clause_by : Division → Bool → ℕ → ℕ → Role → Bool
in_clause_by d in_clause n kind f = if ends_statement d n f then false
    else in_clause || is_some (clause_of n kind)

without_select_ending : (n kind : ℕ) (in_clause : Bool) (nodes : List Bool) (xs : List Step)
    → without_clauses_from (with_groups n (with_clause in_clause nodes))
    ((exits n ++ clause_end in_clause ++ Token kind ∷ []) ++ xs)
    ≡ (exits n ++ Token kind ∷ []) ++ without_clauses_from nodes xs
without_select_ending n kind in_clause nodes xs =
    ap (without_clauses_from (with_groups n (with_clause in_clause nodes)))
    (append_assoc (exits n ++ clause_end in_clause) (Token kind ∷ []) xs
    ∙ append_assoc (exits n) (clause_end in_clause) (Token kind ∷ xs))
    ∙ without_exits n (with_clause in_clause nodes) (clause_end in_clause ++ Token kind ∷ xs)
    ∙ ap (λ ys. exits n ++ ys) (without_end in_clause nodes (Token kind ∷ xs))
    ∙ sym (append_assoc (exits n) (Token kind ∷ []) (without_clauses_from nodes xs))

without_select_other : (d : Division) (n kind : ℕ) (f : Role) (in_clause : Bool)
    (nodes : List Bool) (xs : List Step)
    → without_clauses_from (with_groups n (with_clause in_clause nodes))
    ((clause_start in_clause (clause_of n kind) ++ steps_by d n kind f) ++ xs)
    ≡ steps_by d n kind f ++ without_clauses_from (with_groups (groups_open_after d n f)
    (with_clause (in_clause || is_some (clause_of n kind)) nodes)) xs
without_select_other d n kind f in_clause nodes xs =
    ap (without_clauses_from (with_groups n (with_clause in_clause nodes)))
    (append_assoc (clause_start in_clause (clause_of n kind)) (steps_by d n kind f) xs)
    ∙ without_start_in n kind in_clause nodes (steps_by d n kind f ++ xs)
    ∙ without_kind d n kind f (with_clause (in_clause || is_some (clause_of n kind)) nodes) xs

without_select_kind : (d : Division) (n kind : ℕ) (f : Role) (in_clause : Bool)
    (nodes : List Bool) (xs : List Step)
    → without_clauses_from (with_groups n (with_clause in_clause nodes))
    (select_steps_by d in_clause n kind f ++ xs)
    ≡ steps_by d n kind f ++ without_clauses_from (with_groups (groups_open_after d n f)
    (with_clause (in_clause_by d in_clause n kind f) nodes)) xs
without_select_kind d n kind Trivia b nodes xs = without_select_other d n kind Trivia b nodes xs
without_select_kind Flat n kind Semicolon b nodes xs = without_select_ending n kind b nodes xs
without_select_kind Grouped zero kind Semicolon b nodes xs =
    without_select_ending 0 kind b nodes xs
without_select_kind Grouped (suc n) kind Semicolon b nodes xs =
    without_select_other Grouped (suc n) kind Semicolon b nodes xs
without_select_kind d n kind Terminator b nodes xs = without_select_ending n kind b nodes xs
without_select_kind d n kind Command b nodes xs = without_select_other d n kind Command b nodes xs
without_select_kind d n kind Open b nodes xs = without_select_other d n kind Open b nodes xs
without_select_kind d n kind Close b nodes xs = without_select_other d n kind Close b nodes xs
without_select_kind d n kind Other b nodes xs = without_select_other d n kind Other b nodes xs

without_select : (d : Division) (in_clause : Bool) (n : ℕ) (kinds : List ℕ) (nodes : List Bool)
    (xs : List Step)
    → without_clauses_from (with_groups n (with_clause in_clause nodes))
    (select_steps d in_clause n kinds ++ xs)
    ≡ body_steps d n kinds ++ without_clauses_from nodes xs
without_select d in_clause n [] nodes xs =
    ap (without_clauses_from (with_groups n (with_clause in_clause nodes)))
    (append_assoc (exits n) (clause_end in_clause) xs)
    ∙ without_exits n (with_clause in_clause nodes) (clause_end in_clause ++ xs)
    ∙ ap (λ ys. exits n ++ ys) (without_end in_clause nodes xs)
without_select d in_clause n (kind ∷ kinds) nodes xs =
    let after = groups_open_after d n (role kind) in
    let in_after = in_clause_after d in_clause n kind in
    let rest = select_steps d in_after after kinds in
    ap (without_clauses_from (with_groups n (with_clause in_clause nodes)))
    (append_assoc (select_kind_steps d in_clause n kind) rest xs)
    ∙ without_select_kind d n kind (role kind) in_clause nodes (rest ++ xs)
    ∙ ap (λ ys. kind_steps d n kind ++ ys) (without_select d in_after after kinds nodes xs)
    ∙ sym (append_assoc (kind_steps d n kind) (body_steps d after kinds)
    (without_clauses_from nodes xs))

-- ---- children

without_unknown : (b : Bool) (nodes : List Bool) (xs : List Step)
    → without_clauses_from nodes ((if b then Error 10 ∷ [] else []) ++ xs)
    ≡ (if b then Error 10 ∷ [] else []) ++ without_clauses_from nodes xs
without_unknown true nodes xs = refl
without_unknown false nodes xs = refl

-- a child whose node is this one
abbrev plain_child : Division → ℕ → List ℕ → List Step
plain_child d node kinds = Enter node ∷ unknown_statement_error node
    ++ body_steps d 0 kinds ++ Exit ∷ []

without_plain_child : (d : Division) (node : ℕ) (kinds : List ℕ) (nodes : List Bool)
    (xs : List Step) → is_clause_node node ≡ false
    → without_clauses_from nodes (plain_child d node kinds ++ xs)
    ≡ plain_child d node kinds ++ without_clauses_from nodes xs
without_plain_child d node kinds nodes xs no_clause =
    let inner = unknown_statement_error node in
    let body = body_steps d 0 kinds in
    let flat : (ys : List Step) → ((inner ++ body) ++ Exit ∷ []) ++ ys ≡ inner
    ++ (body ++ Exit ∷ ys) =
    (λ ys. append_assoc (inner ++ body) (Exit ∷ []) ys ∙ append_assoc inner body (Exit ∷ ys)) in
    rw no_clause
    (ap (λ ys. Enter node ∷ ys)
    (ap (without_clauses_from (false ∷ nodes)) (flat xs)
    ∙ without_unknown (node == kind.ERROR) (false ∷ nodes) (body ++ Exit ∷ xs)
    ∙ ap (λ zs. inner ++ zs) (without_body d 0 kinds (false ∷ nodes) (Exit ∷ xs))
    ∙ sym (flat (without_clauses_from nodes xs))))

-- a `SELECT` statement
select_is_no_clause : is_clause_node kind.SELECT ≡ false
unfolding is_clause_node clause_rows
select_is_no_clause = refl

without_select_child : (d : Division) (kinds : List ℕ) (nodes : List Bool) (xs : List Step)
    → without_clauses_from nodes (select_child_steps d kinds ++ xs)
    ≡ plain_child d kind.SELECT kinds ++ without_clauses_from nodes xs
without_select_child d kinds nodes xs =
    rw select_is_no_clause
    (ap (λ ys. Enter kind.SELECT ∷ ys)
    (ap (without_clauses_from (false ∷ nodes))
    (append_assoc (select_steps d false 0 kinds) (Exit ∷ []) xs)
    ∙ without_select d false 0 kinds (false ∷ nodes) (Exit ∷ xs)
    ∙ sym (append_assoc (body_steps d 0 kinds) (Exit ∷ []) (without_clauses_from nodes xs))))

pub without_child : (d : Division) (kinds : List ℕ) (nodes : List Bool) (xs : List Step)
    → without_clauses_from nodes (clause_child_steps d kinds ++ xs)
    ≡ child_steps d kinds ++ without_clauses_from nodes xs
without_child d kinds nodes xs =
    by (node_of kinds) (node_is_no_clause kinds) (node_of kinds == kind.SELECT) refl
  where
    by : (node : ℕ) → is_clause_node node ≡ false → (b : Bool) → (node == kind.SELECT) ≡ b
        → without_clauses_from nodes ((if b then select_child_steps d kinds
        else plain_child d node kinds) ++ xs)
        ≡ plain_child d node kinds ++ without_clauses_from nodes xs
    by node no_clause true is = rw (eqb-true node kind.SELECT is)
        (without_select_child d kinds nodes xs)
    by node no_clause false is = without_plain_child d node kinds nodes xs no_clause

without_children : (d : Division) (ps : List (List ℕ)) (nodes : List Bool) (xs : List Step)
    → without_clauses_from nodes (children_by (clause_child_steps d) ps ++ xs)
    ≡ children_by (child_steps d) ps ++ without_clauses_from nodes xs
without_children d [] nodes xs = refl
without_children d (p ∷ ps) nodes xs =
    ap (without_clauses_from nodes) (append_assoc (clause_child_steps d p)
    (children_by (clause_child_steps d) ps) xs)
    ∙ without_child d p nodes (children_by (clause_child_steps d) ps ++ xs)
    ∙ ap (λ ys. child_steps d p ++ ys) (without_children d ps nodes xs)
    ∙ sym (append_assoc (child_steps d p) (children_by (child_steps d) ps)
    (without_clauses_from nodes xs))

-- the steps of a list of kinds
root_is_no_clause : is_clause_node kind.SOURCE_FILE ≡ false
unfolding is_clause_node clause_rows
root_is_no_clause = refl

pub plain_without_clauses : (d : Division) (kinds : List ℕ)
    → without_clause_nodes (clauses d kinds) ≡ plain d kinds
plain_without_clauses d kinds =
    rw root_is_no_clause
    (ap (λ ys. Enter kind.SOURCE_FILE ∷ ys)
    (without_children d (parts role d kinds) (false ∷ []) (Exit ∷ [])))
