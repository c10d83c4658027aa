-- Where clauses stand among the steps of the clause grammar: each begins directly before a token,
-- inside a statement, and ends before a step that is no clause's.
use Rattle.std.proofs.Common.{◌≡◌, ℕ, zero, suc, ◌==◌, ◌||◌, ◌&&◌, not, Bool, true, false, List, [], ◌∷◌, ◌++◌, Option, Some, None, is_some, refl, ap, ◌∙◌, append_assoc, if◌then◌else◌}
use Rattle.std.proofs.lemmas.Bool.{and_parts, eqb-true}
use Rattle.squawk_kinds.specs.Role.{Role, role, is_other, Trivia, Semicolon, Terminator, Command, Open, Close, Other}
use Rattle.squawk_kinds.specs.declared.numbers.TheConstants.Number as kind
use Rattle.squawk_events.specs.declared.steps.Step.{Step}
use Rattle.squawk_events.specs.declared.steps.Step.TheVariants.{Enter, Token, Exit, Error}
use Rattle.squawk_lexed.specs.Weave.{is_empty}
use Rattle.squawk_statements.specs.Children.{parts}
use Rattle.squawk_statements.specs.Plain.{node_of, body_steps, exits, kind_steps, groups_open_after, unknown_statement_error, child_steps, children_by}
use Rattle.squawk_statements.specs.PlainIsLawful.{steps_by}
use Rattle.squawk_statements.specs.declared.division.Division.{Division}
use Rattle.squawk_statements.specs.declared.division.Division.TheVariants.{Flat, Grouped}
use Rattle.squawk_clauses.specs.Clauses.{ClauseRow, clause_in, clause_of, clause_child_steps, clause_end, clause_start, clause_rows, is_clause_node, in_clause_after, select_child_steps, select_kind_steps, select_steps}
use Rattle.squawk_clauses.specs.ClauseNodes.{clause_of_is_clause_node, is_clause_or_none, node_is_no_clause}
use Rattle.squawk_clauses.specs.PlainWithoutClauses.{with_groups, with_clause, select_steps_by, in_clause_by}
use Rattle.squawk_clauses.specs.Without.{without_clauses_from}

-- whether the first step is a token
abbrev pub begins_with_token : List Step → Bool
begins_with_token [] = false
begins_with_token (Enter kind ∷ xs) = false
begins_with_token (Token kind ∷ xs) = true
begins_with_token (Exit ∷ xs) = false
begins_with_token (Error number ∷ xs) = false

-- whether a child of the root is open, and maybe more, where these nodes are
abbrev pub is_in_child : List Bool → Bool
is_in_child [] = false
is_in_child (root ∷ []) = false
is_in_child (node ∷ root ∷ nodes) = true

-- whether each clause that begins in the steps, or ends there, does so where it should
abbrev pub stays : List Bool → List Step → Bool
stays nodes [] = true
stays nodes (Enter kind ∷ xs) = if is_clause_node kind
    then is_in_child nodes && (begins_with_token xs && stays (true ∷ nodes) xs)
    else stays (false ∷ nodes) xs
stays nodes (Token kind ∷ xs) = stays nodes xs
stays [] (Exit ∷ xs) = stays [] xs
stays (true ∷ nodes) (Exit ∷ xs) =
    not (is_empty (without_clauses_from nodes xs)) && stays nodes xs
stays (false ∷ nodes) (Exit ∷ xs) = stays nodes xs
stays nodes (Error number ∷ xs) = stays nodes xs

-- ---- groups and their tokens

group_is_no_clause : is_clause_node kind.PAREN_EXPR ≡ false
unfolding is_clause_node clause_rows
group_is_no_clause = refl

stays_exits : (n : ℕ) (nodes : List Bool) (xs : List Step)
    → stays (with_groups n nodes) (exits n ++ xs) ≡ stays nodes xs
stays_exits zero nodes xs = refl
stays_exits (suc n) nodes xs = stays_exits n nodes xs

stays_ending : (n kind : ℕ) (nodes : List Bool) (xs : List Step)
    → stays (with_groups n nodes) ((exits n ++ Token kind ∷ []) ++ xs) ≡ stays nodes xs
stays_ending n kind nodes xs =
    ap (stays (with_groups n nodes)) (append_assoc (exits n) (Token kind ∷ []) xs)
    ∙ stays_exits n nodes (Token kind ∷ xs)

stays_kind : (d : Division) (n kind : ℕ) (f : Role) (nodes : List Bool) (xs : List Step)
    → stays (with_groups n nodes) (steps_by d n kind f ++ xs)
    ≡ stays (with_groups (groups_open_after d n f) nodes) xs
stays_kind d n kind Trivia nodes xs = refl
stays_kind Flat n kind Semicolon nodes xs = stays_ending n kind nodes xs
stays_kind Grouped zero kind Semicolon nodes xs = refl
stays_kind Grouped (suc n) kind Semicolon nodes xs = refl
stays_kind d n kind Terminator nodes xs = stays_ending n kind nodes xs
stays_kind d n kind Command nodes xs = refl
stays_kind d n kind Open nodes xs = rw group_is_no_clause refl
stays_kind d zero kind Close nodes xs = refl
stays_kind d (suc n) kind Close nodes xs = refl
stays_kind d n kind Other nodes xs = refl

stays_body : (d : Division) (n : ℕ) (kinds : List ℕ) (nodes : List Bool) (xs : List Step)
    → stays (with_groups n nodes) (body_steps d n kinds ++ xs) ≡ stays nodes xs
stays_body d n [] nodes xs = stays_exits n nodes xs
stays_body d n (kind ∷ kinds) nodes xs =
    let after = groups_open_after d n (role kind) in
    let rest = body_steps d after kinds in
    ap (stays (with_groups n nodes)) (append_assoc (kind_steps d n kind) rest xs)
    ∙ stays_kind d n kind (role kind) nodes (rest ++ xs)
    ∙ stays_body d after kinds nodes xs

-- ---- the first token of a clause

-- whether no clause begins, or the role is that of a kind that may begin one
abbrev pub is_other_or_none : Role → Option ℕ → Bool
is_other_or_none f None = true
is_other_or_none f (Some node) = is_other f

-- whether each row has such a kind
abbrev have_other_kinds : List ClauseRow → Bool
have_other_kinds [] = true
have_other_kinds (row ∷ rows) = is_other (role row.0) && have_other_kinds rows

rows_have_other_kinds : have_other_kinds clause_rows ≡ true
unfolding clause_rows role
rows_have_other_kinds = refl

found_other : (rows : List ClauseRow) (k : ℕ) → have_other_kinds rows ≡ true
    → is_other_or_none (role k) (clause_in rows k) ≡ true
found_other [] k h = refl
found_other (row ∷ rows) k h =
    let parts = and_parts (is_other (role row.0)) (have_other_kinds rows) h in
    by (k == row.0) refl parts.0 (found_other rows k parts.1)
  where
    by : (b : Bool) → (k == row.0) ≡ b → is_other (role row.0) ≡ true
        → is_other_or_none (role k) (clause_in rows k) ≡ true
        → is_other_or_none (role k) (if b then Some row.1 else clause_in rows k) ≡ true
    by true same here later = rw (eqb-true k row.0 same) here
    by false same here later = later

pub clause_kind_is_other : (n k : ℕ) → is_other_or_none (role k) (clause_of n k) ≡ true
clause_kind_is_other zero k = found_other clause_rows k rows_have_other_kinds
clause_kind_is_other (suc n) k = refl

-- whether no clause begins, or the first of these steps is a token
abbrev begins_or_none : Option ℕ → List Step → Bool
begins_or_none None xs = true
begins_or_none (Some node) xs = begins_with_token xs

begins_by_role : (d : Division) (n kind : ℕ) (f : Role) (next_clause : Option ℕ) (xs : List Step)
    → is_other_or_none f next_clause ≡ true
    → begins_or_none next_clause (steps_by d n kind f ++ xs) ≡ true
begins_by_role d n kind f None xs h = refl
begins_by_role d n kind Trivia (Some node) xs h = absurd (cc h)
begins_by_role d n kind Semicolon (Some node) xs h = absurd (cc h)
begins_by_role d n kind Terminator (Some node) xs h = absurd (cc h)
begins_by_role d n kind Command (Some node) xs h = absurd (cc h)
begins_by_role d n kind Open (Some node) xs h = absurd (cc h)
begins_by_role d n kind Close (Some node) xs h = absurd (cc h)
begins_by_role d n kind Other (Some node) xs h = refl

-- ---- clauses; a `SELECT` statement is open, and the root

stays_start : (in_clause : Bool) (next_clause : Option ℕ) (nodes : List Bool) (xs : List Step)
    → is_clause_or_none next_clause ≡ true → begins_or_none next_clause xs ≡ true
    → stays (with_clause in_clause (false ∷ false ∷ nodes))
    (clause_start in_clause next_clause ++ xs)
    ≡ stays (with_clause (in_clause || is_some next_clause) (false ∷ false ∷ nodes)) xs
stays_start true None nodes xs h t = refl
stays_start false None nodes xs h t = refl
stays_start true (Some node) nodes (Token kind ∷ xs) h t = rw h refl
stays_start false (Some node) nodes (Token kind ∷ xs) h t = rw h refl
stays_start in_clause (Some node) nodes [] h t = absurd (cc t)
stays_start in_clause (Some node) nodes (Enter kind ∷ xs) h t = absurd (cc t)
stays_start in_clause (Some node) nodes (Exit ∷ xs) h t = absurd (cc t)
stays_start in_clause (Some node) nodes (Error number ∷ xs) h t = absurd (cc t)

stays_start_in : (n kind : ℕ) (in_clause : Bool) (nodes : List Bool) (xs : List Step)
    → begins_or_none (clause_of n kind) xs ≡ true
    → stays (with_groups n (with_clause in_clause (false ∷ false ∷ nodes)))
    (clause_start in_clause (clause_of n kind) ++ xs)
    ≡ stays (with_groups n (with_clause (in_clause || is_some (clause_of n kind))
    (false ∷ false ∷ nodes))) xs
stays_start_in zero kind in_clause nodes xs t =
    stays_start in_clause (clause_of 0 kind) nodes xs (clause_of_is_clause_node 0 kind) t
stays_start_in (suc n) kind true nodes xs t = refl
stays_start_in (suc n) kind false nodes xs t = refl

stays_other : (d : Division) (n kind : ℕ) (f : Role) (in_clause : Bool) (nodes : List Bool)
    (xs : List Step) → is_other_or_none f (clause_of n kind) ≡ true
    → stays (with_groups n (with_clause in_clause (false ∷ false ∷ nodes)))
    ((clause_start in_clause (clause_of n kind) ++ steps_by d n kind f) ++ xs)
    ≡ stays (with_groups (groups_open_after d n f)
    (with_clause (in_clause || is_some (clause_of n kind)) (false ∷ false ∷ nodes))) xs
stays_other d n kind f in_clause nodes xs other =
    ap (stays (with_groups n (with_clause in_clause (false ∷ false ∷ nodes))))
    (append_assoc (clause_start in_clause (clause_of n kind)) (steps_by d n kind f) xs)
    ∙ stays_start_in n kind in_clause nodes (steps_by d n kind f ++ xs)
    (begins_by_role d n kind f (clause_of n kind) xs other)
    ∙ stays_kind d n kind f (with_clause (in_clause || is_some (clause_of n kind))
    (false ∷ false ∷ nodes)) xs

-- the end of a clause before a step that stays
stays_end : (in_clause : Bool) (nodes : List Bool) (xs : List Step)
    → is_empty (without_clauses_from nodes xs) ≡ false
    → stays (with_clause in_clause nodes) (clause_end in_clause ++ xs) ≡ stays nodes xs
stays_end true nodes xs more = rw more refl
stays_end false nodes xs more = refl

stays_select_ending : (n kind : ℕ) (in_clause : Bool) (nodes : List Bool) (xs : List Step)
    → stays (with_groups n (with_clause in_clause nodes))
    ((exits n ++ clause_end in_clause ++ Token kind ∷ []) ++ xs) ≡ stays nodes xs
stays_select_ending n kind in_clause nodes xs =
    ap (stays (with_groups n (with_clause in_clause nodes)))
    (append_assoc (exits n ++ clause_end in_clause) (Token kind ∷ []) xs
    ∙ append_assoc (exits n) (clause_end in_clause) (Token kind ∷ xs))
    ∙ stays_exits n (with_clause in_clause nodes) (clause_end in_clause ++ Token kind ∷ xs)
    ∙ stays_end in_clause nodes (Token kind ∷ xs) refl

stays_select_kind : (d : Division) (n kind : ℕ) (f : Role) (in_clause : Bool)
    (nodes : List Bool) (xs : List Step) → is_other_or_none f (clause_of n kind) ≡ true
    → stays (with_groups n (with_clause in_clause (false ∷ false ∷ nodes)))
    (select_steps_by d in_clause n kind f ++ xs)
    ≡ stays (with_groups (groups_open_after d n f)
    (with_clause (in_clause_by d in_clause n kind f) (false ∷ false ∷ nodes))) xs
stays_select_kind d n kind Trivia b nodes xs h = stays_other d n kind Trivia b nodes xs h
stays_select_kind Flat n kind Semicolon b nodes xs h =
    stays_select_ending n kind b (false ∷ false ∷ nodes) xs
stays_select_kind Grouped zero kind Semicolon b nodes xs h =
    stays_select_ending 0 kind b (false ∷ false ∷ nodes) xs
stays_select_kind Grouped (suc n) kind Semicolon b nodes xs h =
    stays_other Grouped (suc n) kind Semicolon b nodes xs h
stays_select_kind d n kind Terminator b nodes xs h =
    stays_select_ending n kind b (false ∷ false ∷ nodes) xs
stays_select_kind d n kind Command b nodes xs h = stays_other d n kind Command b nodes xs h
stays_select_kind d n kind Open b nodes xs h = stays_other d n kind Open b nodes xs h
stays_select_kind d n kind Close b nodes xs h = stays_other d n kind Close b nodes xs h
stays_select_kind d n kind Other b nodes xs h = stays_other d n kind Other b nodes xs h

stays_select : (d : Division) (in_clause : Bool) (n : ℕ) (kinds : List ℕ) (nodes : List Bool)
    (xs : List Step)
    → stays (with_groups n (with_clause in_clause (false ∷ false ∷ nodes)))
    (select_steps d in_clause n kinds ++ Exit ∷ xs) ≡ stays (false ∷ nodes) xs
stays_select d in_clause n [] nodes xs =
    ap (stays (with_groups n (with_clause in_clause (false ∷ false ∷ nodes))))
    (append_assoc (exits n) (clause_end in_clause) (Exit ∷ xs))
    ∙ stays_exits n (with_clause in_clause (false ∷ false ∷ nodes))
    (clause_end in_clause ++ Exit ∷ xs)
    ∙ stays_end in_clause (false ∷ false ∷ nodes) (Exit ∷ xs) refl
stays_select d in_clause n (kind ∷ kinds) nodes xs =
    let after = groups_open_after d n (role kind) in
    let in_after = in_clause_after d in_clause n kind in
    let rest = select_steps d in_after after kinds in
    ap (stays (with_groups n (with_clause in_clause (false ∷ false ∷ nodes))))
    (append_assoc (select_kind_steps d in_clause n kind) rest (Exit ∷ xs))
    ∙ stays_select_kind d n kind (role kind) in_clause nodes (rest ++ Exit ∷ xs)
    (clause_kind_is_other n kind)
    ∙ stays_select d in_after after kinds nodes xs

-- ---- children of the root

stays_unknown : (b : Bool) (nodes : List Bool) (xs : List Step)
    → stays nodes ((if b then Error 10 ∷ [] else []) ++ xs) ≡ stays nodes xs
stays_unknown true nodes xs = refl
stays_unknown false nodes xs = refl

stays_plain_child : (d : Division) (kinds : List ℕ) (nodes : List Bool) (xs : List Step)
    → stays nodes (child_steps d kinds ++ xs) ≡ stays nodes xs
stays_plain_child d kinds nodes xs =
    let inner = unknown_statement_error (node_of kinds) in
    let body = body_steps d 0 kinds in
    rw (node_is_no_clause kinds)
    (ap (stays (false ∷ nodes)) (append_assoc (inner ++ body) (Exit ∷ []) xs
    ∙ append_assoc inner body (Exit ∷ xs))
    ∙ stays_unknown (node_of kinds == kind.ERROR) (false ∷ nodes) (body ++ Exit ∷ xs)
    ∙ stays_body d 0 kinds (false ∷ nodes) (Exit ∷ xs))

select_is_no_clause : is_clause_node kind.SELECT ≡ false
unfolding is_clause_node clause_rows
select_is_no_clause = refl

stays_select_child : (d : Division) (kinds : List ℕ) (nodes : List Bool) (xs : List Step)
    → stays (false ∷ nodes) (select_child_steps d kinds ++ xs) ≡ stays (false ∷ nodes) xs
stays_select_child d kinds nodes xs =
    rw select_is_no_clause
    (ap (stays (false ∷ false ∷ nodes)) (append_assoc (select_steps d false 0 kinds) (Exit ∷ []) xs)
    ∙ stays_select d false 0 kinds nodes xs)

stays_child : (d : Division) (kinds : List ℕ) (nodes : List Bool) (xs : List Step)
    → stays (false ∷ nodes) (clause_child_steps d kinds ++ xs) ≡ stays (false ∷ nodes) xs
stays_child d kinds nodes xs = by (node_of kinds == kind.SELECT)
  where
    by : (b : Bool) → stays (false ∷ nodes) ((if b then select_child_steps d kinds
        else child_steps d kinds) ++ xs) ≡ stays (false ∷ nodes) xs
    by true = stays_select_child d kinds nodes xs
    by false = stays_plain_child d kinds (false ∷ nodes) xs

stays_children : (d : Division) (ps : List (List ℕ)) (nodes : List Bool) (xs : List Step)
    → stays (false ∷ nodes) (children_by (clause_child_steps d) ps ++ xs) ≡ stays (false ∷ nodes) xs
stays_children d [] nodes xs = refl
stays_children d (p ∷ ps) nodes xs =
    ap (stays (false ∷ nodes)) (append_assoc (clause_child_steps d p)
    (children_by (clause_child_steps d) ps) xs)
    ∙ stays_child d p nodes (children_by (clause_child_steps d) ps ++ xs)
    ∙ stays_children d ps nodes xs

-- what stands in the root
pub children_stay : (d : Division) (kinds : List ℕ)
    → stays (false ∷ []) (children_by (clause_child_steps d) (parts role d kinds) ++ Exit ∷ [])
    ≡ true
children_stay d kinds = stays_children d (parts role d kinds) [] (Exit ∷ [])
