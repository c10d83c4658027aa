-- The children of the root are those of the division.
use Rattle.std.proofs.Common.{◌≡◌, ℕ, zero, suc, ◌+◌, ◌-◌, ◌==◌, ◌≤◌, Bool, true, false, ◌&&◌, cond, List, [], ◌∷◌, ◌++◌, length, take, map, append_assoc, ap, refl, sym, ◌∙◌, arith}
use Rattle.std.proofs.lemmas.Bool.{eqb-true}
use Rattle.std.proofs.lemmas.List.{length-take-le, length-map}
use Rattle.std.specs.Prelude.{Option, Some, None, option_map}
use Rattle.squawk_events.specs.Kinds.{is_trivia_kind}
use Rattle.squawk_events.specs.declared.steps.Step.TheVariants.{Exit}
use Rattle.squawk_events.specs.declared.steps.StrStep.{StrStep}
use Rattle.squawk_events.specs.declared.steps.StrStep.TheVariants as out
use Rattle.squawk_tree.specs.Join.{woven_child}
use Rattle.squawk_tree.specs.ParseOf.{token_steps}
use Rattle.squawk_tree.specs.Steps.{Node, closes, root_children_from, root_children, root_child, only_tokens, without_errors}
use Rattle.squawk_lexed.specs.Weave.{kinds_without_trivia, weave_from, weave}
use Rattle.squawk_lexed.specs.LexedText.{total_len}
use Rattle.squawk_lexed.specs.LexedToken.{LexedToken, lexed_role}
use Rattle.squawk_kinds.specs.Role.{Role, is_trivia, Trivia, Semicolon, Terminator, Command, Open, Close, Other}
use Rattle.squawk_statements.specs.Children.{ends_statement, open_groups_after, statement_end, statement_to, trimmed_len, first_child, first_child_len, parts, parts_from, children, children_from}
use Rattle.squawk_tree.proofs.FirstPart.{rest_len, more, more_of, first_tokens}
use Rattle.squawk_kinds.specs.Role.{role}
use Rattle.squawk_statements.specs.Kinds.{role_trivia}
use Rattle.squawk_statements.specs.Plain.{node_of, unknown_statement_error, body_steps, child_steps, plain}
use Rattle.squawk_statements.specs.PlainIsLawful.{child_balanced, child_tokens}
use Rattle.squawk_statements.specs.declared.division.Division.{Division}
use Rattle.squawk_tree.proofs.Balanced.{closes_woven}
use Rattle.squawk_tree.proofs.CutLemmas.{trivia_role}
use Rattle.squawk_tree.proofs.JoinIsParse.{without_errors_append}
use Rattle.squawk_tree.specs.ChildSteps.{woven_children}
use Rattle.squawk_tree.proofs.JoinLemmas.{placed, node_woven, leaf_woven}
use Rattle.squawk_tree.proofs.LeavesLemmas.{leaves_woven, leaves_kept}

-- the number of tokens of a node, by the steps up to its `Exit`
inside : (d n : ℕ) (xs rest : List StrStep) → closes (suc d) xs ≡ true
    → root_children_from (suc d) n (xs ++ rest)
    ≡ Node (n + length (only_tokens xs)) ∷ root_children_from 0 0 rest
inside d n [] rest h = absurd (no d h)
  where
    no : (d : ℕ) → (suc d == 0) ≡ true → ⊥
    no d h = let e : suc d ≡ 0 = eqb-true (suc d) 0 h in omega arith
inside d n (out.Enter kind ∷ xs) rest h = inside (suc d) n xs rest h
inside d n (out.Token kind start end ∷ xs) rest h =
    inside d (n + 1) xs rest h ∙ ap (λ m. Node m
    ∷ root_children_from 0 0 rest) (let e : n + 1 + length (only_tokens xs)
    ≡ n + suc (length (only_tokens xs)) = omega arith in e)
inside zero n (out.Exit ∷ []) rest h =
    ap (λ m. Node m ∷ root_children_from 0 0 rest) (let e : n ≡ n + 0 = omega arith in e)
inside zero n (out.Exit ∷ x ∷ xs) rest h = absurd (cc)
inside (suc d) n (out.Exit ∷ xs) rest h = inside d n xs rest h
inside d n (out.Error number at ∷ xs) rest h = inside d n xs rest h

-- A trimmed list is no longer than the list, and a statement ends within it.
trimmed_len_le : (fs : List Role) → trimmed_len fs ≤ length fs
trimmed_len_le [] = omega arith
trimmed_len_le (f ∷ fs) = by (is_trivia f && trimmed_len fs == 0) (trimmed_len_le fs)
  where
    by : (b : Bool) → trimmed_len fs ≤ length fs → cond b 0 (suc (trimmed_len fs)) ≤ suc (length fs)
    by true h = omega arith
    by false h = omega arith

-- an index, if there is one, of at most n
Within : Option ℕ → ℕ → Type 0
Within None n = Unit {0}
Within (Some m) n = m ≤ n

-- a statement ends within its tokens, and has no more tokens than there are
statement_end_le : (d : Division) (g : ℕ) (fs : List Role)
    → Within (statement_end d g fs) (length fs)
unfolding Within
statement_end_le d g [] = tt
statement_end_le d g (f ∷ fs) =
    by (ends_statement d g f) (statement_end d (open_groups_after g f) fs)
    (statement_end_le d (open_groups_after g f) fs)
  where
    by : (b : Bool) (found : Option ℕ) → Within found (length fs)
        → Within (cond b (Some 1) (option_map suc found)) (suc (length fs))
    by true found h = omega arith
    by false None h = tt
    by false (Some m) h = omega arith

rest_len_le : (found : Option ℕ) (fs : List Role) → Within found (length fs)
    → rest_len found fs ≤ length fs
unfolding Within
rest_len_le None fs h = trimmed_len_le fs
rest_len_le (Some m) fs h = h

-- a child has no more tokens than there are
more_le : (d : Division) (f : Role) (fs : List Role) → more d f fs ≤ length fs
more_le d Trivia fs = omega arith
more_le d Semicolon fs = omega arith
more_le d Terminator fs = omega arith
more_le d Command fs = omega arith
more_le d Open fs = rest_len_le (statement_end d 1 fs) fs (statement_end_le d 1 fs)
more_le d Close fs = rest_len_le (statement_end d 0 fs) fs (statement_end_le d 0 fs)
more_le d Other fs = rest_len_le (statement_end d 0 fs) fs (statement_end_le d 0 fs)

-- a child whose first token is not trivia is a node
first_is_node : (d : Division) (f : Role) (fs : List Role) → is_trivia f ≡ false
    → (first_child d (f ∷ fs)).is_node ≡ true
first_is_node d f fs not_trivia = by f not_trivia
  where
    statement_node : (end : Option ℕ) (gs : List Role) → (statement_to end gs).is_node ≡ true
    statement_node None gs = refl
    statement_node (Some n) gs = refl

    by : (f : Role) → is_trivia f ≡ false → (first_child d (f ∷ fs)).is_node ≡ true
    by Trivia h = cc
    by Semicolon h = refl
    by Terminator h = refl
    by Command h = refl
    by Open h = statement_node (statement_end d 0 (Open ∷ fs)) (Open ∷ fs)
    by Close h = statement_node (statement_end d 0 (Close ∷ fs)) (Close ∷ fs)
    by Other h = statement_node (statement_end d 0 (Other ∷ fs)) (Other ∷ fs)

-- there are as many `Token` steps as tokens
pub length_token_steps : (at : ℕ) (ts : List LexedToken) → length (token_steps at ts) ≡ length ts
length_token_steps at [] = refl
length_token_steps at (t ∷ ts) = ap suc (length_token_steps (at + t.len) ts)

-- the first child in the tree, where it is a node
node_root : (d : Division) (at : ℕ) (t : LexedToken) (ts : List LexedToken) (rest : List StrStep)
    → is_trivia_kind t.kind ≡ false
    → root_children_from 0 0 (without_errors (woven_child d at (t ∷ ts)) ++ rest)
    ≡ Node (length (t ∷ ts)) ∷ root_children_from 0 0 rest
node_root d at t ts rest is =
    let ks = kinds_without_trivia (t ∷ ts) in
    let xs = unknown_statement_error (node_of ks) ++ body_steps d 0 ks ++ Exit ∷ [] in
    let inner = weave_from at (t ∷ ts) xs in
    let none : weave_from at (t ∷ ts) (child_steps d ks) ≡ out.Enter (node_of ks) ∷ inner =
    rw is refl in
    let tree : closes 1 (without_errors inner) ≡ true =
    closes_woven 0 at (t ∷ ts) xs (child_balanced d ks) in
    let count : length (only_tokens (without_errors inner)) ≡ length (t ∷ ts) =
    ap length (leaves_kept inner ∙ leaves_woven 0 at (t
    ∷ ts) xs (child_balanced d ks) (sym (child_tokens d ks))) ∙ length_token_steps at (t ∷ ts) in
    ap (λ zs. root_children_from 0 0 (without_errors zs ++ rest)) (node_woven d at t ts is ∙ none)
    ∙ inside 0 0 (without_errors inner) rest tree
    ∙ ap (λ m. Node m ∷ root_children_from 0 0 rest)
    (let e : 0 + length (only_tokens (without_errors inner))
    ≡ length (only_tokens (without_errors inner)) = omega arith in e ∙ count)

-- the first child in the tree
child_root : (d : Division) (at : ℕ) (t : LexedToken) (ts : List LexedToken) (rest : List StrStep)
    → root_children_from 0 0 (without_errors (woven_child d at (t
    ∷ take (more_of lexed_role d t ts) ts)) ++ rest)
    ≡ root_child (first_child d (map lexed_role (t ∷ ts))) ∷ root_children_from 0 0 rest
child_root d at t ts rest = by (is_trivia_kind t.kind) refl
  where
    by : (b : Bool) → is_trivia_kind t.kind ≡ b
        → root_children_from 0 0 (without_errors
        (woven_child d at (t ∷ take (more_of lexed_role d t ts) ts)) ++ rest)
        ≡ root_child (first_child d (map lexed_role (t ∷ ts)))
        ∷ root_children_from 0 0 rest
    by true is =
        ap (λ zs. root_children_from 0 0 (without_errors zs ++ rest))
        (leaf_woven d at t (take (more_of lexed_role d t ts) ts) is)
        ∙ ap (λ f. root_child (first_child d (f ∷ map lexed_role ts))
        ∷ root_children_from 0 0 rest) (sym (trivia_role (role t.kind) (role_trivia t.kind
        ∙ is)))
    by false is =
        let fs = map lexed_role ts in
        let all : length fs ≡ length ts = length-map ts lexed_role in
        let within = more_le d (role t.kind) fs in
        let taken : length (take (more_of lexed_role d t ts) ts) ≡ more_of lexed_role d t ts =
        length-take-le (more_of lexed_role d t ts) ts (omega arith) in
        let node = first_is_node d (role t.kind) fs (role_trivia t.kind ∙ is) in
        let size = first_tokens d (role t.kind) fs in
        let child : Node (length (t ∷ take (more_of lexed_role d t ts) ts))
        ≡ root_child (first_child d (map lexed_role (t ∷ ts))) =
        rw node (ap Node (let e : suc (length (take (more_of lexed_role d t ts) ts))
        ≡ (first_child d (map lexed_role (t ∷ ts))).tokens = omega arith in e)) in
        node_root d at t (take (more_of lexed_role d t ts) ts) rest is
        ∙ ap (λ c. c ∷ root_children_from 0 0 rest) child

-- the children of the root are those of the roles of the tokens: of a suffix, and of all tokens
placed_children : (d : Division) (skip at : ℕ) (ts : List LexedToken)
    → root_children_from 0 0 (without_errors (woven_children d at (parts_from lexed_role skip d ts))
    ++ out.Exit ∷ []) ≡ map root_child (children_from skip d (map lexed_role ts))
placed_children d zero at [] = refl
placed_children d (suc skip) at [] = refl
placed_children d (suc skip) at (t ∷ ts) = placed_children d skip at ts
placed_children d zero at (t ∷ ts) =
    let len = first_child_len lexed_role d (t ∷ ts) in
    let part = t ∷ take (more_of lexed_role d t ts) ts in
    let part_is : take len (t ∷ ts) ≡ part =
    ap (λ n. take n (t ∷ ts)) (first_tokens d (role t.kind) (map lexed_role ts)) in
    let next = at + total_len part in
    let others = woven_children d next (parts_from lexed_role (len - 1) d ts) in
    ap (λ p. root_children_from 0 0 (without_errors
    (woven_children d at (p ∷ parts_from lexed_role (len - 1) d ts)) ++ out.Exit ∷ [])) part_is
    ∙ ap (λ zs. root_children_from 0 0 (zs ++ out.Exit ∷ []))
    (without_errors_append (woven_child d at part) others)
    ∙ ap (root_children_from 0 0) (append_assoc (without_errors (woven_child d at part))
    (without_errors others) (out.Exit ∷ []))
    ∙ child_root d at t ts (without_errors others ++ out.Exit ∷ [])
    ∙ ap (λ cs. root_child (first_child d (map lexed_role (t ∷ ts)))
    ∷ cs) (placed_children d (len - 1) next ts)

pub root_children_woven : (d : Division) (ts : List LexedToken)
    → root_children (without_errors (weave ts (plain d (kinds_without_trivia ts))))
    ≡ map root_child (children d (map lexed_role ts))
root_children_woven d ts =
    ap (λ zs. root_children_from 0 0 (without_errors zs)) (placed (length ts) d 0 ts (omega arith))
    ∙ ap (root_children_from 0 0) (without_errors_append (woven_children d 0 (parts lexed_role d ts))
    (out.Exit ∷ []))
    ∙ placed_children d 0 0 ts

-- a first child has no more tokens than there are
pub more_within : (d : Division) (t : LexedToken) (ts : List LexedToken)
    → more_of lexed_role d t ts ≤ length ts
more_within d t ts =
    let within = more_le d (role t.kind) (map lexed_role ts) in
    let all : length (map lexed_role ts) ≡ length ts = length-map ts lexed_role in
    omega arith
