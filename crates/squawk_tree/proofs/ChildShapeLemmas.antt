-- The steps of a child by its shape are its woven steps.
use Rattle.std.proofs.Common.{◌≡◌, ℕ, zero, suc, ◌+◌, ◌-◌, ◌==◌, ◌<◌, ◌≤◌, Bool, true, false, not, ◌&&◌, cond, List, [], ◌∷◌, ◌++◌, length, take, drop, map, append_assoc, refl, ap, sym, subst, ◌∙◌, arith}
use Rattle.std.proofs.lemmas.List.{take-append-drop, take-append-le, drop-append-le, length-append, take_all, drop_all}
use Rattle.std.specs.Prelude.{Option, Some, None, option_map, unwrap_or}
use Rattle.squawk_events.specs.Kinds.{is_trivia_kind, without_trivia}
use Rattle.squawk_events.specs.declared.steps.Step.{Step}
use Rattle.squawk_events.specs.declared.steps.Step.TheVariants.{Exit, Error}
use Rattle.squawk_events.specs.declared.steps.StrStep.TheVariants as out
use Rattle.squawk_kinds.specs.Role.{Role, role, is_trivia, Trivia, Semicolon, Terminator, Command, Open, Close, Other}
use Rattle.squawk_kinds.specs.declared.numbers.TheConstants.Number.{ERROR}
use Rattle.squawk_lexed.specs.LexedText.{total_len}
use Rattle.squawk_lexed.specs.LexedToken.{LexedToken, lexed_role}
use Rattle.squawk_lexed.specs.Stored.{kinds_of}
use Rattle.squawk_lexed.specs.Weave.{kinds_without_trivia, weave_from}
use Rattle.squawk_statements.specs.Children.{ends_statement, open_groups_after, is_single_token, statement_end, statement_to, statement, first_child, trimmed_len, Child, trivia_child, single_token}
use Rattle.squawk_statements.specs.First.{node_by, child_node, first_shape}
use Rattle.squawk_statements.specs.Groups.{stays_open}
use Rattle.squawk_statements.specs.Kinds.{role_trivia}
use Rattle.squawk_statements.specs.Laws.{groups_left_open}
use Rattle.squawk_statements.specs.Plain.{node_of, body_steps, unknown_statement_error}
use Rattle.squawk_statements.specs.declared.division.Division.{Division}
use Rattle.squawk_statements.specs.declared.first.ChildShape.{ChildShape}
use Rattle.squawk_tree.specs.ChildSteps.{nested_steps, unknown_error, body_len, steps_of_node, node_steps, child_steps_by, steps_of_shape}
use Rattle.squawk_tree.specs.Join.{woven_child}
use Rattle.squawk_tree.specs.ParseOf.{token_steps}
use Rattle.squawk_tree.proofs.ChildBodyLemmas.{kept_other, enter_first, open_prefix, open_woven, closed_woven, alone_woven}
use Rattle.squawk_tree.proofs.ChildTokenLemmas.{kinds_take, kinds_roles}
use Rattle.squawk_tree.proofs.CutLemmas.{trivia_role, is_trimmed, is_trimmed_any, trimmed_cut, not_zero}
use Rattle.squawk_tree.proofs.JoinLemmas.{node_woven, leaf_woven}

-- ---- where a statement ends

-- the first n tokens are some that do not end the statement, and one that does
record EndsAt (d : Division) (groups : ℕ) (ts : List LexedToken) (n : ℕ) : Type 0 where
  inner : List LexedToken
  last : LexedToken
  part : take n ts ≡ inner ++ last ∷ []
  stays : stays_open d groups (kinds_of inner) ≡ true
  ends : ends_statement d (groups_left_open groups (map lexed_role inner)) (role last.kind) ≡ true

-- tokens that end a statement after n of them, or do not
abbrev EndOf : Division → ℕ → List LexedToken → Option ℕ → Type 0
EndOf d groups ts None = stays_open d groups (kinds_of ts) ≡ true
EndOf d groups ts (Some n) = EndsAt d groups ts n

end_of : (d : Division) (groups : ℕ) (ts : List LexedToken)
    → EndOf d groups ts (statement_end d groups (map lexed_role ts))
end_of d groups [] = refl
end_of d groups (t ∷ ts) =
    by (ends_statement d groups (role t.kind)) refl
    (end_of d (open_groups_after groups (role t.kind)) ts)
  where
    later : (end : Option ℕ) → ends_statement d groups (role t.kind) ≡ false
        → EndOf d (open_groups_after groups (role t.kind)) ts end
        → EndOf d groups (t ∷ ts) (option_map suc end)
    later None is stays = rw is stays
    later (Some n) is rest = record {
      inner = t ∷ rest.inner;
      last = rest.last;
      part = ap (λ us. t ∷ us) rest.part;
      stays = rw is rest.stays;
      ends = rest.ends;
    }

    by : (b : Bool) → ends_statement d groups (role t.kind) ≡ b
        → EndOf d (open_groups_after groups (role t.kind)) ts
        (statement_end d (open_groups_after groups (role t.kind)) (map lexed_role ts))
        → EndOf d groups (t ∷ ts) (cond b (Some 1) (option_map suc
        (statement_end d (open_groups_after groups (role t.kind)) (map lexed_role ts))))
    by true is rest = record { inner = []; last = t; part = refl; stays = refl; ends = is }
    by false is rest =
        later (statement_end d (open_groups_after groups (role t.kind)) (map lexed_role ts)) is rest

-- ---- the node

-- the kinds of tokens without trivia
kinds_kept : (ts : List LexedToken) → kinds_without_trivia ts ≡ without_trivia (kinds_of ts)
kinds_kept [] = refl
kinds_kept (t ∷ ts) = by (is_trivia_kind t.kind) (kinds_kept ts)
  where
    by : (b : Bool) → kinds_without_trivia ts ≡ without_trivia (kinds_of ts)
        → cond b [] (t.kind ∷ []) ++ kinds_without_trivia ts
        ≡ cond b (without_trivia (kinds_of ts)) (t.kind ∷ without_trivia (kinds_of ts))
    by true rest = rest
    by false rest = ap (λ ks. t.kind ∷ ks) rest

-- a child that is no leaf has a node
node_some : (f : Role) (kinds : List ℕ) → is_trivia f ≡ false
    → node_by f kinds ≡ Some (unwrap_or (node_by f kinds) ERROR)
node_some Trivia kinds h = absurd (cc)
node_some Semicolon kinds h = refl
node_some Terminator kinds h = refl
node_some Command kinds h = refl
node_some Open kinds h = refl
node_some Close kinds h = refl
node_some Other kinds h = refl

-- which is that of its kinds without trivia
pub node_is : (t : LexedToken) (ts : List LexedToken) → is_trivia_kind t.kind ≡ false
    → child_node (kinds_of (t ∷ ts)) ≡ Some (node_of (kinds_without_trivia (t ∷ ts)))
node_is t ts is =
    let kept = kept_other t ts is in
    let kinds : without_trivia (kinds_of (t ∷ ts)) ≡ t.kind ∷ kinds_without_trivia ts =
    sym (kinds_kept (t ∷ ts)) ∙ kept in
    ap (node_by (role t.kind)) kinds
    ∙ node_some (role t.kind) (t.kind ∷ kinds_without_trivia ts) (role_trivia t.kind ∙ is)
    ∙ ap (λ ks. Some (node_of ks)) (sym kept)

-- a node with its body and the rest of its tokens, if the weave has these
node_of_parts : (d : Division) (at : ℕ) (t : LexedToken) (ts : List LexedToken)
    (body rest : List LexedToken) → is_trivia_kind t.kind ≡ false
    → weave_from at (t ∷ ts) (body_steps d 0 (kinds_without_trivia (t ∷ ts)) ++ Exit ∷ [])
    ≡ nested_steps 0 at body
    ++ (token_steps (at + total_len body) rest ++ out.Exit ∷ [])
    → steps_of_node (node_of (kinds_without_trivia (t ∷ ts))) at body rest
    ≡ woven_child d at (t ∷ ts)
node_of_parts d at t ts body rest is woven =
    let kinds = kinds_without_trivia (t ∷ ts) in
    let node = node_of kinds in
    let inside = body_steps d 0 kinds in
    let nested = nested_steps 0 at body in
    let tokens = token_steps (at + total_len body) rest in
    sym (node_woven d at t ts is
    ∙ enter_first at node t ts ((unknown_statement_error node ++ inside) ++ Exit ∷ []) is
    ∙ ap (λ ys. out.Enter node ∷ ys)
    (ap (weave_from at (t ∷ ts)) (append_assoc (unknown_statement_error node) inside (Exit ∷ []))
    ∙ error_first (node == ERROR) (inside ++ Exit ∷ [])
    ∙ ap (λ ys. unknown_error at node ++ ys) (woven
    ∙ sym (append_assoc nested tokens (out.Exit ∷ [])))
    ∙ sym (append_assoc (unknown_error at node) (nested ++ tokens) (out.Exit ∷ []))
    ∙ ap (λ ys. ys ++ out.Exit ∷ []) (sym (append_assoc (unknown_error at node) nested tokens))))
  where
    error_first : (b : Bool) (xs : List Step)
        → weave_from at (t ∷ ts) (cond b (Error 10 ∷ []) [] ++ xs)
        ≡ cond b (out.Error 10 at ∷ []) [] ++ weave_from at (t ∷ ts) xs
    error_first true xs = refl
    error_first false xs = refl

-- ---- the three sorts of nodes

-- the trimmed length is within the tokens
trimmed_le : (ts : List LexedToken) → trimmed_len (map lexed_role ts) ≤ length ts
trimmed_le [] = omega arith
trimmed_le (t ∷ ts) = by (is_trivia (role t.kind) && trimmed_len (map lexed_role ts) == 0)
    (trimmed_le ts)
  where
    by : (b : Bool) → trimmed_len (map lexed_role ts) ≤ length ts
        → cond b 0 (suc (trimmed_len (map lexed_role ts))) ≤ suc (length ts)
    by true le = omega arith
    by false le = omega arith

-- and is their number if the last is not trivia
trimmed_all : (ts : List LexedToken) → is_trimmed true ts ≡ true
    → trimmed_len (map lexed_role ts) ≡ length ts
trimmed_all [] h = refl
trimmed_all (t ∷ ts) h = by (is_trivia_kind t.kind) refl (trimmed_all ts)
  where
    some : (us : List LexedToken) (b : Bool) → is_trimmed false us ≡ true
        → cond (b && length us == 0) 0 (suc (length us)) ≡ suc (length us)
    some [] b h = absurd (cc)
    some (u ∷ us) true h = rw (not_zero (length us)) refl
    some (u ∷ us) false h = refl

    by : (b : Bool) → is_trivia_kind t.kind ≡ b
        → (is_trimmed true ts ≡ true → trimmed_len (map lexed_role ts) ≡ length ts)
        → trimmed_len (map lexed_role (t ∷ ts)) ≡ suc (length ts)
    by true is rest =
        let left : is_trimmed false ts ≡ true = ap (λ b. is_trimmed (not b) ts) (sym is) ∙ h in
        ap (λ m. cond (is_trivia (role t.kind) && m == 0) 0 (suc m))
        (rest (is_trimmed_any true ts left)) ∙ some ts (is_trivia (role t.kind)) left
    by false is rest =
        rw (role_trivia t.kind ∙ is)
        (ap suc (rest (ap (λ b. is_trimmed (not b) ts) (sym is) ∙ h)))

-- an open statement
open_node : (d : Division) (at : ℕ) (t : LexedToken) (ts : List LexedToken)
    → is_trivia_kind t.kind ≡ false → is_trimmed true (t ∷ ts) ≡ true
    → stays_open d 0 (kinds_of (t ∷ ts)) ≡ true
    → node_steps (node_of (kinds_without_trivia (t ∷ ts))) false at (t ∷ ts)
    ≡ woven_child d at (t ∷ ts)
open_node d at t ts is trimmed stays =
    let part = t ∷ ts in
    let node = node_of (kinds_without_trivia part) in
    let whole = take_all (length part) part (omega arith) in
    let none : length part - 0 ≡ length part = omega arith in
    let len : body_len false part ≡ length part =
    ap (λ n. trimmed_len (map lexed_role (take n part))) none
    ∙ ap (λ us. trimmed_len (map lexed_role us)) whole ∙ trimmed_all part trimmed in
    ap (λ n. steps_of_node node at (take n part) (drop n part)) len
    ∙ ap (λ us. steps_of_node node at us (drop (length part) part)) whole
    ∙ ap (steps_of_node node at part) (drop_all (length part) part (omega arith))
    ∙ node_of_parts d at t ts part [] is (open_woven d at part trimmed stays)

-- a closed statement: tokens of which none ends it, and one that does
closed_node : (d : Division) (at : ℕ) (t : LexedToken) (ts inner : List LexedToken)
    (last : LexedToken) → is_trivia_kind t.kind ≡ false → t ∷ ts ≡ inner ++ last ∷ []
    → stays_open d 0 (kinds_of inner) ≡ true
    → ends_statement d (groups_left_open 0 (map lexed_role inner)) (role last.kind) ≡ true
    → node_steps (node_of (kinds_without_trivia (t ∷ ts))) true at (t ∷ ts)
    ≡ woven_child d at (t ∷ ts)
closed_node d at t ts inner last is whole stays ends =
    let node = node_of (kinds_without_trivia (t ∷ ts)) in
    let n = trimmed_len (map lexed_role inner) in
    let within = trimmed_le inner in
    let size = length-append inner (last ∷ []) in
    let one : length (last ∷ []) ≡ 1 = refl in
    let before : length (inner ++ last ∷ []) - 1 ≡ length inner = omega arith in
    let len : body_len true (inner ++ last ∷ []) ≡ n =
    ap (λ m. trimmed_len (map lexed_role (take m (inner ++ last ∷ [])))) before
    ∙ ap (λ us. trimmed_len (map lexed_role us)) (take-append-le (length inner) inner (last ∷ [])
    (omega arith) ∙ take_all (length inner) inner (omega arith)) in
    let woven = ap (λ us. weave_from at us (body_steps d 0 (kinds_without_trivia us) ++ Exit
    ∷ [])) whole ∙ closed_woven d at inner last stays ends in
    ap (node_steps node true at) whole
    ∙ ap (λ m. steps_of_node node at (take m (inner ++ last ∷ [])) (drop m (inner ++ last ∷ [])))
    len
    ∙ ap (λ us. steps_of_node node at us (drop n (inner ++ last ∷ [])))
    (take-append-le n inner (last ∷ []) within)
    ∙ ap (steps_of_node node at (take n inner)) (drop-append-le n inner (last ∷ []) within)
    ∙ node_of_parts d at t ts (take n inner) (drop n inner ++ last ∷ []) is woven

-- a token that is a child by itself
single_node : (d : Division) (at : ℕ) (t : LexedToken) → is_trivia_kind t.kind ≡ false
    → is_single_token (role t.kind) ≡ true
    → node_steps (node_of (kinds_without_trivia (t ∷ []))) true at (t ∷ [])
    ≡ woven_child d at (t ∷ [])
single_node d at t is single =
    let here : at ≡ at + 0 = omega arith in
    node_of_parts d at t [] [] (t ∷ []) is
    (alone_woven d at t is single
    ∙ ap (λ m. token_steps m (t ∷ []) ++ out.Exit ∷ []) here)

-- ---- the first child

-- no list that ends with an element is empty
not_empty : (xs : List LexedToken) (y : LexedToken) → [] ≡ xs ++ y ∷ [] → ⊥
not_empty [] y h = cc
not_empty (x ∷ xs) y h = cc

-- the steps of the first child of these tokens by its number of tokens
abbrev FirstIs : Division → ℕ → List LexedToken → Child → Type 0
FirstIs d at ts child =
    child_steps_by (child_node (kinds_of (take child.tokens ts))) child.closed at
    (take child.tokens ts) ≡ woven_child d at (take child.tokens ts)

-- the first child is a statement
statement_is : (d : Division) (at : ℕ) (t : LexedToken) (ts : List LexedToken)
    → is_trivia_kind t.kind ≡ false → (end : Option ℕ) → EndOf d 0 (t ∷ ts) end
    → FirstIs d at (t ∷ ts) (statement_to end (map lexed_role (t ∷ ts)))
statement_is d at t ts is None stays =
    let all = t ∷ ts in
    let m = trimmed_len (map lexed_role ts) in
    let n_is : trimmed_len (map lexed_role all) ≡ suc m = rw (role_trivia t.kind ∙ is) refl in
    let cut = trimmed_cut all in
    let trimmed : is_trimmed true (take (suc m) all) ≡ true = rw n_is at cut.trimmed in
    let prefix = open_prefix d 0 (take (suc m) all) (drop (suc m) all)
    (ap (λ us. stays_open d 0 (kinds_of us)) (take-append-drop (suc m) all) ∙ stays) in
    subst (λ n. child_steps_by (child_node (kinds_of (take n all))) false at (take n all)
    ≡ woven_child d at (take n all)) (sym n_is)
    (ap (λ node. child_steps_by node false at (take (suc m) all)) (node_is t (take m ts) is)
    ∙ open_node d at t (take m ts) is trimmed prefix)
statement_is d at t ts is (Some zero) end = absurd (not_empty end.inner end.last end.part)
statement_is d at t ts is (Some (suc m)) end =
    ap (λ node. child_steps_by node true at (t ∷ take m ts)) (node_is t (take m ts) is)
    ∙ closed_node d at t (take m ts) end.inner end.last is end.part end.stays end.ends

-- the steps of the first child are its woven steps
child_is : (d : Division) (at : ℕ) (t : LexedToken) (ts : List LexedToken)
    → FirstIs d at (t ∷ ts) (first_child d (map lexed_role (t ∷ ts)))
child_is d at t ts =
    by (is_trivia (role t.kind)) (is_single_token (role t.kind)) refl refl
  where
    by : (leaf single : Bool) → is_trivia (role t.kind) ≡ leaf
        → is_single_token (role t.kind) ≡ single
        → FirstIs d at (t ∷ ts) (cond leaf trivia_child (cond single single_token
        (statement d (map lexed_role (t ∷ ts)))))
    by true single is alone =
        ap (λ f. child_steps_by (node_by f (without_trivia (t.kind ∷ []))) true at (t ∷ []))
        (trivia_role (role t.kind) is)
        ∙ sym (leaf_woven d at t [] (sym (role_trivia t.kind) ∙ is))
    by false true is alone =
        let other = sym (role_trivia t.kind) ∙ is in
        ap (λ node. child_steps_by node true at (t ∷ [])) (node_is t [] other)
        ∙ single_node d at t other alone
    by false false is alone =
        statement_is d at t ts (sym (role_trivia t.kind) ∙ is)
        (statement_end d 0 (map lexed_role (t ∷ ts))) (end_of d 0 (t ∷ ts))

-- the same of the shape of the first child of their kinds
pub shape_is : (d : Division) (at : ℕ) (ts : List LexedToken) (shape : ChildShape)
    → 0 < length ts → shape ≡ first_shape d (kinds_of ts)
    → steps_of_shape shape at (take shape.tokens ts) ≡ woven_child d at (take shape.tokens ts)
shape_is d at [] shape some is = absurd (omega arith)
shape_is d at (t ∷ ts) shape some is =
    let all = t ∷ ts in
    let child = first_child d (map lexed_role all) in
    let shape_of : Child → List ℕ → ChildShape = λ child kinds. record {
      tokens = child.tokens;
      node = child_node kinds;
      closed = child.closed;
    } in
    let same : shape ≡ shape_of child (kinds_of (take child.tokens all)) = is
    ∙ ap (λ fs. shape_of (first_child d fs) (take (first_child d fs).tokens (kinds_of all)))
    (kinds_roles all)
    ∙ ap (shape_of child) (kinds_take child.tokens all) in
    subst (λ (s : ChildShape). steps_of_shape s at (take s.tokens all)
    ≡ woven_child d at (take s.tokens all)) (sym same) (child_is d at t ts)
