-- The child of the tokens of a first child is a leaf or a node of these tokens.
use Rattle.std.proofs.Common.{◌≡◌, ℕ, suc, ◌+◌, ◌==◌, ◌≤◌, nat_le, Bool, true, false, ◌&&◌, cond, List, [], ◌∷◌, ◌++◌, length, take, map, ap, refl, sym, subst, ◌∙◌, arith}
use Rattle.std.proofs.lemmas.Bool.{and_parts, leb-true}
use Rattle.std.proofs.lemmas.List.Elements.{All-nil, All-cons, All-append}
use Rattle.std.specs.Prelude.{All, Some, None, unwrap_or}
use Rattle.squawk_events.specs.Kinds.{is_trivia_kind, without_trivia}
use Rattle.squawk_events.specs.declared.steps.Step.TheVariants.{Exit}
use Rattle.squawk_events.specs.declared.steps.StrStep.{StrStep}
use Rattle.squawk_events.specs.declared.steps.StrStep.TheVariants as out
use Rattle.squawk_kinds.specs.Role.{Role, role, is_trivia, Trivia, Semicolon, Terminator, Command, Open, Close, Other}
use Rattle.squawk_kinds.specs.declared.numbers.TheConstants.Number.{ERROR}
use Rattle.squawk_lexed.specs.LexedText.{total_len, are_sound}
use Rattle.squawk_lexed.specs.LexedToken.{LexedToken, lexed_role}
use Rattle.squawk_lexed.specs.Stored.{errors_at, kinds_of}
use Rattle.squawk_lexed.specs.Weave.{kinds_without_trivia, weave_from}
use Rattle.squawk_statements.specs.First.{node_by, child_node}
use Rattle.squawk_statements.specs.Kinds.{role_trivia}
use Rattle.squawk_statements.specs.Plain.{node_of, unknown_statement_error, body_steps, child_steps}
use Rattle.squawk_statements.specs.PlainIsLawful.{child_balanced, child_tokens, child_numbers}
use Rattle.squawk_statements.specs.declared.division.Division.{Division}
use Rattle.squawk_tree.specs.Children.{is_leaf_or_node, IsChildOf, own_tokens}
use Rattle.squawk_tree.specs.Errors.{error, numbers_at, errors_by_token, errors}
use Rattle.squawk_tree.specs.Join.{ChildTree, child_of}
use Rattle.squawk_tree.specs.ParseOf.{token_steps}
use Rattle.squawk_tree.specs.Steps.{closes, has_no_errors, leaves, only_tokens, tiles, without_errors}
use Rattle.squawk_tree.specs.Tree.{IsErrorWithin}
use Rattle.squawk_tree.proofs.Balanced.{closes_woven, without_errors_has_none}
use Rattle.squawk_tree.proofs.CutLemmas.{trivia_role}
use Rattle.squawk_tree.proofs.FirstPart.{more, more_of, first_tokens}
use Rattle.squawk_tree.proofs.JoinLemmas.{node_woven, leaf_woven}
use Rattle.squawk_tree.proofs.LeavesLemmas.{leaves_woven, leaves_kept}
use Rattle.squawk_tree.proofs.TreeLaws.{leaves_only_tokens, tiles_token_steps, has_lawful_numbers, numbers_woven, faults_lie_within}
use Rattle.squawk_tree.proofs.WalkLemmas.{sound_parts}

-- ---- the errors of steps with lawful numbers lie in the text

-- an error of each of the numbers at an offset, over a range of the text
numbers_within : (len at end offset : ℕ) (xs : List StrStep) → has_lawful_numbers xs ≡ true
    → at ≤ end → end ≤ len → All (IsErrorWithin len) (map (error at end) (numbers_at offset xs))
numbers_within len at end offset [] h order le = All-nil (IsErrorWithin len)
numbers_within len at end offset (out.Enter kind ∷ xs) h order le =
    numbers_within len at end offset xs h order le
numbers_within len at end offset (out.Token kind start stop ∷ xs) h order le =
    numbers_within len at end offset xs h order le
numbers_within len at end offset (out.Exit ∷ xs) h order le =
    numbers_within len at end offset xs h order le
numbers_within len at end offset (out.Error number here ∷ xs) h order le =
    let a = and_parts (nat_le 1 number) (nat_le number 10 && has_lawful_numbers xs) h in
    let b = and_parts (nat_le number 10) (has_lawful_numbers xs) a.1 in
    let rest = numbers_within len at end offset xs b.1 order le in
    by (here == offset) (leb-true 1 number a.0) (leb-true number 10 b.0) rest
  where
    by : (same : Bool) → 1 ≤ number → number ≤ 10
        → All (IsErrorWithin len) (map (error at end) (numbers_at offset xs))
        → All (IsErrorWithin len) (map (error at end)
        (cond same (number ∷ numbers_at offset xs) (numbers_at offset xs)))
    by false one ten rest = rest
    by true one ten rest =
        All-cons (IsErrorWithin len) (error at end number) (map (error at end)
        (numbers_at offset xs))
        (record { first_number = one; last_number = ten; ordered = order; within = le }) rest

-- the errors of tokens and steps
errors_within : (len at : ℕ) (ts : List LexedToken) (xs : List StrStep) → at + total_len ts ≤ len
    → are_sound ts ≡ true → has_lawful_numbers xs ≡ true
    → All (IsErrorWithin len) (errors_by_token at ts xs)
errors_within len at [] xs le sound h = numbers_within len at at at xs h (omega arith) (omega arith)
errors_within len at (t ∷ ts) xs le sound h =
    let parts = sound_parts t ts sound in
    let own = map (error at (at + t.len)) (numbers_at at xs) in
    All-append (IsErrorWithin len) (own ++ errors_at at t.faults)
    (errors_by_token (at + t.len) ts xs)
    (All-append (IsErrorWithin len) own (errors_at at t.faults)
    (numbers_within len at (at + t.len) at xs h (omega arith) (omega arith))
    (faults_lie_within len at t.len t.faults parts.faults (omega arith)))
    (errors_within len (at + t.len) ts xs (omega arith) parts.rest h)

-- ---- the node of a child

-- the kinds without trivia are those of the tokens that are not trivia
without_trivia_kinds : (ts : List LexedToken)
    → without_trivia (kinds_of ts) ≡ kinds_without_trivia ts
without_trivia_kinds [] = refl
without_trivia_kinds (t ∷ ts) = by (is_trivia_kind t.kind) (without_trivia_kinds ts)
  where
    by : (b : Bool) → without_trivia (kinds_of ts) ≡ kinds_without_trivia ts
        → cond b (without_trivia (kinds_of ts)) (t.kind ∷ without_trivia (kinds_of ts))
        ≡ cond b [] (t.kind ∷ []) ++ kinds_without_trivia ts
    by true e = e
    by false e = ap (λ ks. t.kind ∷ ks) e

-- a child that does not begin with trivia has a node
node_by_some : (f : Role) (ks : List ℕ) → is_trivia f ≡ false
    → Some (unwrap_or (node_by f ks) ERROR) ≡ node_by f ks
node_by_some Trivia ks h = absurd (cc)
node_by_some Semicolon ks h = refl
node_by_some Terminator ks h = refl
node_by_some Command ks h = refl
node_by_some Open ks h = refl
node_by_some Close ks h = refl
node_by_some Other ks h = refl

node_is : (t : LexedToken) (ts : List LexedToken) → is_trivia_kind t.kind ≡ false
    → Some (node_of (kinds_without_trivia (t ∷ ts))) ≡ child_node (kinds_of (t ∷ ts))
node_is t ts is =
    let left = without_trivia_kinds (t ∷ ts) in
    let first : kinds_without_trivia (t ∷ ts) ≡ t.kind ∷ kinds_without_trivia ts = rw is refl in
    ap (λ ks. Some (node_of ks)) first
    ∙ node_by_some (role t.kind) (t.kind ∷ kinds_without_trivia ts) (role_trivia t.kind ∙ is)
    ∙ ap (node_by (role t.kind)) (sym (left ∙ first))

no_node : (t : LexedToken) (ts : List LexedToken) → is_trivia_kind t.kind ≡ true
    → None ≡ child_node (kinds_of (t ∷ ts))
no_node t ts is =
    ap (λ f. node_by f (without_trivia (kinds_of (t ∷ ts))))
    (sym (trivia_role (role t.kind) (role_trivia t.kind ∙ is)))

-- ---- the child of tokens

-- a balanced list without `Error` steps that begins with an `Enter`
node_steps : (kind : ℕ) (xs : List StrStep) → closes 1 xs ≡ true → has_no_errors xs ≡ true
    → is_leaf_or_node (out.Enter kind ∷ xs) ≡ true
node_steps kind xs h none = rw (h, none) refl

-- the child of these tokens, by its woven steps
child_by : (ts : List LexedToken) → List StrStep → ChildTree
child_by ts woven = record {
  steps = without_errors woven;
  errors = errors ts woven;
  len = total_len ts;
}

-- there are as many leaves as tokens
length_leaves : (at : ℕ) (ts : List LexedToken) → length (leaves (token_steps at ts)) ≡ length ts
length_leaves at [] = refl
length_leaves at (t ∷ ts) = ap suc (length_leaves (at + t.len) ts)

-- a node of tokens, the first of which is not trivia
node_child : (d : Division) (t : LexedToken) (ts : List LexedToken)
    → is_trivia_kind t.kind ≡ false → are_sound (t ∷ ts) ≡ true
    → IsChildOf (t ∷ ts) (child_of d (t ∷ ts))
unfolding child_by
node_child d t ts is sound =
    let ks = kinds_without_trivia (t ∷ ts) in
    let xs = unknown_statement_error (node_of ks) ++ body_steps d 0 ks ++ Exit ∷ [] in
    let inner = weave_from 0 (t ∷ ts) xs in
    let woven : weave_from 0 (t ∷ ts) (child_steps d ks) ≡ out.Enter (node_of ks) ∷ inner =
    rw is refl in
    let only : only_tokens (without_errors inner) ≡ token_steps 0 (t ∷ ts) =
    leaves_kept inner
    ∙ leaves_woven 0 0 (t ∷ ts) xs (child_balanced d ks) (sym (child_tokens d ks)) in
    let ranges : leaves (without_errors inner) ≡ leaves (token_steps 0 (t ∷ ts)) =
    sym (leaves_only_tokens (without_errors inner)) ∙ ap leaves only in
    let numbers : has_lawful_numbers inner ≡ true =
    numbers_woven 0 (t ∷ ts) xs ∙ child_numbers d ks in
    subst (λ zs. IsChildOf (t ∷ ts) (child_by (t ∷ ts) zs)) (sym (node_woven d 0 t ts is ∙ woven))
    record {
      tree = record {
        leaf_or_node = node_steps (node_of ks) (without_errors inner)
            (closes_woven 0 0 (t ∷ ts) xs (child_balanced d ks)) (without_errors_has_none inner);
        tiled = ap (λ rs. tiles 0 rs (total_len (t ∷ ts))) ranges
            ∙ tiles_token_steps 0 (total_len (t ∷ ts)) (t ∷ ts) sound (omega arith);
        errors_within = errors_within (total_len (t ∷ ts)) 0 (t ∷ ts)
            (out.Enter (node_of ks) ∷ inner) (omega arith) sound numbers;
      };
      tokens = ap length ranges ∙ length_leaves 0 (t ∷ ts);
      node = node_is t ts is;
    }

-- a leaf of a trivia token
leaf_child : (d : Division) (t : LexedToken) → is_trivia_kind t.kind ≡ true
    → are_sound (t ∷ []) ≡ true → IsChildOf (t ∷ []) (child_of d (t ∷ []))
unfolding child_by
leaf_child d t is sound =
    subst (λ zs. IsChildOf (t ∷ []) (child_by (t ∷ []) zs)) (sym (leaf_woven d 0 t [] is))
    record {
      tree = record {
        leaf_or_node = refl;
        tiled = tiles_token_steps 0 (total_len (t ∷ [])) (t ∷ []) sound (omega arith);
        errors_within = errors_within (total_len (t ∷ [])) 0 (t ∷ [])
            (out.Token t.kind 0 (0 + t.len) ∷ []) (omega arith) sound refl;
      };
      tokens = refl;
      node = no_node t [] is;
    }

-- the child of the tokens of a first child
child_by_kind : (d : Division) (t : LexedToken) (ts : List LexedToken)
    → are_sound (t ∷ take (more_of lexed_role d t ts) ts) ≡ true
    → IsChildOf (t ∷ take (more_of lexed_role d t ts) ts)
    (child_of d (t ∷ take (more_of lexed_role d t ts) ts))
child_by_kind d t ts sound = by (is_trivia_kind t.kind) refl
  where
    none_more : (f : Role) → f ≡ Trivia
        → more d f (map lexed_role ts) ≡ 0
    none_more f e = ap (λ g. more d g (map lexed_role ts)) e

    by : (b : Bool) → is_trivia_kind t.kind ≡ b
        → IsChildOf (t ∷ take (more_of lexed_role d t ts) ts)
        (child_of d (t ∷ take (more_of lexed_role d t ts) ts))
    by false is = node_child d t (take (more_of lexed_role d t ts) ts) is sound
    by true is =
        let none : more_of lexed_role d t ts ≡ 0 =
        none_more (role t.kind) (trivia_role (role t.kind) (role_trivia t.kind ∙ is)) in
        subst (λ n. IsChildOf (t ∷ take n ts) (child_of d (t ∷ take n ts))) (sym none)
        (leaf_child d t is (ap (λ n. are_sound (t ∷ take n ts)) (sym none) ∙ sound))

pub child_is_tree : (d : Division) (t : LexedToken) (ts : List LexedToken)
    → are_sound (own_tokens d (t ∷ ts)) ≡ true
    → IsChildOf (own_tokens d (t ∷ ts)) (child_of d (own_tokens d (t ∷ ts)))
child_is_tree d t ts sound =
    let own : own_tokens d (t ∷ ts) ≡ t ∷ take (more_of lexed_role d t ts) ts =
    ap (λ n. take n (t ∷ ts)) (first_tokens d (role t.kind) (map lexed_role ts)) in
    subst (λ us. IsChildOf us (child_of d us)) (sym own)
    (child_by_kind d t ts (ap are_sound (sym own) ∙ sound))
