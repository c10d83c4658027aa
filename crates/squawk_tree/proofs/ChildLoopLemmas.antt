-- The loops that emit a node and all children.
use Rattle.std.proofs.Common.{◌≡◌, ℕ, zero, suc, ◌+◌, ◌-◌, ◌==◌, ◌<◌, ◌≤◌, Bool, true, false, cond, List, [], ◌∷◌, ◌++◌, length, take, drop, map, slice_range, append_assoc, refl, ap, sym, subst, ◌∙◌, arith}
use Rattle.std.proofs.Math.Seq.{take-add}
use Rattle.std.proofs.lemmas.List.{take-append-drop, append-nil, drop-drop, drop-take, take_rest, drop_all, length-drop, length-take-le}
use Rattle.std.specs.Prelude.{None, OnOk, Result}
use Rattle.squawk_events.specs.declared.error.FrontError.{FrontError}
use Rattle.squawk_events.specs.declared.steps.ParseError.{ParseError}
use Rattle.squawk_events.specs.declared.steps.Step.{Step}
use Rattle.squawk_events.specs.declared.steps.StrStep.{StrStep}
use Rattle.squawk_events.specs.declared.steps.StrStep.TheVariants as out
use Rattle.squawk_kinds.specs.Role.{Role, role, Trivia, Semicolon, Terminator, Command, Open, Close, Other}
use Rattle.squawk_kinds.specs.declared.numbers.TheConstants.Number.{ERROR, SOURCE_FILE}
use Rattle.squawk_lexed.specs.LexedText.{total_len, token_start}
use Rattle.squawk_lexed.specs.LexedToken.{LexedToken, lexed_role}
use Rattle.squawk_lexed.specs.Stored.{kinds_of, errors_of}
use Rattle.squawk_lexed.specs.Weave.{kinds_without_trivia, weave}
use Rattle.squawk_statements.specs.Children.{open_groups_after, parts, first_child, trimmed_len}
use Rattle.squawk_statements.specs.First.{first_shape}
use Rattle.squawk_statements.specs.Plain.{child_steps}
use Rattle.squawk_statements.specs.declared.division.Division.{Division}
use Rattle.squawk_statements.specs.declared.first.ChildShape.{ChildShape}
use Rattle.squawk_tree.specs.ChildSteps.{unknown_error, exit_steps, steps_in_groups, nested_steps, body_len, steps_of_node, node_steps, child_error, child_steps_by}
use Rattle.squawk_tree.specs.ChildGrammar.{AreChildSteps, IsFirstNode, IsGrammarOf, child_at, woven_by, woven_children_by, woven_text}
use Rattle.squawk_tree.specs.ParseOf.{token_steps}
use Rattle.squawk_tree.proofs.ChildTokenLemmas.{kinds_len, kinds_take, kinds_drop, kinds_roles}
use Rattle.squawk_tree.proofs.FirstPart.{more_of, first_part, first_tokens}
use Rattle.squawk_tree.specs.Steps.{without_errors}
use Rattle.squawk_tree.specs.Walk.{merged_errors, merged_from}
use Rattle.squawk_tree.proofs.ChildErrorLemmas.{error_first}
use Rattle.squawk_tree.proofs.FirstChildLemmas.{leaf_steps}
use Rattle.squawk_tree.proofs.ChildShapeLemmas.{shape_is}
use Rattle.squawk_tree.proofs.JoinIsParse.{without_errors_append}
use Rattle.squawk_tree.proofs.JoinLemmas.{placed_by, total_append}

-- ---- parts of a list of tokens

-- a prefix of a prefix
take_within : (n m : ℕ) (ts : List LexedToken) → n ≤ m → take n (take m ts) ≡ take n ts
take_within zero m ts h = refl
take_within (suc n) zero ts h = absurd (omega arith)
take_within (suc n) (suc m) [] h = refl
take_within (suc n) (suc m) (t ∷ ts) h =
    ap (λ us. t ∷ us) (take_within n m ts (omega arith))

-- where the tokens begin that are n after others
start_after : (i n : ℕ) (ts : List LexedToken)
    → token_start ts (i + n) ≡ token_start ts i + total_len (take n (drop i ts))
start_after i n ts =
    ap total_len (take-add i n ts) ∙ total_append (take i ts) (take n (drop i ts))

-- the tokens from an index up to another, cut after n of them
record CutAt (ts : List LexedToken) (from to n : ℕ) : Type 0 where
  prefix : slice_range ts from (from + n) ≡ take n (slice_range ts from to)
  left : slice_range ts (from + n) to ≡ drop n (slice_range ts from to)
  start : token_start ts (from + n)
      ≡ token_start ts from + total_len (take n (slice_range ts from to))

cut_at : (ts : List LexedToken) (from to n : ℕ) → n ≤ to - from → CutAt ts from to n
cut_at ts from to n h =
    let all = drop from ts in
    let count : from + n - from ≡ n = omega arith in
    let inside = take_within n (to - from) all h in
    let others : to - (from + n) ≡ to - from - n = omega arith in
    let whole : to - from ≡ n + (to - from - n) = omega arith in
    record {
      prefix = ap (λ m. take m all) count ∙ sym inside;
      left = ap (λ m. take m (drop (from + n) ts)) others
          ∙ ap (take (to - from - n)) (sym (drop-drop n from ts))
          ∙ sym (drop-take n (to - from - n) all)
          ∙ ap (λ m. drop n (take m all)) (sym whole);
      start = start_after from n ts
          ∙ ap (λ us. token_start ts from + total_len us) (sym inside);
    }

-- ---- a node

-- steps that are appended one after another
appended : (s e n t x : List StrStep)
    → (((s ++ e) ++ n) ++ t) ++ x ≡ s ++ (e ++ ((n ++ t) ++ x))
appended [] [] n t x = refl
appended [] (y ∷ e) n t x = ap (λ zs. y ∷ zs) (appended [] e n t x)
appended (y ∷ s) e n t x = ap (λ zs. y ∷ zs) (appended s e n t x)

-- no step of a list is an `Error`: of the steps of a token inside groups, of tokens inside groups,
-- and of tokens
groups_kept : (n : ℕ) (f : Role) (kind start end : ℕ)
    → without_errors (steps_in_groups n f (out.Token kind start end))
    ≡ steps_in_groups n f (out.Token kind start end)
groups_kept n Trivia kind start end = refl
groups_kept n Semicolon kind start end = refl
groups_kept n Terminator kind start end = refl
groups_kept n Command kind start end = refl
groups_kept n Open kind start end = refl
groups_kept zero Close kind start end = refl
groups_kept (suc n) Close kind start end = refl
groups_kept n Other kind start end = refl

exits_kept : (n : ℕ) → without_errors (exit_steps n) ≡ exit_steps n
exits_kept zero = refl
exits_kept (suc n) = ap (λ xs. out.Exit ∷ xs) (exits_kept n)

nested_kept : (n at : ℕ) (ts : List LexedToken)
    → without_errors (nested_steps n at ts) ≡ nested_steps n at ts
nested_kept n at [] = exits_kept n
nested_kept n at (t ∷ ts) =
    let more = open_groups_after n (role t.kind) in
    without_errors_append (steps_in_groups n (role t.kind) (out.Token t.kind at (at + t.len)))
    (nested_steps more (at + t.len) ts)
    ∙ ap (λ xs. xs ++ without_errors (nested_steps more (at + t.len) ts))
    (groups_kept n (role t.kind) t.kind at (at + t.len))
    ∙ ap (λ xs. steps_in_groups n (role t.kind) (out.Token t.kind at (at + t.len)) ++ xs)
    (nested_kept more (at + t.len) ts)

tokens_kept : (at : ℕ) (ts : List LexedToken)
    → without_errors (token_steps at ts) ≡ token_steps at ts
tokens_kept at [] = refl
tokens_kept at (t ∷ ts) =
    ap (λ xs. out.Token t.kind at (at + t.len) ∷ xs) (tokens_kept (at + t.len) ts)

-- the error of an unknown statement is one
unknown_lost : (at node : ℕ) → without_errors (unknown_error at node) ≡ []
unknown_lost at node = by (node == ERROR)
  where
    by : (b : Bool) → without_errors (cond b (out.Error 10 at ∷ []) []) ≡ []
    by true = refl
    by false = refl

-- the steps of a node that stay in the tree
node_kept : (node at : ℕ) (body rest : List LexedToken)
    → without_errors (steps_of_node node at body rest)
    ≡ out.Enter node ∷ ((nested_steps 0 at body
    ++ token_steps (at + total_len body) rest) ++ out.Exit ∷ [])
node_kept node at body rest =
    let u = unknown_error at node in
    let n = nested_steps 0 at body in
    let t = token_steps (at + total_len body) rest in
    ap (λ xs. out.Enter node ∷ xs) (without_errors_append ((u ++ n) ++ t) (out.Exit ∷ [])
    ∙ ap (λ xs. xs ++ out.Exit ∷ []) (without_errors_append (u ++ n) t
    ∙ ap (λ xs. xs ++ without_errors t) (without_errors_append u n
    ∙ ap (λ xs. xs ++ without_errors n) (unknown_lost at node) ∙ nested_kept 0 at body)
    ∙ ap (λ xs. n ++ xs) (tokens_kept (at + total_len body) rest)))

-- the steps of a node, emitted one after another
pub node_emitted : (ts : List LexedToken) (kinds : List ℕ) (from to n node : ℕ) (closed : Bool)
    (s0 s1 s2 s3 s4 : List StrStep) → from < to → to ≤ length ts → kinds ≡ kinds_of ts
    → n ≡ trimmed_len (map role (take (length (slice_range kinds from to) - cond closed 1 0)
    (slice_range kinds from to)))
    → n ≤ length (slice_range kinds from to) → s1 ≡ s0 ++ out.Enter node ∷ []
    → s2 ≡ s1 ++ nested_steps 0 (token_start ts from) (slice_range ts from (from + n))
    → s3 ≡ s2 ++ token_steps (token_start ts (from + n)) (slice_range ts (from + n) to)
    → s4 ≡ s3 ++ out.Exit ∷ []
    → s4 ≡ s0 ++ without_errors
    (node_steps node closed (token_start ts from) (slice_range ts from to))
node_emitted ts kinds from to n node closed s0 s1 s2 s3 s4 some within ks n_is le e1 e2 e3 e4 =
    let part = slice_range ts from to in
    let at = token_start ts from in
    let same : slice_range kinds from to ≡ kinds_of part =
    ap (λ ks. slice_range ks from to) ks ∙ ap (take (to - from)) (kinds_drop from ts)
    ∙ kinds_take (to - from) (drop from ts) in
    let size = ap length same ∙ kinds_len part in
    let few = length-drop from ts in
    let len = length-take-le (to - from) (drop from ts) (omega arith) in
    let body : n ≡ body_len closed part = n_is
    ∙ ap (λ ks. trimmed_len (map role (take (length ks - cond closed 1 0) ks))) same
    ∙ ap (λ m. trimmed_len (map role (take (m - cond closed 1 0) (kinds_of part))))
    (kinds_len part)
    ∙ ap (λ ks. trimmed_len (map role ks)) (kinds_take (length part - cond closed 1 0) part)
    ∙ ap trimmed_len (kinds_roles (take (length part - cond closed 1 0) part)) in
    let cut = cut_at ts from to n (omega arith) in
    let nested = ap (nested_steps 0 at) cut.prefix in
    let tokens = ap (λ m. token_steps m (slice_range ts (from + n) to)) cut.start
    ∙ ap (token_steps (at + total_len (take n part))) cut.left in
    rw (e4, e3, e2, e1, nested, tokens, ← body)
    (appended s0 (out.Enter node ∷ []) (nested_steps 0 at (take n part))
    (token_steps (at + total_len (take n part)) (drop n part)) (out.Exit ∷ [])
    ∙ ap (λ ys. s0 ++ ys) (sym (node_kept node at (take n part) (drop n part))))

-- ---- all children

-- the steps of all children are those of the first and of the others
first_woven : (c : List ℕ → List Step) (d : Division) (at : ℕ) (ts : List LexedToken) (n : ℕ) → 0 < length ts
    → n ≡ (first_child d (map lexed_role ts)).tokens
    → woven_children_by c at (parts lexed_role d ts)
    ≡ woven_by c at (take n ts)
    ++ woven_children_by c (at + total_len (take n ts)) (parts lexed_role d (drop n ts))
first_woven c d at [] n some n_is = absurd (omega arith)
first_woven c d at (t ∷ ts) n some n_is =
    let m = more_of lexed_role d t ts in
    let count : n ≡ suc m = n_is ∙ first_tokens d (lexed_role t) (map lexed_role ts) in
    rw count (ap (woven_children_by c at) (first_part lexed_role d t ts))

-- a child extends no further than the tokens
pub child_within : (ts : List LexedToken) (kinds rest : List ℕ) (at n : ℕ) → kinds ≡ kinds_of ts
    → at < length kinds → rest ≡ take (length kinds - at) (drop at kinds) → n ≤ length rest
    → at + n ≤ length ts
child_within ts kinds rest at n ks some rest_is within =
    let count = ap length ks ∙ kinds_len ts in
    let left = ap length (rest_is ∙ take_rest kinds at) ∙ length-drop at kinds in
    omega arith

-- the kinds that are left are those of the tokens that are
pub kinds_left : (ts : List LexedToken) (kinds : List ℕ) (at : ℕ) → kinds ≡ kinds_of ts
    → take (length kinds - at) (drop at kinds) ≡ kinds_of (drop at ts)
kinds_left ts kinds at ks = take_rest kinds at ∙ ap (drop at) ks ∙ kinds_drop at ts

-- the steps of the children that are left, whose first token has an index
abbrev left_children : (List ℕ → List Step) → Division → List LexedToken → ℕ → List StrStep
left_children c d ts at =
    woven_children_by c (token_start ts at) (parts lexed_role d (drop at ts))

-- the steps that were emitted under the root and the errors that were appended, and what those of
-- the children that are left add to them, are all; the next token and the next lexical error have
-- these indices
pub record ChildrenSoFar (c : List ℕ → List Step) (d : Division) (ts : List LexedToken)
    (at error : ℕ) (steps : List StrStep) (errors : List ParseError) : Type 0 where
  pub steps_are : steps ++ without_errors (left_children c d ts at)
      ≡ out.Enter SOURCE_FILE ∷ without_errors (left_children c d ts 0)
  pub errors_are : errors ++ merged_from ts at error (left_children c d ts at ++ out.Exit ∷ [])
      ≡ merged_errors 0 ts (errors_of 0 ts) (left_children c d ts 0 ++ out.Exit ∷ [])

-- before the first child
pub children_start : (c : List ℕ → List Step) (d : Division) (ts : List LexedToken)
    (steps before : List StrStep) (errors : List ParseError)
    → steps ≡ before ++ out.Enter SOURCE_FILE ∷ [] → before ≡ [] → errors ≡ []
    → ChildrenSoFar c d ts 0 0 steps errors
children_start c d ts steps before errors is none no_errors =
    rw (is, none, no_errors) (record { steps_are = refl; errors_are = refl })

-- the first child of the tokens that are left
record FirstLeft (c : List ℕ → List Step) (d : Division) (ts : List LexedToken) (at : ℕ) (shape : ChildShape)
    (end : ℕ) : Type 0 where
  some : 0 < length (drop at ts)
  is : shape ≡ first_shape d (kinds_of (drop at ts))
  here : slice_range ts at end ≡ take shape.tokens (drop at ts)
  start : token_start ts end ≡ token_start ts at + total_len (take shape.tokens (drop at ts))
  others : drop end ts ≡ drop shape.tokens (drop at ts)
  first : left_children c d ts at
      ≡ woven_by c (token_start ts at) (take shape.tokens (drop at ts))
      ++ left_children c d ts end

first_left : (c : List ℕ → List Step) (d : Division) (ts : List LexedToken) (kinds rest : List ℕ) (at end : ℕ)
    (shape : ChildShape) → kinds ≡ kinds_of ts → at < length kinds
    → rest ≡ take (length kinds - at) (drop at kinds) → shape ≡ first_shape d rest
    → end ≡ at + shape.tokens → FirstLeft c d ts at shape end
first_left c d ts kinds rest at end shape ks some rest_is shape_of end_is =
    let all = drop at ts in
    let n = shape.tokens in
    let from = token_start ts at in
    let rest_of : rest ≡ kinds_of all = rest_is ∙ kinds_left ts kinds at ks in
    let size = length-drop at ts in
    let count = ap length ks ∙ kinds_len ts in
    let left : 0 < length all = omega arith in
    let is : shape ≡ first_shape d (kinds_of all) = shape_of ∙ ap (first_shape d) rest_of in
    let tokens : n ≡ (first_child d (map lexed_role all)).tokens =
    ap (λ (s : ChildShape). s.tokens) is
    ∙ ap (λ fs. (first_child d fs).tokens) (kinds_roles all) in
    let next : token_start ts end ≡ from + total_len (take n all) =
    ap (token_start ts) end_is ∙ start_after at n ts in
    let others : drop end ts ≡ drop n all = ap (λ m. drop m ts) end_is ∙ sym (drop-drop n at ts) in
    record {
      some = left;
      is = is;
      here = ap (λ m. take m all) (omega arith);
      start = next;
      others = others;
      first = first_woven c d from all n left tokens
          ∙ ap (λ m. woven_by c from (take n all)
          ++ woven_children_by c m (parts lexed_role d (drop n all))) (sym next)
          ∙ ap (λ us. woven_by c from (take n all)
          ++ woven_children_by c (token_start ts end) (parts lexed_role d us)) (sym others);
    }

-- the steps of a leaf that were emitted, and of a node of the plain grammar, are those of a child
abbrev pub Emitted : Result (Unit {0}) FrontError → (steps all own : List StrStep) → Type 0
Emitted r steps all own = OnOk r (all ≡ steps ++ own)

first_some : (ts : List LexedToken) (from n : ℕ) → 1 ≤ n → from + n ≤ length ts
    → 0 < length (drop from ts)
first_some ts from n some within = let size = length-drop from ts in omega arith

pub leaf_emitted : (c : List ℕ → List Step) (d : Division) (ts : List LexedToken) (from : ℕ)
    (shape : ChildShape) (r : Result (Unit {0}) FrontError) (steps all : List StrStep)
    → shape ≡ first_shape d (kinds_of (drop from ts)) → 1 ≤ shape.tokens
    → from + shape.tokens ≤ length ts → shape.node ≡ None
    → Emitted r steps all
    (token_steps (token_start ts from) (slice_range ts from (from + shape.tokens)))
    → Emitted r steps all (child_at c ts from shape.tokens)
leaf_emitted c d ts from shape r steps all is some within none emitted =
    let count : from + shape.tokens - from ≡ shape.tokens = omega arith in
    subst (Emitted r steps all)
    (ap (λ n. token_steps (token_start ts from) (take n (drop from ts))) count
    ∙ sym (leaf_steps c d (token_start ts from) (drop from ts) shape
    (first_some ts from shape.tokens some within) is none)) emitted

pub plain_emitted : (d : Division) (ts : List LexedToken) (from : ℕ) (shape : ChildShape)
    (node : ℕ) (r : Result (Unit {0}) FrontError) (steps all : List StrStep)
    → IsFirstNode d ts from shape node
    → Emitted r steps all (without_errors (node_steps node shape.closed (token_start ts from)
    (slice_range ts from (from + shape.tokens))))
    → Emitted r steps all (child_at (child_steps d) ts from shape.tokens)
plain_emitted d ts from shape node r steps all first emitted =
    let count : from + shape.tokens - from ≡ shape.tokens = omega arith in
    let at = token_start ts from in
    let part = take shape.tokens (drop from ts) in
    subst (Emitted r steps all)
    (ap (λ n. without_errors (node_steps node shape.closed at (take n (drop from ts)))) count
    ∙ ap (λ own. without_errors (child_steps_by own shape.closed at part)) (sym first.node_is)
    ∙ ap without_errors (shape_is d at (drop from ts) shape
    (first_some ts from shape.tokens first.some first.within) first.first)) emitted

-- one more child: its steps
steps_more : (own left steps steps' start all : List StrStep) → all ≡ own ++ left
    → steps ++ without_errors all ≡ start → steps' ≡ steps ++ without_errors own
    → steps' ++ without_errors left ≡ start
steps_more own left steps steps' start all all_is so_far more =
    rw more (append_assoc steps (without_errors own) (without_errors left))
    ∙ ap (λ ys. steps ++ ys) (sym (ap without_errors all_is ∙ without_errors_append own left))
    ∙ so_far

-- and its error
error_more : (c : List ℕ → List Step) → AreChildSteps c → (d : Division) (ts : List LexedToken) (at end error next : ℕ) (shape : ChildShape)
    (errors errors' start : List ParseError) → FirstLeft c d ts at shape end
    → ((offset : ℕ) (ys : List StrStep) → errors' ++ merged_from ts at next ys
    ≡ errors ++ merged_from ts at error (child_error offset shape.node ++ ys))
    → errors ++ merged_from ts at error (left_children c d ts at ++ out.Exit ∷ []) ≡ start
    → errors' ++ merged_from ts end next (left_children c d ts end ++ out.Exit ∷ []) ≡ start
error_more c law d ts at end error next shape errors errors' start left more so_far =
    let all = drop at ts in
    let from = token_start ts at in
    let part = take shape.tokens all in
    let us = drop shape.tokens all in
    let own = woven_by c from part in
    let rest = left_children c d ts end ++ out.Exit ∷ [] in
    let joined : part ++ us ≡ all = take-append-drop shape.tokens all in
    let es = λ (i : ℕ). drop i (errors_of 0 ts) in
    let h = error_first c law d from all us shape rest left.some left.is in
    ap (λ n. errors' ++ merged_errors n (drop end ts) (es next) rest) left.start
    ∙ ap (λ vs. errors' ++ merged_errors (from + total_len part) vs (es next) rest) left.others
    ∙ ap (λ zs. errors' ++ zs) (sym (h.others (es next)))
    ∙ ap (λ vs. errors' ++ merged_errors from vs (es next) h.rest) joined
    ∙ more from h.rest
    ∙ ap (λ vs. errors ++ merged_errors from vs (es error)
    (child_error from shape.node ++ h.rest)) (sym joined)
    ∙ ap (λ zs. errors ++ zs) (sym (h.error_first (es error)))
    ∙ ap (λ vs. errors ++ merged_errors from vs (es error) (own ++ rest)) joined
    ∙ ap (λ ys. errors ++ merged_from ts at error ys)
    (sym (ap (λ ys. ys ++ out.Exit ∷ []) left.first
    ∙ append_assoc own (left_children c d ts end) (out.Exit ∷ []))) ∙ so_far

-- one more child
pub children_more : (c : List ℕ → List Step) → AreChildSteps c → (d : Division)
    (ts : List LexedToken) (kinds rest : List ℕ) (at end error next : ℕ) (shape : ChildShape)
    (steps steps' : List StrStep) (errors errors' : List ParseError)
    → kinds ≡ kinds_of ts → at < length kinds → rest ≡ take (length kinds - at) (drop at kinds)
    → shape ≡ first_shape d rest → end ≡ at + shape.tokens
    → steps' ≡ steps ++ child_at c ts at shape.tokens
    → ((offset : ℕ) (ys : List StrStep) → errors' ++ merged_from ts at next ys
    ≡ errors ++ merged_from ts at error (child_error offset shape.node ++ ys))
    → ChildrenSoFar c d ts at error steps errors → ChildrenSoFar c d ts end next steps' errors'
children_more c law d ts kinds rest at end error next shape steps steps' errors errors' ks some
    rest_is shape_of end_is steps_is errors_is so_far =
    let left = first_left c d ts kinds rest at end shape ks some rest_is shape_of end_is in
    let own = woven_by c (token_start ts at) (take shape.tokens (drop at ts)) in
    record {
      steps_are = steps_more own (left_children c d ts end) steps steps' _ _ left.first
          so_far.steps_are steps_is;
      errors_are = error_more c law d ts at end error next shape errors errors' _ left errors_is
          so_far.errors_are;
    }

-- the root with all of its children
pub record ChildrenDone (told : List ℕ → List Step) (ts : List LexedToken) (error : ℕ)
    (steps : List StrStep) (errors : List ParseError) : Type 0 where
  pub steps_are : steps ≡ without_errors (woven_text told ts)
  pub errors_are : errors ++ drop error (errors_of 0 ts)
      ≡ merged_errors 0 ts (errors_of 0 ts) (woven_text told ts)

pub children_done : (c told : List ℕ → List Step) (d : Division) → IsGrammarOf d c told
    → (ts : List LexedToken) (kinds : List ℕ) (at error : ℕ) (steps steps' : List StrStep)
    (errors : List ParseError) → kinds ≡ kinds_of ts → length kinds ≤ at
    → ChildrenSoFar c d ts at error steps errors → steps' ≡ steps ++ out.Exit ∷ []
    → ChildrenDone told ts error steps' errors
children_done c told d law ts kinds at error steps steps' errors ks past so_far more =
    let count = ap length ks ∙ kinds_len ts in
    let none = drop_all at ts (omega arith) in
    let no_left : left_children c d ts at ≡ [] =
    ap (λ us. woven_children_by c (token_start ts at) (parts lexed_role d us)) none in
    let all = left_children c d ts 0 in
    let made : steps ≡ out.Enter SOURCE_FILE ∷ without_errors all =
    sym (append-nil steps) ∙ ap (λ ys. steps ++ without_errors ys) (sym no_left)
    ∙ so_far.steps_are in
    let steps_is : steps' ≡ out.Enter SOURCE_FILE ∷ (without_errors all ++ out.Exit ∷ []) =
    more ∙ ap (λ ys. ys ++ out.Exit ∷ []) made in
    let weave_is : woven_text told ts ≡ out.Enter SOURCE_FILE ∷ (all ++ out.Exit ∷ []) =
    ap (weave ts) (law.root (kinds_without_trivia ts))
    ∙ ap (λ ys. out.Enter SOURCE_FILE ∷ ys)
    (placed_by c law.children (length ts) d 0 ts (omega arith)) in
    record {
      steps_are = steps_is
          ∙ ap (λ ys. out.Enter SOURCE_FILE ∷ ys) (sym (without_errors_append all (out.Exit ∷ [])))
          ∙ ap without_errors (sym weave_is);
      errors_are = ap (λ ys. errors ++ merged_from ts at error (ys ++ out.Exit ∷ []))
          (sym no_left) ∙ so_far.errors_are
          ∙ ap (merged_errors 0 ts (errors_of 0 ts)) (sym weave_is);
    }
