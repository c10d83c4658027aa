-- The weave of a child by the steps of a grammar of children.
use Rattle.std.proofs.Common.{◌≡◌, ℕ, ◌+◌, ◌==◌, Bool, true, false, cond, List, [], ◌∷◌, ◌++◌, append_assoc, refl, ap, sym, ◌∙◌}
use Rattle.std.proofs.lemmas.Bool.{and_parts}
use Rattle.squawk_events.specs.Kinds.{is_trivia_kind}
use Rattle.squawk_events.specs.Lawful.{closes, is_balanced, token_kinds}
use Rattle.squawk_events.specs.declared.steps.Step.{Step}
use Rattle.squawk_events.specs.declared.steps.Step.TheVariants.{Enter, Token, Exit, Error}
use Rattle.squawk_events.specs.declared.steps.StrStep.{StrStep}
use Rattle.squawk_events.specs.declared.steps.StrStep.TheVariants as out
use Rattle.squawk_kinds.specs.declared.numbers.TheConstants.Number.{ERROR}
use Rattle.squawk_lexed.specs.LexedToken.{LexedToken}
use Rattle.squawk_lexed.specs.Weave.{kinds_without_trivia, leading_trivia, leading_trivia_end, after_leading_trivia, next_len, weave_from}
use Rattle.squawk_statements.specs.Plain.{node_of, unknown_statement_error}
use Rattle.squawk_tree.specs.ChildGrammar.{AreChildSteps, IsChildSteps, has_token, is_inside, woven_by}
use Rattle.squawk_tree.specs.ChildSteps.{unknown_error}
use Rattle.squawk_tree.specs.Steps.{has_no_errors}
use Rattle.squawk_tree.proofs.ChildBodyLemmas.{enter_first}

-- a leaf, and a node
pub leaf_by : (c : List ℕ → List Step) (at : ℕ) (t : LexedToken) (ts : List LexedToken)
    → is_trivia_kind t.kind ≡ true
    → woven_by c at (t ∷ ts) ≡ out.Token t.kind at (at + t.len) ∷ []
leaf_by c at t ts is = rw is refl

pub node_woven_by : (c : List ℕ → List Step) (at : ℕ) (t : LexedToken) (ts : List LexedToken)
    → is_trivia_kind t.kind ≡ false
    → woven_by c at (t ∷ ts) ≡ weave_from at (t ∷ ts) (c (kinds_without_trivia (t ∷ ts)))
node_woven_by c at t ts is = rw is refl

-- the steps after the `Enter` of a node: they are balanced, and their tokens are the kinds
pub after_balanced : (kinds : List ℕ) (steps : List Step) (law : IsChildSteps kinds steps)
    → closes 1 (unknown_statement_error (node_of kinds) ++ law.inner) ≡ true
after_balanced kinds steps law = ap is_balanced (sym law.whole) ∙ law.balanced

pub after_tokens : (kinds : List ℕ) (steps : List Step) (law : IsChildSteps kinds steps)
    → token_kinds (unknown_statement_error (node_of kinds) ++ law.inner) ≡ kinds
after_tokens kinds steps law = ap token_kinds (sym law.whole) ∙ law.tokens

-- and so are those after the error of an unknown statement
closes_after_error : (b : Bool) (xs : List Step)
    → closes 1 (cond b (Error 10 ∷ []) [] ++ xs) ≡ closes 1 xs
closes_after_error true xs = refl
closes_after_error false xs = refl

pub inner_balanced : (kinds : List ℕ) (steps : List Step) (law : IsChildSteps kinds steps)
    → closes 1 law.inner ≡ true
inner_balanced kinds steps law =
    sym (closes_after_error (node_of kinds == ERROR) law.inner) ∙ after_balanced kinds steps law

-- the steps of a node: its `Enter`, the error of an unknown statement, and the steps inside
pub after_enter : (c : List ℕ → List Step) (law : AreChildSteps c) (at : ℕ) (t : LexedToken)
    (ts : List LexedToken) → is_trivia_kind t.kind ≡ false
    → woven_by c at (t ∷ ts) ≡ out.Enter (node_of (kinds_without_trivia (t ∷ ts)))
    ∷ weave_from at (t ∷ ts) (unknown_statement_error (node_of (kinds_without_trivia (t ∷ ts)))
    ++ (law (kinds_without_trivia (t ∷ ts))).inner)
after_enter c law at t ts is =
    let kinds = kinds_without_trivia (t ∷ ts) in
    let node = node_of kinds in
    node_woven_by c at t ts is ∙ ap (weave_from at (t ∷ ts)) (law kinds).whole
    ∙ enter_first at node t ts (unknown_statement_error node ++ (law kinds).inner) is

error_woven : (b : Bool) (at : ℕ) (ts : List LexedToken) (xs : List Step)
    → weave_from at ts (cond b (Error 10 ∷ []) [] ++ xs)
    ≡ cond b (out.Error 10 at ∷ []) [] ++ weave_from at ts xs
error_woven true at ts xs = refl
error_woven false at ts xs = refl

pub node_begins : (c : List ℕ → List Step) (law : AreChildSteps c) (at : ℕ) (t : LexedToken)
    (ts : List LexedToken) → is_trivia_kind t.kind ≡ false
    → woven_by c at (t ∷ ts) ≡ out.Enter (node_of (kinds_without_trivia (t ∷ ts)))
    ∷ (unknown_error at (node_of (kinds_without_trivia (t ∷ ts)))
    ++ weave_from at (t ∷ ts) (law (kinds_without_trivia (t ∷ ts))).inner)
node_begins c law at t ts is =
    let kinds = kinds_without_trivia (t ∷ ts) in
    after_enter c law at t ts is
    ∙ ap (λ ys. out.Enter (node_of kinds) ∷ ys)
    (error_woven (node_of kinds == ERROR) at (t ∷ ts) (law kinds).inner)

-- ---- the steps inside a node have no `Error`

trivia_no_errors : (at : ℕ) (ts : List LexedToken) (ys : List StrStep)
    → has_no_errors (leading_trivia at ts ++ ys) ≡ has_no_errors ys
trivia_no_errors at [] ys = refl
trivia_no_errors at (t ∷ ts) ys =
    by (is_trivia_kind t.kind) (trivia_no_errors (at + t.len) ts ys)
  where
    by : (b : Bool) → has_no_errors (leading_trivia (at + t.len) ts ++ ys) ≡ has_no_errors ys
        → has_no_errors (cond b (out.Token t.kind at (at + t.len)
        ∷ leading_trivia (at + t.len) ts) [] ++ ys) ≡ has_no_errors ys
    by true h = h
    by false h = refl

step_no_errors : (at : ℕ) (ts : List LexedToken) (y : StrStep) (ys : List StrStep)
    → has_no_errors ((leading_trivia at ts ++ y ∷ []) ++ ys) ≡ has_no_errors (y ∷ ys)
step_no_errors at ts y ys =
    ap has_no_errors (append_assoc (leading_trivia at ts) (y ∷ []) ys)
    ∙ trivia_no_errors at ts (y ∷ ys)

pub inside_no_errors : (at : ℕ) (ts : List LexedToken) (xs : List Step) → is_inside xs ≡ true
    → has_no_errors (weave_from at ts xs) ≡ true
inside_no_errors at ts [] h = refl
inside_no_errors at ts (Enter kind ∷ xs) h =
    step_no_errors at ts (out.Enter kind) (weave_from (leading_trivia_end at ts)
    (after_leading_trivia ts) xs)
    ∙ inside_no_errors (leading_trivia_end at ts) (after_leading_trivia ts) xs
    (and_parts (has_token xs) (is_inside xs) h).1
inside_no_errors at ts (Token kind ∷ xs) h =
    step_no_errors at ts (out.Token kind (leading_trivia_end at ts) (leading_trivia_end at ts
    + next_len (after_leading_trivia ts))) _
    ∙ inside_no_errors (leading_trivia_end at ts + next_len (after_leading_trivia ts)) _ xs h
inside_no_errors at ts (Exit ∷ []) h = step_no_errors at ts out.Exit []
inside_no_errors at ts (Exit ∷ x ∷ xs) h = inside_no_errors at ts (x ∷ xs) h
inside_no_errors at ts (Error number ∷ xs) h = absurd (cc)
