-- The errors that the steps of a child are merged with.
use Rattle.std.proofs.Common.{◌≡◌, ℕ, ◌+◌, ◌<◌, Bool, true, false, List, [], ◌∷◌, ◌++◌, length, take, append_assoc, refl, ap, sym, ◌∙◌, arith}
use Rattle.squawk_events.specs.Kinds.{is_trivia_kind}
use Rattle.squawk_events.specs.declared.steps.ParseError.{ParseError}
use Rattle.squawk_events.specs.declared.steps.Step.{Step}
use Rattle.squawk_events.specs.declared.steps.StrStep.{StrStep}
use Rattle.squawk_events.specs.declared.steps.StrStep.TheVariants as out
use Rattle.squawk_kinds.specs.Role.{role}
use Rattle.squawk_lexed.specs.LexedText.{total_len}
use Rattle.squawk_lexed.specs.LexedToken.{LexedToken, lexed_role}
use Rattle.squawk_lexed.specs.Stored.{kinds_of}
use Rattle.squawk_lexed.specs.Weave.{kinds_without_trivia, weave_from}
use Rattle.squawk_statements.specs.First.{child_node, first_shape}
use Rattle.squawk_statements.specs.Kinds.{role_trivia}
use Rattle.squawk_statements.specs.Plain.{node_of}
use Rattle.squawk_statements.specs.declared.division.Division.{Division}
use Rattle.squawk_statements.specs.declared.first.ChildShape.{ChildShape}
use Rattle.squawk_tree.specs.ChildGrammar.{AreChildSteps, woven_by}
use Rattle.squawk_tree.specs.ChildSteps.{unknown_error, child_error}
use Rattle.squawk_tree.specs.ParseOf.{token_steps}
use Rattle.squawk_tree.specs.Steps.{has_no_errors, only_tokens}
use Rattle.squawk_tree.specs.Walk.{merged_errors}
use Rattle.squawk_tree.proofs.ChildShapeLemmas.{node_is}
use Rattle.squawk_tree.proofs.FirstChildLemmas.{first_parts}
use Rattle.squawk_tree.proofs.CutLemmas.{trivia_role}
use Rattle.squawk_tree.proofs.FirstPart.{more_of}
use Rattle.squawk_tree.proofs.FitsLemmas.{inner_tokens}
use Rattle.squawk_tree.proofs.LeavesLemmas.{leaves_woven}
use Rattle.squawk_tree.proofs.WovenNode.{inner_balanced, inside_no_errors, leaf_by, node_begins}

-- ---- steps without an `Error`, before other steps

-- the merged errors of steps without an `Error`, whose tokens are these, and of other steps are
-- those of the other steps
merged_past : (at : ℕ) (ts us : List LexedToken) (es : List ParseError) (own ys : List StrStep)
    → has_no_errors own ≡ true → only_tokens own ≡ token_steps at ts
    → merged_errors at (ts ++ us) es (own ++ ys) ≡ merged_errors (at + total_len ts) us es ys
merged_past at [] us es [] ys h e =
    ap (λ n. merged_errors n us es ys) (let e : at ≡ at + 0 = omega arith in e)
merged_past at (t ∷ ts) us es [] ys h e = absurd (cc)
merged_past at ts us es (out.Enter kind ∷ own) ys h e = merged_past at ts us es own ys h e
merged_past at ts us es (out.Exit ∷ own) ys h e = merged_past at ts us es own ys h e
merged_past at ts us es (out.Error number offset ∷ own) ys h e = absurd (cc)
merged_past at [] us es (out.Token kind start end ∷ own) ys h e = absurd (cc)
merged_past at (t ∷ ts) us es (out.Token kind start end ∷ own) ys h e =
    let rest : only_tokens own ≡ token_steps (at + t.len) ts = cc in
    merged_past (at + t.len) ts us es own ys h rest
    ∙ ap (λ n. merged_errors n us es ys)
    (let e : at + t.len + total_len ts ≡ at + (t.len + total_len ts) = omega arith in e)

-- ---- a child

-- the steps of a child, before other steps: merged with lexical errors, they are its error and
-- steps that have none
pub record ErrorFirst (at : ℕ) (part us : List LexedToken) (own error ys : List StrStep)
    : Type 0 where
  pub rest : List StrStep
  pub error_first : (es : List ParseError) → merged_errors at (part ++ us) es (own ++ ys)
      ≡ merged_errors at (part ++ us) es (error ++ rest)
  pub others : (es : List ParseError) → merged_errors at (part ++ us) es rest
      ≡ merged_errors (at + total_len part) us es ys

-- a leaf
leaf_error : (c : List ℕ → List Step) (at : ℕ) (t : LexedToken) (us : List LexedToken)
    (ys : List StrStep) → is_trivia_kind t.kind ≡ true
    → ErrorFirst at (t ∷ []) us (woven_by c at (t ∷ [])) [] ys
leaf_error c at t us ys is =
    let own = woven_by c at (t ∷ []) in
    record {
      rest = own ++ ys;
      error_first = λ es. refl;
      others = λ es. merged_past at (t ∷ []) us es own ys
          (ap has_no_errors (leaf_by c at t [] is)) (ap only_tokens (leaf_by c at t [] is));
    }

-- a node
node_error : (c : List ℕ → List Step) (law : AreChildSteps c) (at : ℕ) (t : LexedToken)
    (ts us : List LexedToken) (ys : List StrStep) → is_trivia_kind t.kind ≡ false
    → ErrorFirst at (t ∷ ts) us (woven_by c at (t ∷ ts))
    (unknown_error at (node_of (kinds_without_trivia (t ∷ ts)))) ys
node_error c law at t ts us ys is =
    let part = t ∷ ts in
    let ks = kinds_without_trivia part in
    let u = unknown_error at (node_of ks) in
    let inner = weave_from at part (law ks).inner in
    record {
      rest = inner ++ ys;
      error_first = λ es.
          ap (λ own. merged_errors at (part ++ us) es (own ++ ys)) (node_begins c law at t ts is)
          ∙ ap (merged_errors at (part ++ us) es) (append_assoc u inner ys);
      others = λ es. merged_past at part us es inner ys
          (inside_no_errors at part (law ks).inner (law ks).inside)
          (leaves_woven 0 at part (law ks).inner (inner_balanced ks (c ks) (law ks))
          (sym (inner_tokens ks (c ks) (law ks))));
    }

-- the first child of tokens
pub error_first : (c : List ℕ → List Step) → AreChildSteps c
    → (d : Division) (at : ℕ) (ts us : List LexedToken) (shape : ChildShape) (ys : List StrStep)
    → 0 < length ts → shape ≡ first_shape d (kinds_of ts)
    → ErrorFirst at (take shape.tokens ts) us (woven_by c at (take shape.tokens ts))
    (child_error at shape.node) ys
error_first c law d at [] us shape ys some is = absurd (omega arith)
error_first c law d at (t ∷ ts) us shape ys some is =
    let parts = first_parts d t ts shape is in
    rw (parts.count, parts.node) (by (is_trivia_kind t.kind) refl)
  where
    by : (b : Bool) → is_trivia_kind t.kind ≡ b
        → ErrorFirst at (t ∷ take (more_of lexed_role d t ts) ts) us
        (woven_by c at (t ∷ take (more_of lexed_role d t ts) ts))
        (child_error at (child_node (kinds_of (t ∷ take (more_of lexed_role d t ts) ts)))) ys
    by true is =
        let f = trivia_role (role t.kind) (role_trivia t.kind ∙ is) in
        rw f (leaf_error c at t us ys is)
    by false is = rw (node_is t (take (more_of lexed_role d t ts) ts) is)
        (node_error c law at t (take (more_of lexed_role d t ts) ts) us ys is)
