-- The first child of tokens, by its shape, and the steps of a leaf.
use Rattle.std.proofs.Common.{◌≡◌, ℕ, suc, ◌<◌, Bool, true, false, List, [], ◌∷◌, length, take, map, refl, ap, sym, ◌∙◌, arith}
use Rattle.std.specs.Prelude.{None}
use Rattle.squawk_events.specs.Kinds.{is_trivia_kind}
use Rattle.squawk_events.specs.declared.steps.Step.{Step}
use Rattle.squawk_kinds.specs.Role.{role}
use Rattle.squawk_lexed.specs.LexedToken.{LexedToken, lexed_role}
use Rattle.squawk_lexed.specs.Stored.{kinds_of}
use Rattle.squawk_statements.specs.Children.{first_child}
use Rattle.squawk_statements.specs.First.{child_node, first_shape}
use Rattle.squawk_statements.specs.Kinds.{role_trivia}
use Rattle.squawk_statements.specs.declared.division.Division.{Division}
use Rattle.squawk_statements.specs.declared.first.ChildShape.{ChildShape}
use Rattle.squawk_tree.specs.ChildGrammar.{woven_by}
use Rattle.squawk_tree.specs.ParseOf.{token_steps}
use Rattle.squawk_tree.specs.Steps.{without_errors}
use Rattle.squawk_tree.proofs.ChildShapeLemmas.{node_is}
use Rattle.squawk_tree.proofs.ChildTokenLemmas.{kinds_roles, kinds_take}
use Rattle.squawk_tree.proofs.CutLemmas.{trivia_role}
use Rattle.squawk_tree.proofs.FirstPart.{more_of, first_tokens}
use Rattle.squawk_tree.proofs.WovenNode.{leaf_by}

-- its tokens are the first and some after it, and its node is that of their kinds
pub record FirstParts (d : Division) (t : LexedToken) (ts : List LexedToken) (shape : ChildShape)
    : Type 0 where
  pub count : shape.tokens ≡ suc (more_of lexed_role d t ts)
  pub node : shape.node ≡ child_node (kinds_of (t ∷ take (more_of lexed_role d t ts) ts))

pub first_parts : (d : Division) (t : LexedToken) (ts : List LexedToken) (shape : ChildShape)
    → shape ≡ first_shape d (kinds_of (t ∷ ts)) → FirstParts d t ts shape
first_parts d t ts shape is =
    let all = t ∷ ts in
    let m = more_of lexed_role d t ts in
    let count : shape.tokens ≡ suc m = ap (λ (s : ChildShape). s.tokens) is
    ∙ ap (λ fs. (first_child d fs).tokens) (kinds_roles all)
    ∙ first_tokens d (lexed_role t) (map lexed_role ts) in
    record {
      count = count;
      node = ap (λ (s : ChildShape). s.node) is
          ∙ ap (λ n. child_node (take n (kinds_of all)))
          (sym (ap (λ (s : ChildShape). s.tokens) is) ∙ count)
          ∙ ap child_node (kinds_take (suc m) all);
    }

-- the steps of a leaf
pub leaf_steps : (c : List ℕ → List Step) (d : Division) (at : ℕ) (ts : List LexedToken)
    (shape : ChildShape) → 0 < length ts → shape ≡ first_shape d (kinds_of ts)
    → shape.node ≡ None
    → without_errors (woven_by c at (take shape.tokens ts)) ≡ token_steps at (take shape.tokens ts)
leaf_steps c d at [] shape some is none = absurd (omega arith)
leaf_steps c d at (t ∷ ts) shape some is none =
    let parts = first_parts d t ts shape is in
    let none : child_node (kinds_of (t ∷ take (more_of lexed_role d t ts) ts)) ≡ None =
    sym parts.node ∙ none in
    rw parts.count (by (is_trivia_kind t.kind) refl none)
  where
    by : (b : Bool) → is_trivia_kind t.kind ≡ b
        → child_node (kinds_of (t ∷ take (more_of lexed_role d t ts) ts)) ≡ None
        → without_errors (woven_by c at (t ∷ take (more_of lexed_role d t ts) ts))
        ≡ token_steps at (t ∷ take (more_of lexed_role d t ts) ts)
    by true is none =
        let f = trivia_role (role t.kind) (role_trivia t.kind ∙ is) in
        rw f (ap without_errors (leaf_by c at t [] is))
    by false is none =
        let node = sym (node_is t (take (more_of lexed_role d t ts) ts) is) ∙ none in
        absurd (cc)
