-- `ChildSpan` values, without their ranges, are the children of the root.
use Rattle.std.proofs.Common.{◌≡◌, ℕ, zero, suc, ◌+◌, ◌==◌, true, List, [], ◌∷◌, map, ap, refl, ◌∙◌, arith}
use Rattle.std.proofs.lemmas.Bool.{eqb-true}
use Rattle.squawk_events.specs.declared.steps.StrStep.{StrStep}
use Rattle.squawk_events.specs.declared.steps.StrStep.TheVariants.{Enter, Token, Exit, Error}
use Rattle.squawk_tree.specs.ChildSpans.{node_tokens, child_spans_from, child_spans, span_child}
use Rattle.squawk_tree.specs.Steps.{Leaf, Node, closes, is_balanced, root_children_from, root_children}

-- a number above 0 is not 0
never : (d : ℕ) {P : Type 0} → (suc d == 0) ≡ true → P
never d h = absurd (let e : suc d ≡ 0 = eqb-true (suc d) 0 h in omega arith)

mutual
  -- directly under the root
  under_root : (i at : ℕ) (xs : List StrStep) → closes 1 xs ≡ true
      → map span_child (child_spans_from 0 i at xs) ≡ root_children_from 0 0 xs
  under_root i at [] h = refl
  under_root i at (Token kind start end ∷ xs) h = ap (λ cs. Leaf ∷ cs) (under_root (i + 1) end xs h)
  under_root i at (Enter kind ∷ xs) h =
      ap (λ n. Node n ∷ map span_child (child_spans_from 1 (i + 1) at xs))
      (let e : node_tokens 0 xs ≡ 0 + node_tokens 0 xs = omega arith in e)
      ∙ in_child 0 0 (i + 1) at xs h
  under_root i at (Exit ∷ xs) h = refl
  under_root i at (Error number offset ∷ xs) h = under_root (i + 1) at xs h

  -- in a child of which n tokens were read, and inside which d nodes are open
  in_child : (d n i at : ℕ) (xs : List StrStep) → closes (suc (suc d)) xs ≡ true
      → Node (n + node_tokens d xs) ∷ map span_child (child_spans_from (suc d) i at xs)
      ≡ root_children_from (suc d) n xs
  in_child d n i at [] h = never (suc d) h
  in_child d n i at (Token kind start end ∷ xs) h =
      ap (λ m. Node m ∷ map span_child (child_spans_from (suc d) (i + 1) end xs))
      (let e : n + suc (node_tokens d xs) ≡ n + 1 + node_tokens d xs = omega arith in e)
      ∙ in_child d (n + 1) (i + 1) end xs h
  in_child d n i at (Enter kind ∷ xs) h = in_child (suc d) n (i + 1) at xs h
  in_child zero n i at (Exit ∷ xs) h =
      ap (λ m. Node m ∷ map span_child (child_spans_from 0 (i + 1) at xs))
      (let e : n + 0 ≡ n = omega arith in e)
      ∙ ap (λ cs. Node n ∷ cs) (under_root (i + 1) at xs h)
  in_child (suc d) n i at (Exit ∷ xs) h = in_child d n (i + 1) at xs h
  in_child d n i at (Error number offset ∷ xs) h = in_child d n (i + 1) at xs h

-- the `ChildSpan` values of a balanced tree are its root children
pub spans_are_children : (steps : List StrStep) → is_balanced steps ≡ true
    → map span_child (child_spans steps) ≡ root_children steps
spans_are_children [] h = refl
spans_are_children (Enter kind ∷ xs) h = under_root 1 0 xs h
spans_are_children (Token kind start end ∷ xs) h = refl
spans_are_children (Exit ∷ xs) h = refl
spans_are_children (Error number at ∷ xs) h = refl
