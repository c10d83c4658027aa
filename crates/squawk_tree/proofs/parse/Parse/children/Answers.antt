use Rattle.std.proofs.Common.{◌≡◌, ℕ, List, map, true, ap, subst, ◌∙◌}
use Rattle.squawk_tree.specs.ChildSpans.{child_spans, span_child}
use Rattle.squawk_tree.specs.Steps.{root_children, is_balanced}
use Rattle.squawk_tree.specs.Tree.{Tree, IsStored}
use Rattle.squawk_tree.specs.declared.children.ChildSpan.{ChildSpan}
use Rattle.squawk_tree.proofs.SpanChildren.{spans_are_children}
use Rattle.squawk_tree.proofs.parse.Parse.children.Goals as goal

-- the stored children are those of the steps of the tree: their spans, and the root children
seen_children : (t u : Tree) (spans : List (ℕ × ℕ)) (counts : List ℕ)
    (children : List ChildSpan) → IsStored t spans counts children → t ≡ u → children ≡ child_spans u.steps
seen_children t u spans counts children kept is =
    kept.children_are ∙ ap (λ (t : Tree). child_spans t.steps) is

shown_children : (t u : Tree) (spans : List (ℕ × ℕ)) (counts : List ℕ)
    (children : List ChildSpan) → IsStored t spans counts children → t ≡ u → map span_child children ≡ root_children u.steps
shown_children t u spans counts children kept is =
    ap (map span_child) (seen_children t u spans counts children kept is)
    ∙ spans_are_children u.steps (subst (λ (t : Tree). is_balanced t.steps ≡ true) is
    kept.tree.balanced)

pub returns-clause-spans : goal.returns-clause-spans
returns-clause-spans c =
    c.deref.ensures.value ∙ seen_children _ _ _ _ _ c.self.invariant c.self.view_is

pub returns-clause-children : goal.returns-clause-children
returns-clause-children c =
    ap (map span_child) c.deref.ensures.value
    ∙ shown_children _ _ _ _ _ c.self.invariant c.self.view_is
