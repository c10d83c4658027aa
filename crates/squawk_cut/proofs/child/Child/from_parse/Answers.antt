use Rattle.std.proofs.Common.{sym, subst}
use Rattle.squawk_cut.specs.ChildValue.{IsChild}
use Rattle.squawk_cut.proofs.RootChild.{only_of, only_value}
use Rattle.squawk_cut.proofs.child.Child.from_parse.Goals as goal

pub invariant_of-result : goal.invariant_of-result
invariant_of-result c =
    let t = c.args.parse.now in
    subst IsChild (sym (only_value t _ c.index-children-0.result _ _ _ _ _ _
    (only_of t _ c.len-bytes.ensures.tree c.requires.one)
    c.children.ensures.spans c.index-children-0.is c.len-bytes.ensures.len c.steps-steps.ensures
    (c.in_ok-steps.ensures.items_if_clones_equal (λ x y h. h)) c.errors.ensures.errors
    (c.in_ok-errors.ensures.items_if_clones_equal (λ x y h. h))))
    (only_of t _ c.len-bytes.ensures.tree c.requires.one).child

pub returns-clause-child : goal.returns-clause-child
returns-clause-child c =
    let t = c.args.parse.now in
    only_value t _ c.index-children-0.result _ _ _ _ _ _
    (only_of t _ c.len-bytes.ensures.tree c.requires.one)
    c.children.ensures.spans c.index-children-0.is c.len-bytes.ensures.len c.steps-steps.ensures
    (c.in_ok-steps.ensures.items_if_clones_equal (λ x y h. h)) c.errors.ensures.errors
    (c.in_ok-errors.ensures.items_if_clones_equal (λ x y h. h))
