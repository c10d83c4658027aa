use Rattle.std.proofs.Common.{◌≡◌, ℕ, ◌<◌, ◌≤◌, List, arith, ap, sym, subst, ◌∙◌, length, take, get_or, slice_get}
use Rattle.std.proofs.lemmas.Option.{slice_get_read}
use Rattle.std.specs.Prelude.{Some, None}
use Rattle.squawk_events.specs.declared.steps.StrStep.{StrStep}
use Rattle.squawk_tree.specs.NodeRanges.{token_range, node_step_count, node_ranges}
use Rattle.squawk_tree.specs.Ranges.{ranges}
use Rattle.squawk_tree.specs.Tree.{Tree, IsTree}
use Rattle.squawk_tree.proofs.NodeRangeLemmas.{token_range_is, node_range_is, node_range_within}
use Rattle.squawk_tree.proofs.OrderLemmas.{ordered}
use Rattle.squawk_tree.proofs.parse.Parse.span.Goals as goal

-- a step that is read from the stored list is that of the tree
read_step : (t u : Tree) (n i : ℕ) (x : StrStep) → t ≡ u → n ≡ length t.steps
    → i < length u.steps → x ≡ get_or t.steps i x → slice_get u.steps i ≡ Some x
read_step t u n i x is len lt read =
    subst (λ (u : Tree). i < length u.steps → slice_get u.steps i ≡ Some x) is
    (λ lt. slice_get_read t.steps n i x len (omega (arith, len, lt)) read) lt

-- a range that is read from the stored list is that of the node
read_range : (steps : List StrStep) (spans : List (ℕ × ℕ)) (i n len : ℕ) (x : StrStep) (r : ℕ × ℕ)
    → len ≡ length spans → r ≡ get_or spans n r → i < length steps
    → slice_get steps i ≡ Some x → token_range x ≡ None → spans ≡ node_ranges steps
    → n ≡ node_step_count (take i steps) → slice_get (ranges steps) i ≡ Some r
read_range steps spans i n len x r len_is read lt at none spans_are n_is =
    let within = node_range_within steps spans i n x lt at none spans_are n_is in
    sym (node_range_is steps spans i n x at none spans_are n_is)
    ∙ slice_get_read spans len n r len_is (omega (arith, within, len_is)) read

-- no range ends before its start
in_order : (t u : Tree) (i : ℕ) (r : ℕ × ℕ) → IsTree t → t ≡ u
    → slice_get (ranges u.steps) i ≡ Some r → r.0 ≤ r.1
in_order t u i r tree is at = ordered u.steps u.len i r (subst IsTree is tree).tiled at

pub returns-in-Some-clause-range : goal.returns-in-Some-clause-range
returns-in-Some-clause-range c =
    token_range_is c.args.self.now.steps c.args.i c.index.result.now c.in-Some.range
    (read_step _ _ _ c.args.i c.index.result.now c.self.view_is c.self.inside.steps.ok.0 c.requires
    c.index.ensures) (sym c.token_range.ensures ∙ c.in-Some.is)

pub returns-in-Some-clause-ordered : goal.returns-in-Some-clause-ordered
returns-in-Some-clause-ordered c =
    in_order _ _ c.args.i c.in-Some.range c.self.invariant.tree c.self.view_is
    (returns-in-Some-clause-range c)

pub index-requires-in-None : goal.index-requires-in-None
index-requires-in-None c =
    subst (λ len. c.node_steps_before.result < len) (sym c.self.inside.spans.ok.0)
    (node_range_within c.args.self.now.steps c.self.inside.spans.items c.args.i
    c.node_steps_before.result c.index.result.now c.requires
    (read_step _ _ _ c.args.i c.index.result.now c.self.view_is c.self.inside.steps.ok.0 c.requires
    c.index.ensures) (sym c.token_range.ensures ∙ c.in-None.is)
    (c.self.invariant.spans_are ∙ ap (λ (t : Tree). node_ranges t.steps) c.self.view_is)
    (c.node_steps_before.ensures ∙ ap (λ xs. node_step_count (take c.args.i xs))
    (c.deref-in-None.ensures.value ∙ ap (λ (t : Tree). t.steps) c.self.view_is)))

pub returns-in-None-clause-range : goal.returns-in-None-clause-range
returns-in-None-clause-range c =
    read_range c.args.self.now.steps c.self.inside.spans.items c.args.i c.node_steps_before.result _
    c.index.result.now c.index-in-None.result.now c.self.inside.spans.ok.0
    c.index-in-None.ensures c.requires
    (read_step _ _ _ c.args.i c.index.result.now c.self.view_is c.self.inside.steps.ok.0 c.requires
    c.index.ensures) (sym c.token_range.ensures ∙ c.in-None.is)
    (c.self.invariant.spans_are ∙ ap (λ (t : Tree). node_ranges t.steps) c.self.view_is)
    (c.node_steps_before.ensures ∙ ap (λ xs. node_step_count (take c.args.i xs))
    (c.deref-in-None.ensures.value ∙ ap (λ (t : Tree). t.steps) c.self.view_is))

pub returns-in-None-clause-ordered : goal.returns-in-None-clause-ordered
returns-in-None-clause-ordered c =
    in_order _ _ c.args.i c.index-in-None.result.now c.self.invariant.tree c.self.view_is
    (returns-in-None-clause-range c)
