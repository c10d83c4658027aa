use Rattle.std.proofs.Common.{◌≡◌, ℕ, List, arith, ap, ◌∙◌, length, []}
use Rattle.std.proofs.lemmas.Slice.Zip.{length-zip}
use Rattle.std.specs.List.{zip}
use Rattle.squawk_events.specs.declared.steps.StrStep.{StrStep}
use Rattle.squawk_tree.specs.NodeRanges.{node_ranges, with_ranges}
use Rattle.squawk_tree.specs.Ranges.{ranges}
use Rattle.squawk_tree.specs.Tree.{Tree}
use Rattle.squawk_tree.proofs.NodeRangeLemmas.{with_all_ranges}
use Rattle.squawk_tree.proofs.RangeLemmas.{length_ranges_from}
use Rattle.squawk_tree.proofs.parse.Parse.steps_with_ranges.Goals as goal

-- the stored steps and ranges of nodes, as steps and ranges of the tree
all_steps : (t u : Tree) (steps : List StrStep) (spans given : List (ℕ × ℕ)) → t ≡ u
    → steps ≡ t.steps → given ≡ spans → spans ≡ node_ranges t.steps
    → with_ranges steps given ≡ zip u.steps (ranges u.steps)
all_steps t u steps spans given is steps_are given_is spans_are =
    rw (given_is, spans_are, steps_are) (with_all_ranges t.steps
    ∙ ap (λ (t : Tree). zip t.steps (ranges t.steps)) is)

-- there is a pair for each step
count : (steps : List StrStep) → length (zip steps (ranges steps)) ≡ length steps
count steps =
    let len = length_ranges_from [] 0 steps in
    let both = length-zip steps (ranges steps) in
    omega (arith, len, both)

pub returns-clause-steps : goal.returns-clause-steps
returns-clause-steps c =
    c.step_ranges.ensures ∙ all_steps _ _ _ _ _ c.self.view_is c.deref.ensures.value
    c.deref-2.ensures.value c.self.invariant.spans_are

pub returns-clause-count : goal.returns-clause-count
returns-clause-count c =
    ap length (returns-clause-steps c) ∙ count c.args.self.now.steps
