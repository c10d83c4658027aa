use Rattle.std.proofs.Common.{◌≡◌, ◌-◌, ◌++◌, length, drop}
use Rattle.std.specs.Prelude.{IsTrue}
use Rattle.squawk_tree.specs.ChildSpans.{child_spans, child_spans_from}
use Rattle.squawk_tree.specs.Steps.{closes}
use Rattle.squawk_tree.proofs.children.child_spans.Given as goal

-- the children that were listed, and those that begin in the steps that are left, are all
abbrev pub invariant-loop-i : goal.invariant-loop-i
invariant-loop-i l = record {
  children : l.children.items ++ child_spans_from 0 l.i l.at (drop l.i l.steps)
      ≡ child_spans l.steps;
  closes : IsTrue (closes 1 (drop l.i l.steps));
}

abbrev pub decreases-loop-i : goal.decreases-loop-i
decreases-loop-i l = length l.steps - l.i
