use Rattle.std.proofs.Common.{◌≡◌, suc, ◌+◌, ◌-◌, ◌≤◌, length, drop}
use Rattle.std.specs.Prelude.{IsTrue}
use Rattle.squawk_tree.specs.ChildSpans.{child_spans_from, node_tokens}
use Rattle.squawk_tree.specs.Ranges.{node_end}
use Rattle.squawk_tree.specs.Steps.{closes}
use Rattle.squawk_tree.proofs.children.find_exit.Given as goal

-- what was counted or passed so far, with what the steps that are left give, is what the
-- definitions give for all; no count is above the index
abbrev pub invariant-loop-i : goal.invariant-loop-i
invariant-loop-i l = record {
  tokens : l.tokens + node_tokens l.depth (drop l.i l.steps)
      ≡ node_tokens 0 (drop l.fn.first l.fn.steps);
  at : node_end l.depth l.at (drop l.i l.steps)
      ≡ node_end 0 l.fn.start (drop l.fn.first l.fn.steps);
  children : child_spans_from (suc l.depth) l.i l.at (drop l.i l.steps)
      ≡ child_spans_from 1 l.fn.first l.fn.start (drop l.fn.first l.fn.steps);
  closes : IsTrue (closes (suc (suc l.depth)) (drop l.i l.steps));
  forward : l.fn.first ≤ l.i;
  depth_small : l.depth ≤ l.i;
  tokens_small : l.tokens ≤ l.i;
}

abbrev pub decreases-loop-i : goal.decreases-loop-i
decreases-loop-i l = length l.steps - l.i
