use Rattle.std.proofs.Common.{◌≡◌, ◌-◌, ◌≤◌, length, take}
use Rattle.squawk_cut.specs.Join.{child_bytes}
use Rattle.squawk_document.specs.FrontPart.{AllClosed}
use Rattle.squawk_document.proofs.skip.skip_children.Given as goal

-- the children before the index are closed and end at the offset
abbrev pub invariant-loop-i : goal.invariant-loop-i
invariant-loop-i l = record {
  within : l.i ≤ length l.children;
  offset : l.at ≡ child_bytes (take l.i l.children);
  closed : AllClosed (take l.i l.children);
  low : l.at ≤ l.target;
}

abbrev pub decreases-loop-i : goal.decreases-loop-i
decreases-loop-i l = length l.children - l.i
