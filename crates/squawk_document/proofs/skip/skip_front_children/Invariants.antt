use Rattle.std.proofs.Common.{◌≡◌, ◌-◌, ◌≤◌, length, take}
use Rattle.squawk_cut.specs.Join.{child_bytes}
use Rattle.squawk_document.specs.FrontPart.{AllClosed, child_tokens}
use Rattle.squawk_document.proofs.skip.skip_front_children.Given as goal

-- the children before i are closed, and the position is that of the token after them
abbrev pub invariant-loop-i : goal.invariant-loop-i
invariant-loop-i l = record {
  within : l.i ≤ length l.children;
  index : l.index ≡ child_tokens (take l.i l.children);
  offset : l.at ≡ child_bytes (take l.i l.children);
  closed : AllClosed (take l.i l.children);
  low : l.at ≤ l.target;
}

abbrev pub decreases-loop-i : goal.decreases-loop-i
decreases-loop-i l = length l.children - l.i
