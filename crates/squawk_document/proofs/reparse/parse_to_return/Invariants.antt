use Rattle.std.proofs.Common.{◌≡◌, ◌+◌, ◌-◌, ◌≤◌, length, take}
use Rattle.squawk_cut.specs.Join.{child_bytes}
use Rattle.squawk_document.specs.ChildEdit.{IsParsedSoFar}
use Rattle.squawk_document.specs.FrontPart.{AllClosed}
use Rattle.squawk_document.proofs.reparse.parse_to_return.Given as goal

abbrev pub invariant-loop-i : goal.invariant-loop-i
invariant-loop-i g l = record {
  parsing : IsParsedSoFar (g.F.Front.tells l.fn.front) l.text l.tokens l.old l.fn.from.end l.new_end
      l.end l.meeting l.children.items l.at l.i l.only_closed;
  tells : g.F.Front.tells l.front ≡ g.F.Front.tells l.fn.front;
  steps : g.F.Front.count l.front ≤ g.F.Front.count l.fn.front + length l.children.items;
  within : l.position.index ≤ length l.old;
  offset : l.position.offset ≡ child_bytes (take l.position.index l.old);
  closed : AllClosed (take l.position.index l.old);
  low : l.position.offset ≤ l.at - l.new_end + l.end;
}

abbrev pub decreases-loop-i : goal.decreases-loop-i
decreases-loop-i g l = length l.tokens - l.i
