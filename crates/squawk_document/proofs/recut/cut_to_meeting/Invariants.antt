use Rattle.std.proofs.Common.{◌≡◌, ◌+◌, ◌-◌, ◌≤◌, length, take}
use Rattle.squawk_document.specs.Boundaries.{total_len}
use Rattle.squawk_document.specs.Recut.{IsCutSoFar}
use Rattle.squawk_document.proofs.recut.cut_to_meeting.Given as goal

abbrev pub invariant-loop-at : goal.invariant-loop-at
invariant-loop-at g l = record {
  cutting : IsCutSoFar (g.F.Front.tells l.fn.front) l.text l.old l.fn.from.offset l.new_end l.end
      l.tokens.items l.at;
  tells : g.F.Front.tells l.front ≡ g.F.Front.tells l.fn.front;
  steps : g.F.Front.count l.front ≤ g.F.Front.count l.fn.front + length l.tokens.items;
  order : l.fn.from.index ≤ l.position.index;
  within : l.position.index ≤ length l.old;
  offset : l.position.offset ≡ total_len (take l.position.index l.old);
  low : l.position.offset ≤ l.at - l.new_end + l.end;
}

abbrev pub decreases-loop-at : goal.decreases-loop-at
decreases-loop-at g l = length l.text - l.at
