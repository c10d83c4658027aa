use Rattle.std.proofs.Common.{◌≡◌}
use Rattle.squawk_replay.proofs.EditSteps.{Applied}
use Rattle.squawk_replay.proofs.apply.apply_edits.Given as goal

-- the edits so far made the text and the lines, and those that the iterator has left do the rest
abbrev pub invariant-loop-edit : goal.invariant-loop-edit
invariant-loop-edit g l = record {
  applied : Applied (g.F.Front.tells l.fn.document.front) l.fn.document.text l.fn.edits
      l.document.text l.lines.items l.number l.edit-iterator;
  tells : g.F.Front.tells l.document.front ≡ g.F.Front.tells l.fn.document.front;
}
