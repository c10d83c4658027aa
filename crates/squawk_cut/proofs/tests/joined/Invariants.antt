use Rattle.std.proofs.Common.{◌≡◌, ◌+◌, drop}
use Rattle.squawk_cut.specs.Join.{child_bytes}
use Rattle.squawk_cut.proofs.tests.joined.Given as goal

-- the bytes so far, and those of the children that are left
abbrev pub invariant-loop-i : goal.invariant-loop-i
invariant-loop-i g l = record {
  sum : l.len + child_bytes (drop l.i l.children.items) ≡ child_bytes l.children.items;
}
