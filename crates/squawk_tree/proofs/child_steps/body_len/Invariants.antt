use Rattle.std.proofs.Common.{◌≡◌, ◌≤◌, ◌-◌, cond, length, map, take}
use Rattle.squawk_kinds.specs.Role.{role}
use Rattle.squawk_statements.specs.Children.{trimmed_len}
use Rattle.squawk_tree.proofs.child_steps.body_len.Given as goal

-- the kinds that are left have the same number up to the last that is not trivia
abbrev pub invariant-loop-len : goal.invariant-loop-len
invariant-loop-len l = record {
  trimmed : trimmed_len (map role (take l.len l.kinds))
      ≡ trimmed_len (map role (take (length l.kinds - cond l.closed 1 0) l.kinds));
  within : l.len ≤ length l.kinds;
}

abbrev pub decreases-loop-len : goal.decreases-loop-len
decreases-loop-len l = l.len
