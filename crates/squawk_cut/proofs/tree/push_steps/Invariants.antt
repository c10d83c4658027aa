use Rattle.std.proofs.Common.{◌≡◌, ◌++◌, drop, map}
use Rattle.std.specs.Prelude.{IsTrue}
use Rattle.squawk_cut.specs.Join.{steps_within}
use Rattle.squawk_tree.specs.Join.{shifted_step}
use Rattle.squawk_cut.proofs.tree.push_steps.Given as goal

-- the steps so far, and those that are left
abbrev pub invariant-loop-i : goal.invariant-loop-i
invariant-loop-i l = record {
  steps : l.sink.steps ++ map (shifted_step l.at) (drop l.i l.steps)
      ≡ l.initial.sink.steps ++ map (shifted_step l.at) l.steps;
  errors : l.sink.errors ≡ l.initial.sink.errors;
  within : IsTrue (steps_within l.len (drop l.i l.steps));
}
