use Rattle.std.proofs.Common.{◌≡◌, ◌+◌, [], ◌∷◌, ◌++◌, drop, map}
use Rattle.std.specs.Prelude.{All}
use Rattle.squawk_cut.specs.ChildValue.{child_tree}
use Rattle.squawk_cut.specs.Join.{child_bytes, join_of}
use Rattle.squawk_events.specs.declared.steps.StrStep.TheVariants.{Exit}
use Rattle.squawk_tree.specs.Join.{child_steps_from, child_errors_from}
use Rattle.squawk_tree.specs.Taken.{EndsBy}
use Rattle.squawk_cut.proofs.JoinSteps.{IsOpen}
use Rattle.squawk_cut.proofs.tree.join.Given as goal

-- the children so far, and those that are left
abbrev pub invariant-loop-i : goal.invariant-loop-i
invariant-loop-i l = record {
  steps : l.sink.steps
      ++ (child_steps_from l.at (map child_tree (drop l.i l.children)) ++ Exit ∷ [])
      ≡ (join_of l.children).steps;
  errors : l.sink.errors ++ child_errors_from l.at (map child_tree (drop l.i l.children))
      ≡ (join_of l.children).errors;
  at : l.at + child_bytes (drop l.i l.children) ≡ child_bytes l.children;
  is_open : IsOpen l.at l.sink.steps;
  within : All (EndsBy l.at) l.sink.errors;
}
