use Rattle.std.proofs.Common.{◌≡◌, ◌++◌, drop, map}
use Rattle.squawk_tree.specs.Join.{shifted_error}
use Rattle.squawk_cut.proofs.tree.push_errors.Given as goal

-- the errors so far, and those that are left
abbrev pub invariant-loop-i : goal.invariant-loop-i
invariant-loop-i l = record {
  errors : l.sink.errors ++ map (shifted_error l.at) (drop l.i l.errors)
      ≡ l.initial.sink.errors ++ map (shifted_error l.at) l.errors;
  steps : l.sink.steps ≡ l.initial.sink.steps;
}
