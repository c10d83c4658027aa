use Rattle.std.proofs.Common.{◌≤◌, drop}
use Rattle.squawk_lexed.specs.Stored.{errors_of}
use Rattle.squawk_tree.specs.Walk.{merged_errors}
use Rattle.squawk_tree.proofs.WalkLemmas.{WalkSoFar}
use Rattle.squawk_tree.proofs.errors.errors_of_steps.Given as goal

abbrev pub invariant-loop-step : goal.invariant-loop-step
invariant-loop-step l = record {
  walk : WalkSoFar l.errors.items l.lexed.tokens l.walk.token l.walk.error
      (drop l.step-index l.steps)
      (merged_errors 0 l.lexed.tokens (errors_of 0 l.lexed.tokens) l.steps);
  few : l.walk.token ≤ l.step-index;
}
