use Rattle.std.proofs.Common.{◌≡◌, ◌≤◌, ◌++◌, drop, length, take}
use Rattle.squawk_events.specs.Kinds.{without_trivia}
use Rattle.squawk_lexed.proofs.lexed.without_trivia.Given as goal

abbrev pub invariant-loop-i : goal.invariant-loop-i
invariant-loop-i l = record {
  kept : take l.count l.kept.items ++ without_trivia (drop l.i l.kinds) ≡ without_trivia l.kinds;
  few : l.count ≤ l.i;
  room : length l.kept.items ≡ length l.kinds;
}
