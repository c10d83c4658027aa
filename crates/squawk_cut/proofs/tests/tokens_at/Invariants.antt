use Rattle.std.proofs.Common.{length, ◌-◌, ◌≡◌, ◌==◌, ◌++◌, drop}
use Rattle.std.specs.Str.{IsCharBoundary}
use Rattle.squawk_cut.specs.Tokens.{tokens_from}
use Rattle.squawk_cut.proofs.tests.tokens_at.Given as goal

-- the tokens so far, and those that are left
abbrev pub invariant-loop-from : goal.invariant-loop-from
invariant-loop-from g l = record {
  same : g.F.Front.tells l.front ≡ g.F.Front.tells l.initial.front;
  boundary : IsCharBoundary l.text l.from;
  so_far : l.tokens.items ++ tokens_from (g.F.Front.tells l.initial.front) 0 (l.from == 0)
      (drop l.from l.text)
      ≡ tokens_from (g.F.Front.tells l.initial.front) 0 (l.at == 0) (drop l.at l.text);
}

abbrev pub decreases-loop-from : goal.decreases-loop-from
decreases-loop-from g l = length l.text - l.from
