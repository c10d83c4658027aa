use Rattle.std.proofs.Common.{length, ◌-◌, ◌≡◌, ◌≤◌, ◌++◌, take, drop}
use Rattle.std.specs.Str.{IsCharBoundary}
use Rattle.squawk_c.specs.Tokens.{records_from}
use Rattle.squawk_c.proofs.tokens.cut_into.Given as goal

-- the records so far and those of the tokens that are left are those of all
abbrev pub invariant-loop-count : goal.invariant-loop-count
invariant-loop-count l = record {
  cut : take l.count l.out ++ records_from l.strings l.text l.end
      ≡ records_from l.strings l.text l.fn.at;
  rest : drop l.count l.out ≡ drop l.count l.initial.out;
  same_length : length l.out ≡ length l.initial.out;
  within : l.count ≤ length l.initial.out;
  boundary : IsCharBoundary l.text l.end;
}

abbrev pub decreases-loop-count : goal.decreases-loop-count
decreases-loop-count l = length l.initial.out - l.count
