use Rattle.std.proofs.Common.{length, map, ◌+◌, ◌≡◌, ◌++◌, take, drop}
use Rattle.squawk_c.specs.Parse.{pair_record, records_of_steps}
use Rattle.squawk_c.proofs.steps.put_steps.Given as goal

-- the records so far and those of the steps that are left are those of all
abbrev pub invariant-loop-step : goal.invariant-loop-step
invariant-loop-step l = record {
  put : take l.written l.out ++ map pair_record l.step-iterator ≡ records_of_steps l.parse.steps;
  rest : drop l.written l.out ≡ drop l.written l.initial.out;
  same_length : length l.out ≡ length l.initial.out;
  left : l.written + length l.step-iterator ≡ length l.parse.steps;
}
