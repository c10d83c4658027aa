use Rattle.std.proofs.Common.{length, map, ◌≡◌, ◌++◌, take, drop}
use Rattle.squawk_c.specs.Parse.{error_record}
use Rattle.squawk_c.proofs.errors.put_errors.Given as goal

-- the records so far and those of the errors that are left are those of all
abbrev pub invariant-loop-i : goal.invariant-loop-i
invariant-loop-i l = record {
  put : take l.i l.out ++ map error_record (drop l.i l.parse.errors)
      ≡ map error_record l.parse.errors;
  rest : drop l.i l.out ≡ drop l.i l.initial.out;
  same_length : length l.out ≡ length l.initial.out;
}
