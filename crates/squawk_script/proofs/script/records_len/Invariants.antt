use Rattle.std.proofs.Common.{◌≡◌, ◌+◌, ◌-◌, length, drop}
use Rattle.std.specs.Str.{IsCharBoundary}
use Rattle.squawk_script.specs.Script.{records_len}
use Rattle.squawk_script.proofs.script.records_len.Given as goal

-- the bytes before `at`, and those of the records that begin there, are those of all the records
abbrev pub invariant-loop-record : goal.invariant-loop-record
invariant-loop-record l = record {
  len : l.at + records_len (drop l.at l.text) ≡ records_len l.text;
  boundary : IsCharBoundary l.text l.at;
}

abbrev pub decreases-loop-record : goal.decreases-loop-record
decreases-loop-record l = length l.text - l.at
