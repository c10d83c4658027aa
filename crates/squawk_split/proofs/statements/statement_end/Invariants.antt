use Rattle.std.proofs.Common.{length, ◌-◌, ◌≡◌, ◌<◌, ◌≤◌, drop, false}
use Rattle.std.specs.Str.{IsCharBoundary}
use Rattle.squawk_split.specs.Pieces.{tokens_of}
use Rattle.squawk_split.specs.StatementEnds.{start_state, state_after, end_from}
use Rattle.squawk_split.proofs.statements.statement_end.Given as goal

-- what is left to read ends the statement where the whole of it does
abbrev pub invariant-loop-from : goal.invariant-loop-from
invariant-loop-from l = record {
  same : l.reader ≡ l.initial.reader;
  read : end_from l.division l.state l.from l.trimmed
      (tokens_of l.initial.reader.strings false (drop l.from l.initial.reader.text))
      ≡ end_from l.division (state_after start_state l.fn.first) l.fn.at l.fn.at
      (tokens_of l.initial.reader.strings false (drop l.fn.at l.initial.reader.text));
  boundary : IsCharBoundary l.initial.reader.text l.from;
  some : 0 < l.from;
  groups_within : l.state.groups ≤ l.from;
}

abbrev pub decreases-loop-from : goal.decreases-loop-from
decreases-loop-from l = length l.initial.reader.text - l.from
