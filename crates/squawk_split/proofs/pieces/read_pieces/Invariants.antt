use Rattle.std.proofs.Common.{length, ◌-◌, ◌≡◌, ◌++◌, drop}
use Rattle.std.specs.Str.{IsCharBoundary}
use Rattle.squawk_split.specs.Pieces.{pieces_from, pieces_of}
use Rattle.squawk_split.proofs.pieces.read_pieces.Given as goal

-- the pieces so far, then those of the rest, are those of the script
abbrev pub invariant-loop-at : goal.invariant-loop-at
invariant-loop-at l = record {
  same : l.reader ≡ l.fn.reader;
  pieces : l.pieces.items
      ++ pieces_from l.fn.reader.strings l.division l.is_data 0 l.at (drop l.at l.fn.reader.text)
      ≡ pieces_of l.fn.reader.strings l.division l.fn.reader.text;
  boundary : IsCharBoundary l.fn.reader.text l.at;
}

abbrev pub decreases-loop-at : goal.decreases-loop-at
decreases-loop-at l = length l.fn.reader.text - l.at
