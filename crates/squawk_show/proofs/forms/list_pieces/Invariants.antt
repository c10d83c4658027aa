use Rattle.std.proofs.Common.{◌≡◌, ◌++◌, drop}
use Rattle.std.specs.Prelude.{flat_map, string_bytes}
use Rattle.squawk_show.specs.Forms.{piece_line}
use Rattle.squawk_show.proofs.forms.list_pieces.Given as goal

-- the lines so far, and those of the remaining pieces, are those of all the pieces
abbrev pub invariant-loop-piece : goal.invariant-loop-piece
invariant-loop-piece l = string_bytes l.lines ++ flat_map piece_line (drop l.piece-index l.piece-items)
    ≡ flat_map piece_line l.piece-items
