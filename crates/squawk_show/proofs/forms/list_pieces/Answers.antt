use Rattle.std.proofs.Common.{◌++◌, ap, append-nil, arith, sym, ◌∙◌}
use Rattle.std.proofs.lemmas.List.{at_drop_all}
use Rattle.std.specs.Prelude.{flat_map, string_bytes}
use Rattle.squawk_show.specs.Forms.{piece_line, piece_lines}
use Rattle.squawk_show.proofs.forms.list_pieces.Goals as goal

pub returns-clause-lines : goal.returns-clause-lines
unfolding piece_lines
returns-clause-lines c =
    let items = c.pieces-piece-items.result.now in
    let made = string_bytes c.loop-piece.lines in
    sym (append-nil made)
    ∙ sym (at_drop_all (λ left. made ++ flat_map piece_line left) items c.loop-piece.piece-index
    (omega (arith, c.loop-piece-test.false)))
    ∙ c.loop-piece.invariant
    ∙ ap (flat_map piece_line) (c.pieces-piece-items.ensures ∙ c.in_ok-pieces.ensures.pieces)
