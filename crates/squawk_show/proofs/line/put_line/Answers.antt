use Rattle.std.proofs.Common.{ap, ◌∙◌, ◌++◌, ◌∷◌, []}
use Rattle.squawk_show.proofs.LineLemmas.{take_start, join_pieces}
use Rattle.squawk_show.proofs.line.put_line.Goals as goal

pub returns-clause-written : goal.returns-clause-written
returns-clause-written c =
    let start = take_start c.args.depth c.args.letter c.args.len c.put_start.new.text
    c.args.text.now c.requires.1.1 c.put_start.ensures.written in
    join_pieces _ _ _ _ _ _ _ _ _
    (c.put_byte-at.ensures.written ∙ ap (λ xs. xs ++ 32 ∷ []) start)
    c.put_number-at.ensures.written
    c.put_byte-at-2.ensures.written c.put_byte-at-3.ensures.written
    c.put_number-at-2.ensures.written c.put_byte.ensures.written
