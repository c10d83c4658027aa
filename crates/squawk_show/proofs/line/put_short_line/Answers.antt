use Rattle.std.proofs.Common.{◌+◌, ◌-◌, take, drop, arith}
use Rattle.squawk_show.specs.Report.{line_with_text}
use Rattle.squawk_show.proofs.LineLemmas.{shape_over_window}
use Rattle.squawk_show.proofs.line.put_short_line.Goals as goal

pub returns-clause-written : goal.returns-clause-written
returns-clause-written c =
    shape_over_window (λ xs. line_with_text c.args.depth c.args.letter
    (take c.args.len (drop 4 xs)) (c.args.start.value, c.args.end.value))
    c.args.text.now c.args.window.now c.copy_from_slice.new.self c.put_line.new.text
    c.args.at (c.args.at + 64 - c.args.at) c.put_line.result
    (omega (arith, c.requires.room)) c.copy_from_slice.ensures.after
    (omega (arith, c.requires.window)) (omega (
      arith,
      c.put_line.ensures.same_length,
      c.requires.room,
    )) (omega (arith, c.put_line.ensures.within)) c.put_line.ensures.written
