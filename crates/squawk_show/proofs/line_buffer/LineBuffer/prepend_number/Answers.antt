use Rattle.std.proofs.Common.{length, drop, decimal, ap, arith, length-drop}
use Rattle.std.proofs.lemmas.List.{length-append}
use Rattle.std.proofs.lemmas.Fmt.{length-decimal-le}
use Rattle.squawk_show.proofs.line_buffer.LineBuffer.prepend_number.Goals as goal

pub write_digits-self-inside-requires : goal.write_digits-self-inside-requires
write_digits-self-inside-requires c =
    let short = length-decimal-le 20 c.args.n (omega arith) (omega arith) (omega arith) in
    let room = length-drop c.self.inside.start c.self.inside.bytes in
    (omega (arith, ap length c.self.view_is, c.requires), omega arith)

pub returns-clause-len : goal.returns-clause-len
returns-clause-len c =
    let short = length-decimal-le 20 c.args.n (omega arith) (omega arith) (omega arith) in
    let sum = length-append (decimal c.args.n) (drop c.self.inside.start c.self.inside.bytes) in
    omega (
      arith,
      ap length c.write_digits-self-inside.ensures.written,
      ap length c.self.view_is,
      sum,
    )
