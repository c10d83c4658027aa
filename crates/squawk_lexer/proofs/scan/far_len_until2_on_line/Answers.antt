use Rattle.std.proofs.Common.{◌≡◌, ◌-◌, length, take, drop, length-drop, arith}
use Rattle.std.proofs.lemmas.List.{length-take-le}
use Rattle.std.proofs.lemmas.List.Sums.{prefix_len-le-length}
use Rattle.squawk_lexer.specs.Stops.{is_neither_on_line}
use Rattle.squawk_lexer.proofs.scan.far_len_until2_on_line.Goals as goal

pub overflow_add-result-2 : goal.overflow_add-result-2
overflow_add-result-2 c =
    let bytes = c.args.bytes.now in
    let len = c.loop-len.len in
    let rest = take (length bytes - len) (drop len bytes) in
    let size : length rest ≡ length bytes - len =
    length-take-le (length bytes - len) (drop len bytes) (omega (arith, length-drop len bytes)) in
    omega (
      arith,
      size,
      c.loop-len.invariant.within,
      c.memchr_len_until2_on_line.ensures,
      prefix_len-le-length (is_neither_on_line c.args.a c.args.b) rest,
    )
