use Rattle.std.proofs.Common.{◌≡◌, ◌-◌, length, take, drop, length-drop, arith}
use Rattle.std.proofs.lemmas.List.{length-take-le}
use Rattle.std.proofs.lemmas.List.Sums.{prefix_len-le-length}
use Rattle.squawk_lexer.specs.Stops.{is_neither_on_line}
use Rattle.squawk_lexer.proofs.scan.len_until2_on_line.Goals as goal

pub overflow_add-result : goal.overflow_add-result
overflow_add-result c =
    let bytes = c.args.bytes.now in
    let near = c.near_len_until2_on_line-len.result in
    let rest = take (length bytes - near) (drop near bytes) in
    let size : length rest ≡ length bytes - near =
    length-take-le (length bytes - near) (drop near bytes)
    (omega (arith, length-drop near bytes)) in
    omega (
      arith,
      size,
      c.near_len_until2_on_line-len.ensures.within,
      c.far_len_until2_on_line.ensures,
      prefix_len-le-length (is_neither_on_line c.args.a c.args.b) rest,
    )
