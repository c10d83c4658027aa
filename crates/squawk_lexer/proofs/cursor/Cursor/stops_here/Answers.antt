use Rattle.std.proofs.Common.{arith}
use Rattle.std.proofs.lemmas.Bool.Decides.{nat_tests}
use Rattle.squawk_lexer.proofs.StopSteps.{byte_is_neither}
use Rattle.squawk_lexer.proofs.cursor.Cursor.stops_here.Goals as goal

pub returns-then-next-a : goal.returns-then-next-a
returns-then-next-a c =
    let same = byte_is_neither c.args.a c.args.b c.peek_byte-next.result _ _ c.requires.0
    c.requires.1 c.peek_byte-next.ensures in
    grind (arith, nat_tests, same)

pub returns-else-next-a : goal.returns-else-next-a
returns-else-next-a c =
    let same = byte_is_neither c.args.a c.args.b c.peek_byte-next.result _ _ c.requires.0
    c.requires.1 c.peek_byte-next.ensures in
    grind (arith, nat_tests, same)
