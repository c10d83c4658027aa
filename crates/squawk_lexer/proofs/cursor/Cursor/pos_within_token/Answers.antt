use Rattle.std.proofs.Common.{arith}
use Rattle.squawk_lexer.proofs.CursorRest.{rest_bytes}
use Rattle.squawk_lexer.proofs.cursor.Cursor.pos_within_token.Goals as goal

pub overflow_sub-result : goal.overflow_sub-result
overflow_sub-result c =
    omega (arith, rest_bytes c.self.inside.token.now c.self.inside.rest.now c.self.invariant)

pub returns : goal.returns
returns c = rw (← c.self.view_is)
    (omega (arith, rest_bytes c.self.inside.token.now c.self.inside.rest.now c.self.invariant))
