use Rattle.std.proofs.Common.{arith}
use Rattle.squawk_lexer.proofs.CursorRest.{rest_bytes}
use Rattle.squawk_lexer.proofs.cursor.Cursor.as_str.Goals as goal

pub returns-clause-fits : goal.returns-clause-fits
returns-clause-fits c =
    omega (
      arith,
      rest_bytes c.self.inside.token.now c.self.inside.rest.now c.self.invariant,
      c.self.invariant.fits,
    )
