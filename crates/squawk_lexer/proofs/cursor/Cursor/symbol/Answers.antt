use Rattle.std.proofs.Common.{refl}
use Rattle.squawk_lexer.proofs.Steps.{after_within}
use Rattle.squawk_lexer.proofs.ByteReads.{first_read, symbol_lead}
use Rattle.squawk_lexer.proofs.cursor.Cursor.symbol.Goals as goal

pub returns-clause-lexeme : goal.returns-clause-lexeme
returns-clause-lexeme c =
    let first = first_read c.args.self.now.text c.args.self.now.at c.peek_byte.result c.requires.at
    c.peek_byte.ensures in
    rw (c.symbol_kind-kind.ensures, symbol_lead _ _ first, c.bump.ensures.at, c.requires.at)
    (rw (after_within c.args.self.now.text 0 c.requires.not_empty) refl)
