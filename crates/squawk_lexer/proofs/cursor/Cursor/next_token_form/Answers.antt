use Rattle.std.proofs.Common.{◌∙◌}
use Rattle.squawk_lexer.proofs.ByteReads.{form_by}
use Rattle.squawk_lexer.proofs.cursor.Cursor.next_token_form.Goals as goal

pub returns : goal.returns
returns c = c.token_form.ensures
    ∙ form_by c.args.self.now.text c.args.self.now.at c.peek_byte.result c.peek_byte-2.result c.requires
    c.peek_byte.ensures c.peek_byte-2.ensures
