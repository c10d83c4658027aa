use Rattle.std.proofs.Common.{◌∙◌}
use Rattle.squawk_lexer.proofs.ByteReads.{prefix_by}
use Rattle.squawk_lexer.proofs.cursor.Cursor.string_prefix.Goals as goal

pub returns : goal.returns
returns c =
    c.prefix_of.ensures
    ∙ prefix_by c.args.self.now.text c.args.self.now.at c.peek_byte.result c.peek_byte-2.result
    c.peek_byte-3.result c.requires c.peek_byte.ensures c.peek_byte-2.ensures c.peek_byte-3.ensures
