use Rattle.squawk_lexer.proofs.ByteClasses.{argument_bytes}
use Rattle.squawk_lexer.proofs.arguments.argument_table.Goals as goal

pub returns : goal.returns
returns c = argument_bytes
