use Rattle.squawk_lexer.proofs.ByteClasses.{ident_cont_table}
use Rattle.squawk_lexer.proofs.scan.ident_cont_table.Goals as goal

pub returns : goal.returns
returns c = ident_cont_table
