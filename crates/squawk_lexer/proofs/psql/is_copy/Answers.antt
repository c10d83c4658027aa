use Rattle.squawk_lexer.proofs.PsqlChars.{copy_same}
use Rattle.squawk_lexer.proofs.psql.is_copy.Goals as goal

pub returns : goal.returns
returns c = copy_same c.eq_ignore_ascii_case.result c.args.word.now c.utf8.word
    c.eq_ignore_ascii_case.ensures.test
