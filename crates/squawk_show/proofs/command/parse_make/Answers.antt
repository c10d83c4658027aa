use Rattle.std.proofs.Common.{◌<◌, slice_index_or, subst, sym}
use Rattle.squawk_show.proofs.CommandLemmas.{make_parsed, make_refused}
use Rattle.squawk_show.proofs.command.parse_make.Goals as goal

pub returns-in-Ok-clause-command : goal.returns-in-Ok-clause-command
returns-in-Ok-clause-command c =
    sym (make_parsed c.args.count.now c.parse.result c.in-Ok.pieces
    (subst (λ xs. 48 < slice_index_or xs 0 0) c.as_bytes.ensures.value c.if-as_bytes-le48.false)
    c.parse.ensures.value.0 c.in-Ok.is c.if-pieces-le-MAX_PIECES.true)

pub returns-in_default-2-clause-command : goal.returns-in_default-2-clause-command
returns-in_default-2-clause-command c =
    sym (make_refused c.args.count.now c.parse.result c.in_default.field-0
    (subst (λ xs. 48 < slice_index_or xs 0 0) c.as_bytes.ensures.value c.if-as_bytes-le48.false)
    c.parse.ensures.value.0 c.in_default.is)
