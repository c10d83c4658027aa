use Rattle.squawk_lexer.proofs.AheadBytes.{texts_look_ahead, restarts_at, splits_at}
use Rattle.std.proofs.Common.{◌<◌, length, drop, arith, subst, IsUtf8}
use Rattle.std.specs.Str.{chars}
use Rattle.squawk_lexer.proofs.CursorRest.{some_chars}
use Rattle.squawk_lexer.proofs.TokenLaws.{token_positive, token_never_eof}
use Rattle.squawk_lexer.proofs.CutLaws.{token_boundary, token_then}
use Rattle.squawk_lexer.proofs.lexer.cut_at_in.Goals as goal

has_chars : (c : goal.After-result-1) → 0 < length (chars c.range_from.result.now)
has_chars c =
    some_chars c.range_from.result.now c.range_from.utf8
    (omega (arith, c.range_from.ensures.len, c.requires.inside))

pub returns-clause-positive : goal.returns-clause-positive
returns-clause-positive c =
    rw c.cut.ensures.token (token_positive c.args.strings _ (chars c.range_from.result.now)
    (has_chars c))

pub returns-clause-ends_between : goal.returns-clause-ends_between
returns-clause-ends_between c =
    rw (c.cut.ensures.token, c.range_from.ensures.value)
    (token_boundary c.args.strings _ c.args.input.now c.args.at c.requires.boundary.0
    (subst IsUtf8 c.range_from.ensures.value c.range_from.utf8))

pub returns-clause-never_eof : goal.returns-clause-never_eof
returns-clause-never_eof c = λ e.
    token_never_eof c.args.strings _ (chars c.range_from.result.now) (rw c.cut.ensures.token at e)

pub returns-clause-first : goal.returns-clause-first
returns-clause-first c =
    let rest = subst IsUtf8 c.range_from.ensures.value c.range_from.utf8 in
    let some = subst (λ x. 0 < length (chars x)) c.range_from.ensures.value (has_chars c) in
    rw (c.cut.ensures.token, c.range_from.ensures.value)
    (token_then c.args.strings _ c.args.input.now c.args.at rest some)

pub returns-clause-looks_ahead : goal.returns-clause-looks_ahead
returns-clause-looks_ahead c =
    rw (c.cut.ensures.token, c.range_from.ensures.value)
    (texts_look_ahead c.args.strings _ (drop c.args.at c.args.input.now))

pub returns-clause-restarts : goal.returns-clause-restarts
returns-clause-restarts c = restarts_at c.args.strings c.args.input.now c.args.at c.utf8.input

pub returns-clause-splits : goal.returns-clause-splits
returns-clause-splits c =
    splits_at c.args.strings c.args.input.now c.args.at c.utf8.input c.requires.boundary
