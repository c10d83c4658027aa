use Rattle.std.proofs.Common.{get_or, sym, ◌∙◌, ap}
use Rattle.std.proofs.lemmas.List.{get_or_past}
use Rattle.squawk_lexer.proofs.ByteReads.{read_byte}
use Rattle.squawk_lexer.proofs.cursor.Cursor.peek_byte.Goals as goal

pub returns-then-ahead-bytes : goal.returns-then-ahead-bytes
returns-then-ahead-bytes c =
    rw (← c.self.view_is) (λ ascii. ap (λ x. get_or x c.args.ahead 0) c.as_bytes-bytes.ensures.value
    ∙ read_byte _ _ c.args.ahead c.self.invariant ascii)

pub returns-else-ahead-bytes : goal.returns-else-ahead-bytes
returns-else-ahead-bytes c =
    rw (← c.self.view_is) (λ ascii.
    sym (get_or_past c.as_bytes-bytes.result.now c.args.ahead 0 c.if-ahead-bytes.false)
    ∙ ap (λ x. get_or x c.args.ahead 0) c.as_bytes-bytes.ensures.value
    ∙ read_byte _ _ c.args.ahead c.self.invariant ascii)
