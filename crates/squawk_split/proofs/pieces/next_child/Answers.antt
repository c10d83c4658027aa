use Rattle.std.proofs.Common.{◌&&◌, sym, ap, ◌∙◌}
use Rattle.squawk_split.proofs.StatementSteps.{next_statement}
use Rattle.squawk_split.proofs.pieces.next_child.Goals as goal

pub returns-then-eq-clause-piece : goal.returns-then-eq-clause-piece
returns-then-eq-clause-piece c =
    next_statement c.args.division c.args.reader.now c.token_at-first.new.self c.args.at
    c.token_at-first.result c.statement_end-rest.result c.statement_end-rest.result.from_stdin
    c.token_at-first.ensures.same c.token_at-first.ensures.token
    (sym c.single_piece.ensures ∙ c.in-None.is) c.statement_end-rest.ensures.end
    (sym (ap (λ b. b && c.statement_end-rest.result.from_stdin) (sym c.eq.ensures ∙ c.if-eq.true)))

pub returns-else-eq-clause-piece : goal.returns-else-eq-clause-piece
returns-else-eq-clause-piece c =
    next_statement c.args.division c.args.reader.now c.token_at-first.new.self c.args.at
    c.token_at-first.result c.statement_end-rest.result c.eq.result
    c.token_at-first.ensures.same c.token_at-first.ensures.token
    (sym c.single_piece.ensures ∙ c.in-None.is) c.statement_end-rest.ensures.end
    (c.if-eq.false
    ∙ sym (ap (λ b. b && c.statement_end-rest.result.from_stdin) (sym c.eq.ensures ∙ c.if-eq.false)))
