use Rattle.std.proofs.Common.{◌≡◌, true, false, sym, ◌∙◌, arith}
use Rattle.squawk_lexer.proofs.PsqlSteps.{mark_kept, mark_last}
use Rattle.squawk_lexer.proofs.arguments.mark_after_quote.Goals as goal
use Rattle.squawk_lexer.proofs.arguments.mark_after_quote.Goals.{else-end-via-then-end+else-end-start, else-end-via-else-end}

pub bounds-bytes-end : goal.bounds-bytes-end
bounds-bytes-end c =
    (mark_last c.args.mark c.args.bytes.now c.args.start c.args.end.at
    (rw (← c.in-39.is) c.requires.at) (rw (← c.in-39.is) (sym c.requires.closed ∙ c.if-end.true))
    c.if-end-start.true).0

pub returns-then-end-start : goal.returns-then-end-start
returns-then-end-start c =
    rw c.in-39.is
    (mark_last c.args.mark c.args.bytes.now c.args.start c.args.end.at
    (rw (← c.in-39.is) c.requires.at) (rw (← c.in-39.is) (sym c.requires.closed ∙ c.if-end.true))
    c.if-end-start.true).1

pub returns-else-end : goal.returns-else-end
returns-else-end c = rw c.in-39.is (elim c.else-end.branch [
  | else-end-via-then-end+else-end-start w ↦ mark_kept c.args.mark c.args.bytes.now c.args.start
      c.args.end.at (rw (← c.in-39.is) c.requires.at) (λ _. omega (arith, w.if-end-start.false))
  | else-end-via-else-end w ↦ mark_kept c.args.mark c.args.bytes.now c.args.start c.args.end.at
      (rw (← c.in-39.is) c.requires.at)
      (λ e. absurd (let open' : true ≡ false = sym e
      ∙ rw (← c.in-39.is) (sym c.requires.closed ∙ w.if-end.false) in cc))
])
