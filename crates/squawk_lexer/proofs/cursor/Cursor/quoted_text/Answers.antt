use Rattle.std.proofs.Common.{sym, ◌∙◌, arith}
use Rattle.squawk_lexer.proofs.StopSteps.{stop_smaller}
use Rattle.squawk_lexer.proofs.QuotedSteps.{quoted_step_escaped}
use Rattle.squawk_lexer.proofs.cursor.Cursor.quoted_text.Goals as goal

pub loop-c-smaller-then-c-quote : goal.loop-c-smaller-then-c-quote
loop-c-smaller-then-c-quote c =
    stop_smaller c.args.quote c.escape_or_quote-escape.result c.loop-c.self.text c.loop-c.self.at
    c.in-Some.c _ _ _ c.in-Some.ensures.read (c.bump.ensures.text
    ∙ c.in-Some.ensures.text) c.in-Some.ensures.at c.bump.ensures.forward

pub loop-c-preserved-then-c-quote : goal.loop-c-preserved-then-c-quote
loop-c-preserved-then-c-quote c =
    let p = quoted_step_escaped c.args.escapes c.args.quote c.escape_or_quote-escape.result
    c.loop-c.self.text c.loop-c.self.at c.in-Some.c c.escape_or_quote-escape.ensures
    c.in-Some.ensures.read c.if-c-quote.true in
    record {
      text = c.bump.ensures.text ∙ c.in-Some.ensures.text ∙ c.loop-c.invariant.text;
      end = rw (
        c.bump.ensures.text,
        c.bump.ensures.at,
        c.in-Some.ensures.text,
        c.in-Some.ensures.at,
      ) (sym p.0 ∙ c.loop-c.invariant.end);
      terminated = rw (
        c.bump.ensures.text,
        c.bump.ensures.at,
        c.in-Some.ensures.text,
        c.in-Some.ensures.at,
      ) (sym p.1 ∙ c.loop-c.invariant.terminated);
    }

pub loop-c-smaller : goal.loop-c-smaller
loop-c-smaller c =
    stop_smaller c.args.quote c.escape_or_quote-escape.result c.loop-c.self.text c.loop-c.self.at
    c.in-Some.c _ _ _ c.in-Some.ensures.read (c.eat_quotes.ensures.text
    ∙ c.in-Some.ensures.text) c.in-Some.ensures.at (omega (arith, c.eat_quotes.ensures.len))
