use Rattle.std.proofs.Common.{◌≡◌, ◌+◌, ◌≤◌, length, Some, false, get_or, refl, sym, ◌∙◌, arith}
use Rattle.squawk_lexer.specs.Classes.{is_line_end}
use Rattle.squawk_lexer.specs.PsqlQuotes.{close_end}
use Rattle.squawk_lexer.proofs.StopSteps.{some_read}
use Rattle.squawk_lexer.proofs.PsqlSteps.{passed, quote_found, quote_stop, quote_past, closed, unclosed}
use Rattle.squawk_lexer.proofs.arguments.quote_end.Goals as goal

pub overflow_add-at : goal.overflow_add-at
overflow_add-at c =
    let p = passed c.args.quote c.escape_or_quote-escape.result c.args.bytes.now c.args.start _
    c.escape_or_quote-escape.ensures c.requires.start c.len_until2_on_line.ensures in
    omega (arith, p.within)

pub loop-at-init : goal.loop-at-init
loop-at-init c =
    let p = passed c.args.quote c.escape_or_quote-escape.result c.args.bytes.now c.args.start _
    c.escape_or_quote-escape.ensures c.requires.start c.len_until2_on_line.ensures in
    record { within = p.within; on = p.on; close = p.close; line = p.line }

-- The quote is closed by the next byte.
found : (c : goal.Then-bytes-at)
    → close_end c.args.quote c.args.bytes.now c.args.start ≡ Some (c.loop-at.at + 1)
found c =
    let u = c.args.bytes.now in
    let plain : is_line_end (get_or u c.loop-at.at 0) ≡ false = sym c.is_line_end.ensures
    ∙ c.if-not-is_line_end.true in
    quote_found c.args.quote u c.args.start c.loop-at.at c.loop-at.invariant.close
    c.loop-at-test.true plain c.if-bytes-at.true

pub returns-then-bytes-at-clause-at : goal.returns-then-bytes-at-clause-at
returns-then-bytes-at-clause-at c =
    closed c.args.quote c.args.bytes.now c.args.start c.loop-at.at (found c)

pub returns-then-bytes-at-clause-closed : goal.returns-then-bytes-at-clause-closed
returns-then-bytes-at-clause-closed c = rw (found c) refl

pub overflow_add-at-in-loop-at : goal.overflow_add-at-in-loop-at
overflow_add-at-in-loop-at c =
    let p = passed c.args.quote c.escape_or_quote-escape.result c.args.bytes.now
    c.quoted_char_end-at.result _ c.escape_or_quote-escape.ensures
    c.quoted_char_end-at.ensures.within c.len_until2_on_line-at.ensures in
    omega (arith, p.within)

pub loop-at-preserved : goal.loop-at-preserved
loop-at-preserved c =
    let p = passed c.args.quote c.escape_or_quote-escape.result c.args.bytes.now
    c.quoted_char_end-at.result _ c.escape_or_quote-escape.ensures
    c.quoted_char_end-at.ensures.within c.len_until2_on_line-at.ensures in
    record {
      within = p.within;
      on = omega (arith, c.loop-at.invariant.on, c.quoted_char_end-at.ensures.forward);
      close = p.close ∙ c.quoted_char_end-at.ensures.close ∙ c.loop-at.invariant.close;
      line = p.line ∙ c.quoted_char_end-at.ensures.line ∙ c.loop-at.invariant.line;
    }

pub returns-else-not-is_line_end-clause-at : goal.returns-else-not-is_line_end-clause-at
returns-else-not-is_line_end-clause-at c =
    let u = c.args.bytes.now in
    let e = quote_stop c.args.quote u c.loop-at.at (get_or u c.loop-at.at 0) c.requires.quote
    (some_read u c.loop-at.at c.loop-at-test.true) (sym c.is_line_end.ensures
    ∙ c.if-not-is_line_end.false) in
    unclosed c.args.quote u c.args.start c.loop-at.at (sym c.loop-at.invariant.close ∙ e.0)
    (sym c.loop-at.invariant.line ∙ e.1)

pub returns-else-not-is_line_end-clause-closed : goal.returns-else-not-is_line_end-clause-closed
returns-else-not-is_line_end-clause-closed c =
    let u = c.args.bytes.now in
    let e = quote_stop c.args.quote u c.loop-at.at (get_or u c.loop-at.at 0) c.requires.quote
    (some_read u c.loop-at.at c.loop-at-test.true) (sym c.is_line_end.ensures
    ∙ c.if-not-is_line_end.false) in
    rw (sym c.loop-at.invariant.close ∙ e.0) refl

pub returns-after-loop-at-clause-at : goal.returns-after-loop-at-clause-at
returns-after-loop-at-clause-at c =
    let past : length c.args.bytes.now ≤ c.loop-at.at = omega (arith, c.loop-at-test.false) in
    let e = quote_past c.args.quote c.args.bytes.now c.loop-at.at past in
    unclosed c.args.quote c.args.bytes.now c.args.start c.loop-at.at (sym c.loop-at.invariant.close
    ∙ e.0) (sym c.loop-at.invariant.line ∙ e.1)

pub returns-after-loop-at-clause-closed : goal.returns-after-loop-at-clause-closed
returns-after-loop-at-clause-closed c =
    let past : length c.args.bytes.now ≤ c.loop-at.at = omega (arith, c.loop-at-test.false) in
    let e = quote_past c.args.quote c.args.bytes.now c.loop-at.at past in
    rw (sym c.loop-at.invariant.close ∙ e.0) refl
