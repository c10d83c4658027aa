use Rattle.std.proofs.Common.{◌≡◌, true, false, get_or, sym, ap, ◌∙◌, arith}
use Rattle.squawk_lexer.specs.PsqlParts.{is_psql_quote, ends_arguments, arguments_end}
use Rattle.squawk_lexer.proofs.ByteClasses.{entry_not, entry_below, entry_above}
use Rattle.squawk_lexer.proofs.ArgumentSteps.{args_single, args_quote}
use Rattle.squawk_lexer.proofs.arguments.arguments_len.Goals as goal

pub loop-at-preserved-then-entry-lt-QUOTE : goal.loop-at-preserved-then-entry-lt-QUOTE
loop-at-preserved-then-entry-lt-QUOTE c =
    let u = c.args.bytes.now in
    let b = get_or u c.loop-at.at 0 in
    let byte = (c.type_inv.bytes c.loop-at.at).fits in
    let plain = entry_below _ (is_psql_quote b) (ends_arguments b)
    (c.argument_table-table.ensures.skipped b byte) c.if-entry-lt-QUOTE.true in
    record {
      within = omega (arith, c.loop-at-test.true);
      end = sym (args_single u c.loop-at.at c.loop-at-test.true plain.0 plain.1)
          ∙ c.loop-at.invariant.end;
    }

pub loop-at-preserved : goal.loop-at-preserved
loop-at-preserved c =
    let u = c.args.bytes.now in
    let b = get_or u c.loop-at.at 0 in
    let byte = (c.type_inv.bytes c.loop-at.at).fits in
    let table = c.argument_table-table.ensures in
    let more : ends_arguments b ≡ false = entry_not _ 93 (ends_arguments b) (table.ends b byte)
    c.if-entry-eq-END.false in
    let quote : is_psql_quote b ≡ true = entry_above _ (is_psql_quote b) (ends_arguments b)
    (table.skipped b byte) (omega (arith, c.if-entry-lt-QUOTE.false)) more in
    record {
      within = c.quote_end-at.ensures.within;
      end = ap (arguments_end u) c.quote_end-at.ensures.at
          ∙ sym (args_quote u c.loop-at.at c.loop-at-test.true quote) ∙ c.loop-at.invariant.end;
    }
