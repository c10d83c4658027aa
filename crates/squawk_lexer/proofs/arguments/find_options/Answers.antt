use Rattle.std.proofs.Common.{◌≡◌, true, false, cond, Some, None, get_or, sym, ap, ap₂, ◌∙◌, arith}
use Rattle.squawk_lexer.specs.Classes.{is_blank}
use Rattle.squawk_lexer.specs.PsqlParts.{is_psql_quote, ends_arguments, arguments_end, is_parenthesis}
use Rattle.squawk_lexer.proofs.ByteClasses.{entry_is, entry_not}
use Rattle.squawk_lexer.proofs.ArgumentSteps.{args_single, args_quote, blank_is_plain, blank_goes_on, marked_end, marked_single, marked_quote, marked_blank, marked_found, marked_stop, marked_none, options_last, options_found}
use Rattle.squawk_lexer.proofs.arguments.find_options.Goals as goal
use Rattle.squawk_lexer.proofs.arguments.find_options.Goals.{then-loop-at-test+else-table-bytes-ne-END, else-loop-at-test}

pub loop-at-preserved-then-table-b-eq-QUOTE : goal.loop-at-preserved-then-table-b-eq-QUOTE
loop-at-preserved-then-table-b-eq-QUOTE c =
    let u = c.args.bytes.now in
    let i = c.loop-at.at in
    let b = get_or u i 0 in
    let quote : is_psql_quote b ≡ true = entry_is _ 91 (is_psql_quote b)
    (c.argument_table-table.ensures.quotes b (c.type_inv.bytes i).fits) c.if-table-b-eq-QUOTE.true in
    record {
      within = c.quote_end-end.ensures.within;
      end = ap (arguments_end u) c.quote_end-end.ensures.at
          ∙ sym (args_quote u i c.loop-at-test.true quote) ∙ c.loop-at.invariant.end;
      marked = ap₂ (λ m k. marked_end m u k) c.mark_after_quote-mark.ensures c.quote_end-end.ensures.at
          ∙ sym (marked_quote c.loop-at.mark u i c.loop-at-test.true quote)
          ∙ c.loop-at.invariant.marked;
    }

pub loop-at-preserved-then-table-b-ne-BLANK : goal.loop-at-preserved-then-table-b-ne-BLANK
loop-at-preserved-then-table-b-ne-BLANK c =
    let u = c.args.bytes.now in
    let i = c.loop-at.at in
    let b = get_or u i 0 in
    let byte = (c.type_inv.bytes i).fits in
    let table = c.argument_table-table.ensures in
    let no_quote : is_psql_quote b ≡ false = entry_not _ 91 (is_psql_quote b) (table.quotes b byte)
    c.if-table-b-eq-QUOTE.false in
    let more : ends_arguments b ≡ false = entry_not _ 93 (ends_arguments b) (table.ends b byte)
    c.if-table-bytes-ne-END.true in
    let no_blank : is_blank b ≡ false = entry_not _ 44 (is_blank b) (table.blanks b byte)
    c.if-table-b-ne-BLANK.true in
    record {
      within = omega (arith, c.loop-at-test.true);
      end = sym (args_single u i c.loop-at-test.true no_quote more) ∙ c.loop-at.invariant.end;
      marked = sym (marked_single c.loop-at.mark u i c.loop-at-test.true no_quote more no_blank)
          ∙ c.loop-at.invariant.marked;
    }

pub returns-then-is_parenthesis-clause-len : goal.returns-then-is_parenthesis-clause-len
returns-then-is_parenthesis-clause-len c =
    let u = c.args.bytes.now in
    let i = c.loop-at.at in
    let b = get_or u i 0 in
    let blank : is_blank b ≡ true = entry_is _ 44 (is_blank b)
    (c.argument_table-table.ensures.blanks b (c.type_inv.bytes i).fits) c.if-table-b-ne-BLANK.false in
    let found = marked_found c.loop-at.mark u i c.loop-at-test.true blank
    (sym c.is_parenthesis.ensures ∙ c.if-is_parenthesis.true) in
    (options_found c.loop-at.mark u i c.loop-at.invariant.marked found).0

pub returns-then-is_parenthesis-clause-ended : goal.returns-then-is_parenthesis-clause-ended
returns-then-is_parenthesis-clause-ended c =
    let u = c.args.bytes.now in
    let i = c.loop-at.at in
    let b = get_or u i 0 in
    let blank : is_blank b ≡ true = entry_is _ 44 (is_blank b)
    (c.argument_table-table.ensures.blanks b (c.type_inv.bytes i).fits) c.if-table-b-ne-BLANK.false in
    let found = marked_found c.loop-at.mark u i c.loop-at-test.true blank
    (sym c.is_parenthesis.ensures ∙ c.if-is_parenthesis.true) in
    (options_found c.loop-at.mark u i c.loop-at.invariant.marked found).1

pub loop-at-preserved : goal.loop-at-preserved
loop-at-preserved c =
    let u = c.args.bytes.now in
    let i = c.loop-at.at in
    let b = get_or u i 0 in
    let blank : is_blank b ≡ true = entry_is _ 44 (is_blank b)
    (c.argument_table-table.ensures.blanks b (c.type_inv.bytes i).fits) c.if-table-b-ne-BLANK.false in
    record {
      within = omega (arith, c.loop-at-test.true);
      end = sym (args_single u i c.loop-at-test.true (blank_is_plain b blank) (blank_goes_on b blank))
          ∙ c.loop-at.invariant.end;
      marked = sym (marked_blank c.loop-at.mark u i c.loop-at-test.true blank
          (sym c.is_parenthesis.ensures ∙ c.if-is_parenthesis.false)) ∙ c.loop-at.invariant.marked;
    }

-- Where the arguments end, the last one may be marked.
last : (c : goal.After-is_parenthesis-2)
    → (marked_end c.loop-at.mark c.args.bytes.now c.loop-at.at
    ≡ cond (is_parenthesis c.loop-at.mark) (Some c.loop-at.at) None)
    × (arguments_end c.args.bytes.now c.loop-at.at ≡ c.loop-at.at)
last c =
    let u = c.args.bytes.now in
    let i = c.loop-at.at in
    let b = get_or u i 0 in
    elim c.loop-at-test.branch [
      | then-loop-at-test+else-table-bytes-ne-END w ↦ marked_stop c.loop-at.mark u i
          w.loop-at-test.true (entry_is _ 93 (ends_arguments b)
          (c.argument_table-table.ensures.ends b (c.type_inv.bytes i).fits) w.if-table-bytes-ne-END.false)
      | else-loop-at-test w ↦ marked_none c.loop-at.mark u i (omega (arith, w.loop-at-test.false))
    ]

pub returns-clause-len : goal.returns-clause-len
returns-clause-len c =
    (options_last c.loop-at.mark c.args.bytes.now c.loop-at.at c.loop-at.invariant.end
    c.loop-at.invariant.marked (last c)).0

pub returns-clause-ended : goal.returns-clause-ended
returns-clause-ended c =
    c.is_parenthesis-2.ensures
    ∙ (options_last c.loop-at.mark c.args.bytes.now c.loop-at.at c.loop-at.invariant.end
    c.loop-at.invariant.marked (last c)).1
