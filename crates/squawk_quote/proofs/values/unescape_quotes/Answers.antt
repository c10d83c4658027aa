use Rattle.std.proofs.Common.{◌++◌, chars, sym, ap, ◌∙◌}
use Rattle.std.proofs.lemmas.Str.{IsUtf8-past_char, chars_past_char}
use Rattle.std.specs.Str.{encode_utf8_all}
use Rattle.std.specs.Str.Iter.{chars_rest}
use Rattle.std.specs.String.{string_bytes}
use Rattle.squawk_quote.specs.ValueForms.{unescape_rest}
use Rattle.squawk_quote.proofs.values.unescape_quotes.Goals as goal

pub loop-c-preserved : goal.loop-c-preserved
loop-c-preserved c =
    let held = c.loop-c.invariant in
    let parts = c.in-Some.ensures.steps.0 in
    let step = chars_past_char _ _ c.in-Some.c held.utf8 parts in
    record {
      utf8 = IsUtf8-past_char _ _ c.in-Some.c held.utf8 parts;
      output = c.in_ok-after_quote.ensures (chars (chars_rest c.next.new.self))
          ∙ ap (λ u. string_bytes c.loop-c.out
          ++ encode_utf8_all (unescape_rest c.loop-c.after_quote c.args.quote u)) (sym step)
          ∙ held.output;
    }
