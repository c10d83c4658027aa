use Rattle.std.proofs.Common.{◌++◌, sym, ap, ◌∙◌}
use Rattle.std.proofs.lemmas.Str.{IsUtf8-past_char, chars_past_char}
use Rattle.std.specs.Str.{encode_utf8_all}
use Rattle.std.specs.String.{string_bytes}
use Rattle.squawk_quote.specs.Values.{escape_quotes}
use Rattle.squawk_quote.proofs.QuoteBytes.{put_more, put_none}
use Rattle.squawk_quote.proofs.writers.push_escaped.Goals as goal

pub loop-c-preserved : goal.loop-c-preserved
loop-c-preserved c =
    let held = c.loop-c.invariant in
    let parts = c.in-Some.ensures.steps.0 in
    let step = chars_past_char _ _ c.in-Some.c held.0 parts in (
      IsUtf8-past_char _ _ c.in-Some.c held.0 parts,
      put_more c.args.quote c.in-Some.c _ _ (string_bytes c.loop-c.out) _
          c.in_ok-push_escaped_char.ensures (ap (λ u.
          string_bytes c.loop-c.out ++ encode_utf8_all (escape_quotes c.args.quote u)) (sym step)
          ∙ held.1),
    )

pub returns : goal.returns
returns c = put_none c.args.quote _ _ _ c.in-None.ensures.steps.0.0 c.loop-c.invariant.1
