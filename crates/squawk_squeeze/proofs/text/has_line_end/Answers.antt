use Rattle.std.proofs.Common.{sym, ◌∙◌}
use Rattle.std.proofs.lemmas.Str.{IsUtf8-past_char, chars_past_char}
use Rattle.squawk_squeeze.proofs.SqueezeBytes.{chars_none}
use Rattle.squawk_squeeze.proofs.text.has_line_end.Goals as goal

pub returns-then-is_line_end : goal.returns-then-is_line_end
returns-then-is_line_end c =
    let held = c.loop-c.invariant in
    let step = chars_past_char _ _ c.in-Some.c held.0 c.in-Some.ensures.steps.0 in
    let ends = sym c.is_line_end.ensures ∙ c.if-is_line_end.true in
    rw (step, ends) at held.1

pub loop-c-preserved : goal.loop-c-preserved
loop-c-preserved c =
    let held = c.loop-c.invariant in
    let parts = c.in-Some.ensures.steps.0 in
    let other = sym c.is_line_end.ensures ∙ c.if-is_line_end.false in (
      IsUtf8-past_char _ _ c.in-Some.c held.0 parts,
      rw (chars_past_char _ _ c.in-Some.c held.0 parts, other) at held.1,
    )

pub returns : goal.returns
returns c = rw (chars_none _ c.in-None.ensures.steps.0.0) at c.loop-c.invariant.1
