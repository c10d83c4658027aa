use Rattle.std.proofs.Common.{length, sym, ap, ◌∙◌}
use Rattle.std.proofs.lemmas.Str.{IsUtf8-past_char, chars_past_char}
use Rattle.squawk_quote.specs.Tags.{mark_tags}
use Rattle.squawk_quote.proofs.TagPass.{mark_more, mark_end, run_is_short, shorter_rest}
use Rattle.squawk_quote.proofs.tag.mark_tags.Goals as goal

pub loop-c-preserved : goal.loop-c-preserved
loop-c-preserved c =
    let held = c.loop-c.invariant in
    let parts = c.in-Some.ensures.steps.0 in
    let step = chars_past_char _ _ c.in-Some.c held.utf8 parts in
    record {
      utf8 = IsUtf8-past_char _ _ c.in-Some.c held.utf8 parts;
      marks = mark_more c.args.base c.loop-c.run c.extend_run-run.result c.in-Some.c _ c.loop-c.seen
          c.mark_at.new.seen _ c.mark_at.ensures c.extend_run-run.ensures
          (ap (λ u. mark_tags c.args.base c.loop-c.run u c.loop-c.seen) (sym step) ∙ held.marks);
      within = shorter_rest c.in-Some.c _ _ (length c.args.value.now) parts held.within;
      short = run_is_short c.loop-c.run c.extend_run-run.result c.in-Some.c _ _
          (length c.args.value.now) parts held.within held.short c.extend_run-run.ensures;
    }

pub returns : goal.returns
returns c =
    mark_end c.args.base c.loop-c.run _ c.loop-c.seen c.mark_run.new.seen _
    c.in-None.ensures.steps.0.0 c.mark_run.ensures c.loop-c.invariant.marks
