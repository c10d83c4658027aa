use Rattle.std.proofs.Common.{arith}
use Rattle.squawk_show.proofs.TransferLemmas.{appends_more}
use Rattle.squawk_show.proofs.writing.write_whole.Goals as goal

pub loop-done-preserved : goal.loop-done-preserved
loop-done-preserved g c = record {
  within = omega (arith, c.in_ok-done.ensures.bound);
  written = appends_more _ _ _ c.args.text.now c.loop-done.done c.in_ok-done.field-0
      c.loop-done.invariant.written c.in_ok-done.ensures.bytes;
  later = omega (arith, c.in_ok-done.ensures.cause.later);
}
