use Rattle.std.proofs.Common.{◌∙◌}
use Rattle.squawk_show.specs.Digits.{IsLastFourDigits}
use Rattle.squawk_show.proofs.DigitLemmas.{table_push}
use Rattle.squawk_show.proofs.digits.make_trailing.Goals as goal

pub loop-n-preserved : goal.loop-n-preserved
loop-n-preserved c =
    let is : IsLastFourDigits c.loop-n.n c.pack_u32.result =
    c.pack_u32.ensures ∙ c.trailing_bytes.ensures in
    rw c.in_ok-push.ensures.items (table_push IsLastFourDigits c.loop-n.n c.pack_u32.result
    c.loop-n.table.items c.loop-n.invariant is)
