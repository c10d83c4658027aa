use Rattle.std.proofs.Common.{◌∙◌, ap, take, length}
use Rattle.std.specs.Prelude.{decimal}
use Rattle.squawk_show.specs.Digits.{StartsWithDigits}
use Rattle.squawk_show.proofs.DigitLemmas.{table_push}
use Rattle.squawk_show.proofs.digits.make_leading.Goals as goal

pub loop-n-preserved : goal.loop-n-preserved
loop-n-preserved c =
    let is : StartsWithDigits c.loop-n.n c.pack_u32.result =
    ap (take (length (decimal c.loop-n.n))) c.pack_u32.ensures ∙ c.leading_bytes.ensures in
    rw c.in_ok-push.ensures.items (table_push StartsWithDigits c.loop-n.n c.pack_u32.result
    c.loop-n.table.items c.loop-n.invariant is)
