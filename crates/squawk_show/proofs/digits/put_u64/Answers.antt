use Rattle.std.proofs.Common.{arith, ◌∙◌}
use Rattle.squawk_show.proofs.DigitLemmas.{take_put}
use Rattle.squawk_show.proofs.digits.put_u64.Goals as goal

pub returns-clause-written : goal.returns-clause-written
returns-clause-written c = λ n within.
    take_put c.args.at _ n c.args.text.now _ _ (omega arith) (c.copy_from_slice.ensures.after
    ∙ c.to_le_bytes.ensures) within
