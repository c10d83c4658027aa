use Rattle.std.proofs.Common.{length, ap, sym}
use Rattle.squawk_show.proofs.DigitLemmas.{decimal_one, decimal_two, decimal_three, decimal_four}
use Rattle.squawk_show.proofs.digits.digit_count.Goals as goal

pub returns-then-n-lt10-clause-count : goal.returns-then-n-lt10-clause-count
returns-then-n-lt10-clause-count c = sym (ap length (decimal_one c.args.n c.if-n-lt10.true))

pub returns-then-n-lt100-clause-count : goal.returns-then-n-lt100-clause-count
returns-then-n-lt100-clause-count c =
    sym (ap length (decimal_two c.args.n c.if-n-lt10.false c.if-n-lt100.true))

pub returns-then-n-lt1000-clause-count : goal.returns-then-n-lt1000-clause-count
returns-then-n-lt1000-clause-count c =
    sym (ap length (decimal_three c.args.n c.if-n-lt100.false c.if-n-lt1000.true))

pub returns-else-n-lt1000-clause-count : goal.returns-else-n-lt1000-clause-count
returns-else-n-lt1000-clause-count c =
    sym (ap length (decimal_four c.args.n c.if-n-lt1000.false c.requires))
