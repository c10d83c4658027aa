use Rattle.std.proofs.Common.{◌≤◌, ◌+◌, sym, arith}
use Rattle.squawk_show.proofs.DigitLemmas.{decimal_one}
use Rattle.squawk_show.proofs.digits.Number.zero.Goals as goal

pub invariant_of-result : goal.invariant_of-result
invariant_of-result c =
    record {
      digits = record {
        narrow = let h : 1 ≤ 6 = omega arith in h;
        ordered = let h : 1 ≤ 1 = omega arith in h;
        short = let h : 1 ≤ 1 + 4 = omega arith in h;
        written = sym (decimal_one 0 (omega arith));
      };
      upper_digits = λ h. absurd (omega (arith, h));
    }
