use Rattle.std.proofs.Common.{◌++◌, ◌∙◌, ap, arith}
use Rattle.std.specs.Prelude.{decimal}
use Rattle.squawk_show.proofs.DigitLemmas.{last_digit}
use Rattle.squawk_show.proofs.line.push_upper_digits.Goals as goal

pub returns-clause-digits : goal.returns-clause-digits
returns-clause-digits c =
    last_digit c.args.depth c.args.block.now _ c.if-depth-lt10.false
    (omega (arith, c.requires.depth)) (c.push_number.ensures.text
    ∙ ap (λ n. c.args.block.now ++ decimal n) c.number.ensures)
