use Rattle.std.proofs.Common.{◌∙◌, ◌++◌, ap, take, refl, arith, length-take-le}
use Rattle.squawk_show.specs.Digits.{u32_bytes, u64_bytes}
use Rattle.squawk_show.proofs.DigitLemmas.{groups_written}
use Rattle.squawk_show.proofs.digits.put_number.Goals as goal

pub returns-clause-written : goal.returns-clause-written
returns-clause-written c =
    let number = c.args.number in
    let old = c.args.text.now in
    let spelt = number.digits in
    let size_old = length-take-le c.args.at old (omega (arith, c.requires)) in
    let size_first = length-take-le number.width (u64_bytes number.upper)
    (omega (arith, spelt.narrow)) in
    groups_written c.args.at number.width number.len old _ _ (u64_bytes number.upper)
    (u32_bytes number.lower)
    (c.put_u64.ensures.written number.width (omega (arith, spelt.narrow)))
    (c.put_u32.ensures.written 4 (omega arith))
    refl size_old size_first spelt.ordered spelt.short
    ∙ ap (λ xs. take c.args.at old ++ xs) spelt.written
