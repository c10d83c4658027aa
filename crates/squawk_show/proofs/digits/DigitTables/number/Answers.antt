use Rattle.std.proofs.Common.{◌/◌, ◌%◌, ◌<◌, sym, subst, refl, arith}
use Rattle.std.proofs.lemmas.List.{get_or_read}
use Rattle.squawk_show.specs.Digits.{IsLastFourDigits}
use Rattle.squawk_show.proofs.DigitLemmas.{spells_more}
use Rattle.squawk_show.proofs.digits.DigitTables.number.Goals as goal

pub invariant_of-result-2-clause-digits : goal.invariant_of-result-2-clause-digits
invariant_of-result-2-clause-digits c =
    let n = c.args.value in
    let tables = c.args.self.now in
    let low : n % 10000 < 10000 = omega arith in
    let lower = get_or_read tables.trailing.items (n % 10000) c.index.result.now
    (omega (arith, low, tables.trailing_digits.counted)) c.index.ensures 0 in
    let ends = subst (IsLastFourDigits (n % 10000)) (sym lower)
    (tables.trailing_digits.each (n % 10000) low) in
    spells_more n (n / 10000) _ _ _ _ (omega (arith, c.if-value-lt-GROUP.false)) (omega arith) refl
    c.upper_digits-upper-2.ensures ends refl
