use Rattle.std.proofs.Common.{◌/◌, ◌%◌, ◌<◌, sym, subst, arith}
use Rattle.std.proofs.lemmas.Fmt.{length-decimal-le}
use Rattle.std.proofs.lemmas.List.{get_or_read}
use Rattle.squawk_show.specs.Digits.{StartsWithDigits, IsLastFourDigits}
use Rattle.squawk_show.proofs.DigitLemmas.{packed_more}
use Rattle.squawk_show.proofs.digits.DigitTables.upper_digits.Goals as goal

pub returns : goal.returns
returns c =
    let n = c.args.value in
    let tables = c.args.self.now in
    let high : n / 10000 < 10000 = omega (arith, c.requires) in
    let low : n % 10000 < 10000 = omega arith in
    let leading = get_or_read tables.leading.items (n / 10000) c.index-2.result.now
    (omega (arith, high, tables.leading_digits.counted)) c.index-2.ensures 0 in
    let lower = get_or_read tables.trailing.items (n % 10000) c.index-lower.result.now
    (omega (arith, low, tables.trailing_digits.counted)) c.index-lower.ensures 0 in
    let starts = subst (StartsWithDigits (n / 10000)) (sym leading)
    (tables.leading_digits.each (n / 10000) high) in
    let ends = subst (IsLastFourDigits (n % 10000)) (sym lower)
    (tables.trailing_digits.each (n % 10000) low) in
    let two = length-decimal-le 2 (n / 10000) (omega arith) (omega arith)
    (omega (arith, c.requires)) in
    packed_more n _ _ _ _ (omega (arith, c.if-value-lt-GROUP.false)) (omega (arith, c.requires))
    c.digit_count-width.ensures.count
    (omega (arith, c.digit_count-width.ensures.count, two)) starts ends c.join_groups-upper.ensures
