use Rattle.std.proofs.Common.{◌≡◌, ◌/◌, ◌%◌, ◌<◌, sym, subst, arith}
use Rattle.std.proofs.lemmas.List.{get_or_read}
use Rattle.squawk_show.specs.Digits.{IsLastFourDigits}
use Rattle.squawk_show.proofs.DigitLemmas.{spells_more}
use Rattle.squawk_show.proofs.digits.DigitTables.number_sharing.Goals as goal

pub invariant_of-result-clause-digits : goal.invariant_of-result-clause-digits
invariant_of-result-clause-digits c =
    let n = c.args.value in
    let tables = c.args.self.now in
    let near = c.args.near in
    let low : n % 10000 < 10000 = omega arith in
    let lower = get_or_read tables.trailing.items (n % 10000) c.index-lower.result.now
    (omega (arith, low, tables.trailing_digits.counted)) c.index-lower.ensures 0 in
    let ends = subst (IsLastFourDigits (n % 10000)) (sym lower)
    (tables.trailing_digits.each (n % 10000) low) in
    let shared = near.upper_digits (omega (arith, c.if-high-near.true, c.if-high-gt0.true)) in
    let same : near.high ≡ n / 10000 = sym c.if-high-near.true in
    spells_more n near.high _ _ _ _ (omega (arith, c.if-high-gt0.true)) (omega arith) same
    shared.1 ends shared.2
