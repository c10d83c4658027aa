use Rattle.std.proofs.Common.{arith}
use Rattle.std.proofs.lemmas.Bool.Decides.{nat_tests}
use Rattle.squawk_lexer.specs.ClassTests.{digit_test}
use Rattle.squawk_lexer.proofs.ByteRuns.{skipped}
use Rattle.squawk_lexer.proofs.DigitRuns.{passed_digits, digits_count}
use Rattle.squawk_lexer.proofs.DigitClasses.{ascii_digit_test}
use Rattle.squawk_lexer.proofs.cursor.Cursor.eat_digits.Goals as goal

pub range_from-self-inside-requires : goal.range_from-self-inside-requires
range_from-self-inside-requires c =
    let s = passed_digits (digit_test c.args.digits) (ascii_digit_test c.args.digits) _ _ _ _
    c.self.invariant c.digits_len-len.ensures c.as_bytes.ensures.value in
    λ _. s.boundary

pub invariant_of-self : goal.invariant_of-self
invariant_of-self c =
    let s = passed_digits (digit_test c.args.digits) (ascii_digit_test c.args.digits) _ _ _ _
    c.self.invariant c.digits_len-len.ensures c.as_bytes.ensures.value in
    (skipped _ _ _ _ _ s c.range_from-self-inside.ensures.value).0

pub returns-clause-at : goal.returns-clause-at
returns-clause-at c =
    let s = passed_digits (digit_test c.args.digits) (ascii_digit_test c.args.digits) _ _ _ _
    c.self.invariant c.digits_len-len.ensures c.as_bytes.ensures.value in
    rw (← c.self.view_is) (skipped _ _ _ _ _ s c.range_from-self-inside.ensures.value).1

pub returns-clause-has_digits : goal.returns-clause-has_digits
returns-clause-has_digits c =
    let s = passed_digits (digit_test c.args.digits) (ascii_digit_test c.args.digits) _ _ _ _
    c.self.invariant c.digits_len-len.ensures c.as_bytes.ensures.value in
    let count = digits_count (digit_test c.args.digits) (ascii_digit_test c.args.digits) _ _ _ _
    c.self.invariant c.digits_len-len.ensures c.as_bytes.ensures.value in
    let at = (skipped _ _ _ _ _ s c.range_from-self-inside.ensures.value).1 in
    rw (← c.self.view_is) (grind (arith, nat_tests, count, at))
