-- Runs of digits, decimal or hexadecimal, with the premises that the code has.
use Rattle.std.proofs.Common.{◌≡◌, ℕ, ◌+◌, ◌<◌, true, false, List, length, get_or, drop}
use Rattle.squawk_lexer.specs.declared.classes.Digits.{Digits}
use Rattle.squawk_lexer.specs.declared.classes.Digits.TheVariants.{Decimal, Hexadecimal}
use Rattle.squawk_lexer.specs.ClassTests.{digit_test}
use Rattle.squawk_lexer.specs.Position.{position_after}
use Rattle.squawk_lexer.specs.Runs.{digits_len}
use Rattle.squawk_lexer.proofs.Steps.{digits_more, digits_more_underscore, digits_stop, hex_more, hex_more_underscore, hex_stop}
use Rattle.squawk_lexer.proofs.DigitRuns.{IsAsciiOnly, ascii_digit, ascii_hex_digit}

-- Neither set of digits has a character beyond ASCII.
pub ascii_digit_test : (digits : Digits) → IsAsciiOnly (digit_test digits)
ascii_digit_test Decimal = ascii_digit
ascii_digit_test Hexadecimal = ascii_hex_digit

-- A run goes on with a digit,
pub run_more_digit : (digits : Digits) (u : List ℕ) (i : ℕ)
    → digit_test digits (get_or u i 0) ≡ true
    → (i + 1 + digits_len (digit_test digits) (drop (i + 1) u)
    ≡ i + digits_len (digit_test digits) (drop i u)) × (position_after u i ≡ i + 1) × (i < length u)
run_more_digit Decimal u i t = digits_more u i t
run_more_digit Hexadecimal u i t = hex_more u i t

-- and with `_` (95) directly before a digit,
pub run_more_underscore : (digits : Digits) (u : List ℕ) (i : ℕ) → get_or u i 0 ≡ 95
    → digit_test digits (get_or u (i + 1) 0) ≡ true
    → (i + 1 + digits_len (digit_test digits) (drop (i + 1) u)
    ≡ i + digits_len (digit_test digits) (drop i u)) × (position_after u i ≡ i + 1) × (i < length u)
run_more_underscore Decimal u i e t = digits_more_underscore u i e t
run_more_underscore Hexadecimal u i e t = hex_more_underscore u i e t

-- and ends before anything else.
pub run_stop_digit : (digits : Digits) (u : List ℕ) (i : ℕ)
    → digit_test digits (get_or u i 0) ≡ false
    → (get_or u i 0 ≡ 95 → digit_test digits (get_or u (i + 1) 0) ≡ false)
    → i + digits_len (digit_test digits) (drop i u) ≡ i
run_stop_digit Decimal u i t n = digits_stop u i t n
run_stop_digit Hexadecimal u i t n = hex_stop u i t n

pub ruleset digit_class_steps = (run_more_digit, run_more_underscore, run_stop_digit)
