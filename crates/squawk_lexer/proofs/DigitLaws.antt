-- A run of digits is the longest.
use Rattle.std.proofs.Common.{◌≡◌, ℕ, zero, suc, ◌+◌, ◌<◌, Bool, true, false, List, [], ◌∷◌, length, cond, refl, ap, ◌∙◌, arith}
use Rattle.squawk_lexer.specs.Runs.{digits_len}
use Rattle.squawk_lexer.specs.QuotedLaws.{is_digit_at, IsDigitRun, DigitsAreLongest}

-- The test at an index, and one character further on.
after_first : (digit : ℕ → Bool) (c : ℕ) (cs : List ℕ) (i k : ℕ) → i ≡ suc k
    → is_digit_at digit (c ∷ cs) i ≡ is_digit_at digit cs k
after_first digit c cs i k e = ap (is_digit_at digit (c ∷ cs)) e
    ∙ (let next : suc k + 1 ≡ suc (k + 1) = omega arith in rw next refl)

-- A run with one more digit before it.
more : (digit : ℕ → Bool) (c : ℕ) (cs : List ℕ) (n : ℕ) → is_digit_at digit (c ∷ cs) 0 ≡ true
    → IsDigitRun digit cs n → IsDigitRun digit (c ∷ cs) (1 + n)
more digit c cs n t run = record { within = omega (arith, run.within); all = each; stops = stop }
  where
    each : (k : ℕ) → k < 1 + n → is_digit_at digit (c ∷ cs) k ≡ true
    each zero h = t
    each (suc k) h = after_first digit c cs (suc k) k refl ∙ run.all k (omega (arith, h))

    stop : 1 + n < length (c ∷ cs) → is_digit_at digit (c ∷ cs) (1 + n) ≡ false
    stop h = after_first digit c cs (1 + n) n (omega arith) ∙ run.stops (omega (arith, h))

-- An empty run.
none : (digit : ℕ → Bool) (u : List ℕ) → (0 < length u → is_digit_at digit u 0 ≡ false)
    → IsDigitRun digit u 0
none digit u stops = record {
  within = omega arith;
  all = λ k h. absurd (omega (arith, h));
  stops = stops;
}

-- The law, by induction on the text.
pub digits_are_longest : DigitsAreLongest
digits_are_longest digit [] = none digit [] (λ h. absurd (omega (arith, h)))
digits_are_longest digit (c ∷ cs) =
    by (is_digit_at digit (c ∷ cs) 0) refl (digits_are_longest digit cs)
  where
    by : (b : Bool) → is_digit_at digit (c ∷ cs) 0 ≡ b → IsDigitRun digit cs (digits_len digit cs)
        → IsDigitRun digit (c ∷ cs) (cond b (1 + digits_len digit cs) 0)
    by true t run = more digit c cs (digits_len digit cs) t run
    by false t run = none digit (c ∷ cs) (λ h. t)
