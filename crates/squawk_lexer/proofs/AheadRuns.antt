-- Runs and numbers are decided by the characters up to their end, and by tests of the next two.
use Rattle.std.proofs.Common.{◌≡◌, ℕ, ◌+◌, ◌≤◌, Bool, true, false, List, [], ◌∷◌, ◌++◌, length, get_or, take, Option, None, Some, refl, ap, ◌∙◌, not, ◌&&◌, ◌||◌, eqb, cond, arith}
use Rattle.std.specs.List.{prefix_len}
use Rattle.squawk_lexer.specs.declared.token.Base.{Base}
use Rattle.squawk_lexer.specs.declared.token.Base.TheVariants.{Binary, Octal, Decimal, Hexadecimal}
use Rattle.squawk_lexer.specs.Kind.{Lexeme}
use Rattle.squawk_lexer.specs.Text.{utf8_len}
use Rattle.squawk_lexer.specs.Classes.{is_digit, is_hex_digit, is_ident_start, is_ident_cont, is_tag_cont}
use Rattle.squawk_lexer.specs.Runs.{run_end, digits_len, digits_end, hex_digits_end, junk_end, is_sign, exponent_end, is_exponent_letter, fraction_end}
use Rattle.squawk_lexer.specs.Numbers.{number, decimal_from, fractional, with_exponent, numeric, int, based_int, parameter}
use Rattle.squawk_lexer.proofs.TokenLaws.{junk_on, exponent_on, fraction_on, with_exponent_on, decimal_on, number_on}
use Rattle.squawk_lexer.proofs.Ahead.{Tests, PairTests, Looks, branch, pick, Alike, read, take_same, test, pair, seen}

-- ---- runs

-- The length of a run is decided by its characters and by the test of the next.
pub prefix_looks : {tests : Tests} {pairs : PairTests} (class : ℕ → Bool) → tests class
    → Looks tests pairs (prefix_len class) (prefix_len class)
prefix_looks class t [] c d r s f h =
    pick (λ n. n) (class c) (class d) (1 + prefix_len class r) 0 (1 + prefix_len class s) 0 0
    (f.one class t) (λ e k. absurd (omega arith)) (λ e k. refl) h
prefix_looks class t (x ∷ xs) c d r s f h =
    branch (λ n. n) (class x) (1 + prefix_len class (xs ++ c ∷ r)) 0 (1 + prefix_len class
    (xs ++ d ∷ s)) 0 (length (x ∷ xs))
    (λ e k. ap (λ n. 1 + n) (prefix_looks class t xs c d r s f (omega arith))) (λ e k. refl) h

-- The end of a run is the same in both texts.
pub run_same : {tests : Tests} {pairs : PairTests} (class : ℕ
    → Bool) → tests class → (k : ℕ) (u v : List ℕ) (i : ℕ) → Alike tests pairs k u v
    → run_end class u i ≤ k → run_end class v i ≡ run_end class u i
run_same class t k u v i a h =
    ap (λ n. i + n) (seen (prefix_len class) (prefix_len class) (prefix_looks class t) k u v i a h)

-- The length of a run of digits is decided by its characters and by tests of the next two, since
-- `_` (95) belongs to it only before a digit.
digits_looks : {tests : Tests} {pairs : PairTests} (digit : ℕ → Bool) → tests digit
    → pairs (λ c. eqb c 95) digit → Looks tests pairs (digits_len digit) (digits_len digit)
digits_looks digit t p [] c d r s f h =
    pick (λ n. n) _ _ (1 + digits_len digit r) 0 (1 + digits_len digit s) 0 0
    (ap (λ b. b || (eqb d 95 && digit (get_or s 0 0))) (f.one digit t)
    ∙ ap (λ b. digit c || b) (f.two (λ c. eqb c 95) digit p))
    (λ e k. absurd (omega arith)) (λ e k. refl) h
digits_looks digit t p (x ∷ []) c d r s f h =
    pick (λ n. n) _ _ (1 + digits_len digit (c ∷ r)) 0 (1 + digits_len digit (d ∷ s)) 0 1
    (ap (λ b. digit x || (eqb x 95 && b)) (f.one digit t))
    (λ e k. ap (λ n. 1 + n) (digits_looks digit t p [] c d r s f (omega arith))) (λ e k. refl) h
digits_looks digit t p (x ∷ y ∷ xs) c d r s f h =
    branch (λ n. n) (digit x || (eqb x 95 && digit y)) (1 + digits_len digit (y ∷ xs ++ c ∷ r)) 0
    (1 + digits_len digit (y ∷ xs ++ d ∷ s)) 0 (length (x ∷ y ∷ xs))
    (λ e k. ap (λ n. 1 + n) (digits_looks digit t p (y ∷ xs) c d r s f (omega arith)))
    (λ e k. refl) h

-- ---- the tests of words and numbers

-- The tests of the character after a word or a number, and of the two after it.
pub record Asks (tests : Tests) (pairs : PairTests) : Type 0 where
  pub id_start : tests is_ident_start
  pub id_cont : tests is_ident_cont
  pub tag_cont : tests is_tag_cont
  pub digit : tests is_digit
  pub hex : tests is_hex_digit
  pub letters : (x y : ℕ) → 65 ≤ x → 65 ≤ y → tests (λ c. eqb c x || eqb c y)
  pub no_point : tests (λ c. not (eqb c 46))
  pub dollar : tests (λ c. eqb c 36)
  pub apostrophe : tests (λ c. eqb c 39)
  pub quotation : tests (λ c. eqb c 34)
  pub points : pairs (λ c. eqb c 46) (λ c. not (eqb c 46))
  pub signs : pairs is_sign is_digit
  pub underscore_digit : pairs (λ c. eqb c 95) is_digit
  pub underscore_hex_digit : pairs (λ c. eqb c 95) is_hex_digit
  pub and_string : pairs (λ c. eqb c 38) (λ c. eqb c 39)
  pub and_ident : pairs (λ c. eqb c 38) (λ c. eqb c 34)

-- The ends of runs of digits and of junk are the same in both texts.
pub digits_same : {tests : Tests} {pairs : PairTests}
    → Asks tests pairs → (k : ℕ) (u v : List ℕ) (i : ℕ) → Alike tests pairs k u v → digits_end u i ≤ k
    → digits_end v i ≡ digits_end u i
digits_same w k u v i a h =
    ap (λ n. i + n) (seen (digits_len is_digit) (digits_len is_digit)
    (digits_looks is_digit w.digit w.underscore_digit) k u v i a h)

pub hex_same : {tests : Tests} {pairs : PairTests} → Asks tests pairs → (k : ℕ) (u v : List ℕ) (i : ℕ)
    → Alike tests pairs k u v → hex_digits_end u i ≤ k → hex_digits_end v i ≡ hex_digits_end u i
hex_same w k u v i a h =
    ap (λ n. i + n) (seen (digits_len is_hex_digit) (digits_len is_hex_digit)
    (digits_looks is_hex_digit w.hex w.underscore_hex_digit) k u v i a h)

pub junk_same : {tests : Tests} {pairs : PairTests}
    → Asks tests pairs → (k : ℕ) (u v : List ℕ) (i : ℕ) → Alike tests pairs k u v → junk_end u i ≤ k
    → junk_end v i ≡ junk_end u i
junk_same w k u v i a h =
    pick (λ n. n) (is_ident_start (get_or u i 0)) (is_ident_start (get_or v i 0))
    (run_end is_ident_cont u i) i (run_end is_ident_cont v i) i k
    (test is_ident_start w.id_start k u v i a (omega (arith, junk_on u i)))
    (λ t e. run_same is_ident_cont w.id_cont k u v i a e) (λ t e. refl) h

-- ---- numbers

-- So are the ends of an exponent and of the digits after a point,
exponent_same : {tests : Tests} {pairs : PairTests}
    → Asks tests pairs → (k : ℕ) (u v : List ℕ) (i : ℕ) → Alike tests pairs k u v
    → exponent_end u i ≤ k → exponent_end v i ≡ exponent_end u i
exponent_same w k u v i a h =
    let within : i + 1 ≤ k = omega (arith, exponent_on u i) in
    pick (λ n. n) _ _ (digits_end u (i + 2)) _ (digits_end v (i + 2)) _ k
    (pair is_sign is_digit w.digit w.signs k u v (i + 1) (i + 2) a within (omega arith))
    (λ t e. digits_same w k u v (i + 2) a e)
    (λ t. pick (λ n. n) _ _ (digits_end u (i + 1)) (i + 1) (digits_end v (i + 1)) (i + 1) k
    (test is_digit w.digit k u v (i + 1) a within)
    (λ s e. digits_same w k u v (i + 1) a e) (λ s e. refl)) h

fraction_same : {tests : Tests} {pairs : PairTests}
    → Asks tests pairs → (k : ℕ) (u v : List ℕ) (i : ℕ) → Alike tests pairs k u v
    → fraction_end u i ≤ k → fraction_end v i ≡ fraction_end u i
fraction_same w k u v i a h =
    pick (λ n. n) (is_digit (get_or u i 0)) (is_digit (get_or v i 0)) (digits_end u i) i
    (digits_end v i) i k
    (test is_digit w.digit k u v i a (omega (arith, fraction_on u i)))
    (λ t e. digits_same w k u v i a e) (λ t e. refl) h

-- integers, without and with a base prefix,
int_same : {tests : Tests} {pairs : PairTests} → Asks tests pairs
    → (base : Base) (empty : Bool) (k : ℕ) (u v : List ℕ) (n : ℕ) → Alike tests pairs k u v
    → (int base empty u n).end ≤ k → int base empty v n ≡ int base empty u n
int_same w base empty k u v n a h =
    let prefix = take_same k u v n a (omega (arith, junk_on u n)) in
    let end = junk_same w k u v n a h in
    rw (prefix, end) refl

based_same : {tests : Tests} {pairs : PairTests}
    → Asks tests pairs → (base : Base) (k : ℕ) (u v : List ℕ) (n m : ℕ) → Alike tests pairs k u v
    → (m ≤ k → n ≡ m) → (based_int base u m).end ≤ k → based_int base v n ≡ based_int base u m
based_same w base k u v n m a same h =
    let e : n ≡ m = same (omega (arith, junk_on u m)) in
    ap (based_int base v) e ∙ ap (λ j. int base (eqb m 2 && eqb j m) v m) (junk_same w k u v m a h)
    ∙ int_same w base (eqb m 2 && eqb (junk_end u m) m) k u v m a h

-- and numbers with a point or an exponent.
numeric_same : {tests : Tests} {pairs : PairTests}
    → Asks tests pairs → (empty : Option ℕ) (k : ℕ) (u v : List ℕ) (n : ℕ) → Alike tests pairs k u v
    → (numeric empty u n).end ≤ k → numeric empty v n ≡ numeric empty u n
numeric_same w empty k u v n a h =
    let prefix = take_same k u v n a (omega (arith, junk_on u n)) in
    let end = junk_same w k u v n a h in
    rw (prefix, end) refl

with_exponent_same : {tests : Tests} {pairs : PairTests}
    → Asks tests pairs → (k : ℕ) (u v : List ℕ) (i : ℕ) → Alike tests pairs k u v
    → (with_exponent u i).end ≤ k → with_exponent v i ≡ with_exponent u i
with_exponent_same w k u v i a h =
    let e = exponent_same w k u v i a (omega (arith, junk_on u (exponent_end u i))) in
    let prefix = take_same k u v i a (omega (arith, with_exponent_on u i)) in
    rw (e, prefix) (numeric_same w (cond (eqb (exponent_end u i) (i + 1))
    (Some (utf8_len (take i u))) None) k u v (exponent_end u i) a h)

-- The digits after the point end within the number.
fraction_in_number : (u : List ℕ) (i : ℕ) → fraction_end u i ≤ (fractional u i).end
fraction_in_number u i = by (is_exponent_letter (get_or u (fraction_end u i) 0))
  where
    by : (b : Bool)
        → fraction_end u i
        ≤ (cond b (with_exponent u (fraction_end u i)) (numeric None u (fraction_end u i))).end
    by true = with_exponent_on u (fraction_end u i)
    by false = junk_on u (fraction_end u i)

-- Every number is the same in both texts.
pub fractional_same : {tests : Tests} {pairs : PairTests}
    → Asks tests pairs → (k : ℕ) (u v : List ℕ) (i : ℕ) → Alike tests pairs k u v
    → (fractional u i).end ≤ k → fractional v i ≡ fractional u i
fractional_same w k u v i a h =
    let n = fraction_end u i in
    let within : n ≤ k = omega (arith, fraction_in_number u i) in
    let e : fraction_end v i ≡ n = fraction_same w k u v i a within in
    rw e
    (pick (λ (x : Lexeme). x.end) (is_exponent_letter (get_or u n 0))
    (is_exponent_letter (get_or v n 0)) (with_exponent u n) (numeric None u n)
    (with_exponent v n) (numeric None v n) k
    (test is_exponent_letter (w.letters 101 69 (omega arith) (omega arith)) k u v n a within)
    (λ t e. with_exponent_same w k u v n a e) (λ t e. numeric_same w None k u v n a e) h)

decimal_same : {tests : Tests} {pairs : PairTests} → Asks tests pairs → (k : ℕ) (u v : List ℕ) (i : ℕ)
    → Alike tests pairs k u v → (decimal_from u i).end ≤ k → decimal_from v i ≡ decimal_from u i
decimal_same w k u v i a h =
    let within : i ≤ k = omega (arith, decimal_on u i) in
    pick (λ (x : Lexeme). x.end) _ _ (fractional u (i + 1)) _ (fractional v (i + 1)) _ k (pair
    (λ c. eqb c 46) (λ c. not (eqb c 46)) w.no_point w.points k u v i (i + 1) a within refl)
    (λ t e. fractional_same w k u v (i + 1) a e)
    (λ t. pick (λ (x : Lexeme). x.end) _ _ (with_exponent u i) (int Decimal false u i)
    (with_exponent v i) (int Decimal false v i) k
    (test is_exponent_letter (w.letters 101 69 (omega arith) (omega arith)) k u v i a within)
    (λ s e. with_exponent_same w k u v i a e) (λ s e. int_same w Decimal false k u v i a e)) h

pub number_same : {tests : Tests} {pairs : PairTests} → Asks tests pairs → (k : ℕ) (u v : List ℕ)
    → Alike tests pairs k u v → (number u).end ≤ k → number v ≡ number u
number_same w k u v a h =
    pick (λ (x : Lexeme). x.end) _ _ (based_int Binary u (digits_end u 2)) _
    (based_int Binary v (digits_end v 2)) _ k (letter 98 66 (omega arith) (omega arith))
    (λ t. based_same w Binary k u v (digits_end v 2) (digits_end u 2) a
    (λ e. digits_same w k u v 2 a e))
    (λ t. pick (λ (x : Lexeme). x.end) _ _ (based_int Octal u (digits_end u 2)) _
    (based_int Octal v (digits_end v 2)) _ k (letter 111 79 (omega arith) (omega arith))
    (λ t. based_same w Octal k u v (digits_end v 2) (digits_end u 2) a
    (λ e. digits_same w k u v 2 a e))
    (λ t. pick (λ (x : Lexeme). x.end) _ _ (based_int Hexadecimal u (hex_digits_end u 2))
    (decimal_from u (digits_end u 1)) (based_int Hexadecimal v (hex_digits_end v 2))
    (decimal_from v (digits_end v 1)) k (letter 120 88 (omega arith) (omega arith))
    (λ t. based_same w Hexadecimal k u v (hex_digits_end v 2) (hex_digits_end u 2) a
    (λ e. hex_same w k u v 2 a e))
    (λ t e. ap (decimal_from v) (digits_same w k u v 1 a
    (le_trans (digits_end u 1) _ k (decimal_on u (digits_end u 1)) e))
    ∙ decimal_same w k u v (digits_end u 1) a e))) h
  where
    some : 1 ≤ k
    some = omega (arith, number_on u)

    letter : (x y : ℕ) → 65 ≤ x → 65 ≤ y
        → (eqb (get_or v 0 0) 48 && (eqb (get_or v 1 0) x || eqb (get_or v 1 0) y))
        ≡ (eqb (get_or u 0 0) 48 && (eqb (get_or u 1 0) x || eqb (get_or u 1 0) y))
    letter x y p q =
        ap (λ c. eqb c 48 && (eqb (get_or v 1 0) x || eqb (get_or v 1 0) y)) (read k u v 0 a some)
        ∙ ap (λ b. eqb (get_or u 0 0) 48 && b) (test
        (λ c. eqb c x || eqb c y) (w.letters x y p q) k u v 1 a some)

    le_trans : (x y z : ℕ) → x ≤ y → y ≤ z → x ≤ z
    le_trans x y z p q = omega arith

-- A positional parameter is the same in both texts.
pub parameter_same : {tests : Tests} {pairs : PairTests} → Asks tests pairs → (k : ℕ) (u v : List ℕ)
    → Alike tests pairs k u v → (parameter u).end ≤ k → parameter v ≡ parameter u
parameter_same w k u v a h =
    let n = run_end is_digit u 1 in
    let within : n ≤ k = omega (arith, junk_on u n) in
    let e : run_end is_digit v 1 ≡ n = run_same is_digit w.digit k u v 1 a within in
    let prefix = take_same k u v n a within in
    let end = junk_same w k u v n a h in
    rw (e, prefix, end) refl
