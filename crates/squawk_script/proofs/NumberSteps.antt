-- A number, by what the code finds about it.
use Rattle.std.proofs.Common.{◌≡◌, ℕ, suc, ◌+◌, ◌-◌, ◌^◌, ◌<◌, ◌≤◌, Bool, true, false, ◌&&◌, List, [], ◌∷◌, take, drop, length, slice_index, Some, None, Ok, Err, Result, refl, sym, ap, ◌∙◌, eqb, eqb-true, cond, arith, rules}
use Rattle.std.proofs.lemmas.Bool.Decides.{nat_tests}
use Rattle.std.proofs.lemmas.List.{get_or_past}
use Rattle.std.proofs.lemmas.List.Folds.{length-prefix_len}
use Rattle.std.proofs.lemmas.Str.Parse.{IsNumeralModel, numerals_by_value, tells_all_ascii_digits, parse_digits}
use Rattle.std.specs.Char.{is_ascii_digit}
use Rattle.std.specs.List.{prefix_len, slice_range}
use Rattle.std.specs.Result.{OkIff}
use Rattle.std.specs.Str.{all_ascii_digits}
use Rattle.std.specs.Str.Parse.{digits_value, ParsesUnsigned}
use Rattle.squawk_script.specs.Script.{is_number, number_at, max_number}
use Rattle.squawk_script.specs.declared.number.Number.{Number}

-- the digits that begin at an offset
abbrev pub digits_at : List ℕ → ℕ → List ℕ
digits_at bytes at = take (prefix_len is_ascii_digit (drop at bytes)) (drop at bytes)

-- what makes digits a number
pub record AreNumber (digits : List ℕ) : Type 0 where
  pub some : 0 < length digits
  pub few : length digits ≤ 10
  pub within : digits_value 10 digits ≤ max_number

pub are_number : (digits : List ℕ) → is_number digits ≡ true → AreNumber digits
are_number digits h = record {
  some = grind (arith, nat_tests);
  few = grind (arith, nat_tests);
  within = grind (arith, nat_tests);
}

pub is_number_from : (digits : List ℕ) → AreNumber digits → is_number digits ≡ true
is_number_from digits h = let some : 0 < length digits = h.some in
    let few : length digits ≤ 10 = h.few in
    let within : digits_value 10 digits ≤ max_number = h.within in
    grind (arith, nat_tests)

-- digits that are more than a number has
pub too_many : (bytes : List ℕ) (at count : ℕ) → count ≡ prefix_len is_ascii_digit (drop at bytes)
    → 10 < count → AreNumber (digits_at bytes at) → ⊥
too_many bytes at count is many number =
    let few : length (digits_at bytes at) ≤ 10 = number.few in
    let len : length (digits_at bytes at) ≡ prefix_len is_ascii_digit (drop at bytes) =
    length-prefix_len is_ascii_digit (drop at bytes) in
    omega (arith, len, is, few, many)

-- no byte but 0 is read past the end
pub none_past_end : (bytes : List ℕ) (byte i : ℕ) → 0 < byte → length bytes ≤ i
    → slice_index bytes i ≡ byte → ⊥
none_past_end bytes byte i some past is =
    let zero : slice_index bytes i ≡ 0 = get_or_past bytes i 0 past in omega (arith, zero, is, some)

-- no number is read where there is none, or another byte follows
pub no_number : (byte : ℕ) (bytes : List ℕ) (at count : ℕ)
    → count ≡ prefix_len is_ascii_digit (drop at bytes)
    → (AreNumber (digits_at bytes at) → slice_index bytes (at + count) ≡ byte → ⊥)
    → None ≡ number_at byte bytes at
unfolding number_at
no_number byte bytes at count is never =
    by (is_number (digits_at bytes at)) (eqb (slice_index bytes (at + prefix_len is_ascii_digit
    (drop at bytes))) byte) refl refl
  where
    found : Number
    found = record {
      value = digits_value 10 (digits_at bytes at);
      after = at + prefix_len is_ascii_digit (drop at bytes) + 1;
    }

    by : (a b : Bool) → is_number (digits_at bytes at) ≡ a
        → eqb (slice_index bytes (at + prefix_len is_ascii_digit (drop at bytes))) byte ≡ b
        → None ≡ cond (a && b) (Some found) None
    by true true x y = absurd (never (are_number _ x)
        (ap (λ n. slice_index bytes (at + n)) is ∙ eqb-true _ _ y))
    by true false x y = refl
    by false b x y = refl

-- the number that is read
pub some_number : (byte : ℕ) (bytes : List ℕ) (at count value : ℕ)
    → count ≡ prefix_len is_ascii_digit (drop at bytes) → AreNumber (digits_at bytes at)
    → slice_index bytes (at + count) ≡ byte → digits_value 10 (digits_at bytes at) ≡ value
    → Some (record { value = value; after = at + count + 1 }) ≡ number_at byte bytes at
unfolding number_at
some_number byte bytes at count value is number follows same =
    let a : is_number (digits_at bytes at) ≡ true = is_number_from _ number in
    let b : eqb (slice_index bytes (at + prefix_len is_ascii_digit (drop at bytes))) byte ≡ true =
    ap (λ n. eqb (slice_index bytes (at + n)) byte) (sym is) ∙ ap (λ x. eqb x byte) follows
    ∙ search rules in
    rw (a, b, ← same, is) refl

-- the digits that begin at an offset are digits
pub all_digits : (xs : List ℕ) → all_ascii_digits (take (prefix_len is_ascii_digit xs) xs) ≡ true
all_digits [] = refl
all_digits (x ∷ xs) = by (all_digits xs) (is_ascii_digit x) refl
  where
    by : all_ascii_digits (take (prefix_len is_ascii_digit xs) xs) ≡ true
        → (b : Bool) → is_ascii_digit x ≡ b
        → all_ascii_digits (take (cond b (1 + prefix_len is_ascii_digit xs) 0) (x ∷ xs)) ≡ true
    by rest true e = let n : 1 + prefix_len is_ascii_digit xs ≡ suc (prefix_len is_ascii_digit xs) =
        omega arith in rw (n, e) rest
    by rest false e = refl

-- texts of digits and their numbers
numerals : IsNumeralModel (λ ds. all_ascii_digits ds ≡ true) (digits_value 10)
numerals = numerals_by_value (λ ds. all_ascii_digits ds ≡ true) tells_all_ascii_digits

-- the slice of the digits is the digits
slice_digits : (bytes digits : List ℕ) (at count : ℕ)
    → count ≡ prefix_len is_ascii_digit (drop at bytes) → digits ≡ slice_range bytes at (at + count)
    → digits ≡ digits_at bytes at
slice_digits bytes digits at count is slice =
    slice ∙ ap (λ n. take n (drop at bytes)) (let e : at + count - at ≡ prefix_len is_ascii_digit
    (drop at bytes) = omega (arith, is) in e)

-- the result of `parse` for the digits that begin at an offset
parsed_digits : {E : Type 0} (bytes digits : List ℕ) (at : ℕ) (r : Result ℕ E)
    → digits ≡ digits_at bytes at → ParsesUnsigned 32 10 digits r
    → OkIff r ((0 < length (digits_at bytes at)) × (digits_value 10 (digits_at bytes at) < 2 ^ 32))
    (digits_value 10 (digits_at bytes at))
parsed_digits bytes digits at r same parses = parse_digits numerals 32 (digits_at bytes at) r (rw
    same at parses) (all_digits (drop at bytes))

-- `number_parsed`, `number_refused`: by the result of `parse` for the digits
pub number_parsed : {E : Type 0} (byte : ℕ) (bytes digits : List ℕ) (at count value : ℕ)
    (r : Result ℕ E) → count ≡ prefix_len is_ascii_digit (drop at bytes) → count ≤ 10
    → slice_index bytes (at + count) ≡ byte → digits ≡ slice_range bytes at (at + count)
    → ParsesUnsigned 32 10 digits r → r ≡ Ok value
    → Some (record { value = value; after = at + count + 1 }) ≡ number_at byte bytes at
number_parsed byte bytes digits at count value r is few follows slice parses was =
    let parsed = parsed_digits bytes digits at r (slice_digits bytes digits at count is slice)
    parses in
    let ok = rw was at parsed in
    let len : length (digits_at bytes at) ≡ prefix_len is_ascii_digit (drop at bytes) =
    length-prefix_len is_ascii_digit (drop at bytes) in
    let short : length (digits_at bytes at) ≤ 10 = omega (arith, len, is, few) in
    some_number byte bytes at count value is
    (record { some = ok.0.0; few = short; within = omega (arith, ok.0.1) }) follows (sym ok.1)

pub number_refused : {E : Type 0} (byte : ℕ) (bytes digits : List ℕ) (at count : ℕ)
    (r : Result ℕ E) (e : E) → count ≡ prefix_len is_ascii_digit (drop at bytes)
    → digits ≡ slice_range bytes at (at + count) → ParsesUnsigned 32 10 digits r → r ≡ Err e
    → None ≡ number_at byte bytes at
number_refused byte bytes digits at count r e is slice parses was =
    let parsed = parsed_digits bytes digits at r (slice_digits bytes digits at count is slice)
    parses in
    let refused = rw was at parsed in
    no_number byte bytes at count is (λ number follows. refused (
      number.some,
      omega (
        arith,
        number.within,
      ),
    ))
