-- A run of digits over the bytes of a text ends where the run over its characters ends.
use Rattle.std.proofs.Common.{◌≡◌, ℕ, suc, ◌+◌, ◌<◌, ◌≤◌, Bool, true, false, ◌&&◌, ◌||◌, List, [], ◌∷◌, ◌++◌, length, get_or, take, drop, refl, sym, ◌∙◌, ap, subst, inl, inr, ◌⊎◌, eqb, cond, arith}
use Rattle.std.proofs.lemmas.Bool.{cases_lt}
use Rattle.std.proofs.lemmas.Bool.Decides.{nat_tests}
use Rattle.std.proofs.lemmas.List.Sums.{sum_by-cons}
use Rattle.std.proofs.lemmas.Str.{encode_ascii, encodes-chars, IsUtf8-from_is_utf8, len_utf8_ascii}
use Rattle.std.specs.Str.{chars, encode_utf8_all}
use Rattle.std.specs.Char.{encode_utf8, len_utf8}
use Rattle.squawk_lexer.specs.Text.{utf8_len}
use Rattle.squawk_lexer.specs.Bytes.{first_byte}
use Rattle.squawk_lexer.specs.Classes.{is_digit, is_hex_digit}
use Rattle.squawk_lexer.specs.Runs.{digits_len}
use Rattle.squawk_lexer.specs.CursorModel.{IsRest, chars_before}
use Rattle.squawk_lexer.proofs.ByteRuns.{IsSkip, skip}
use Rattle.squawk_lexer.proofs.ByteReads.{lead_ascii, lead_high, lead_first, read_ahead}

-- A class that holds no character beyond ASCII.
abbrev pub IsAsciiOnly : (ℕ → Bool) → Type 0
IsAsciiOnly digit = (c : ℕ) → 128 ≤ c → digit c ≡ false

-- Both classes of digits are such.
pub ascii_digit : IsAsciiOnly is_digit
ascii_digit c h = grind (arith, nat_tests)

pub ascii_hex_digit : IsAsciiOnly is_hex_digit
ascii_hex_digit c h = grind (arith, nat_tests)

-- The first byte and the first character are tested alike.
next_same : (digit : ℕ → Bool) → IsAsciiOnly digit → (cs : List ℕ)
    → digit (get_or (encode_utf8_all cs) 0 0) ≡ digit (get_or cs 0 0)
next_same digit low cs = by (cases_lt (get_or cs 0 0) 128)
  where
    read : get_or (encode_utf8_all cs) 0 0 ≡ first_byte (get_or cs 0 0)
    read = read_ahead 0 cs (λ j h. absurd (omega arith))

    by : (get_or cs 0 0 < 128) ⊎ (128 ≤ get_or cs 0 0)
        → digit (get_or (encode_utf8_all cs) 0 0) ≡ digit (get_or cs 0 0)
    by (inl small) = ap digit (read ∙ lead_ascii (get_or cs 0 0) small)
    by (inr big) = ap digit read ∙ low (first_byte (get_or cs 0 0)) (lead_high (get_or cs 0 0) big)
        ∙ sym (low (get_or cs 0 0) big)

-- A byte of at least 128 begins no run of digits.
none_first : (digit : ℕ → Bool) → IsAsciiOnly digit → (bs : List ℕ) → 128 ≤ get_or bs 0 0
    → digits_len digit bs ≡ 0
none_first digit low [] h = refl
none_first digit low (b ∷ bs) h =
    let other : eqb b 95 ≡ false = grind (arith, nat_tests) in
    rw (low b h, other) refl

-- A run of digits ends within the text.
within : (digit : ℕ → Bool) (cs : List ℕ) → digits_len digit cs ≤ length cs
within digit [] = omega arith
within digit (c ∷ cs) = each (digit c || (eqb c 95 && digit (get_or cs 0 0))) (within digit cs)
  where
    each : (b : Bool) → digits_len digit cs ≤ length cs
        → cond b (1 + digits_len digit cs) 0 ≤ length (c ∷ cs)
    each true h = omega arith
    each false h = omega arith

-- A run of digits has as many bytes as characters.
digit_bytes : (digit : ℕ → Bool) → IsAsciiOnly digit → (cs : List ℕ)
    → (digits_len digit (encode_utf8_all cs) ≡ digits_len digit cs)
    × (utf8_len (take (digits_len digit cs) cs) ≡ digits_len digit cs)
digit_bytes digit low [] = (refl, refl)
digit_bytes digit low (c ∷ cs) = by (cases_lt c 128) (digit_bytes digit low cs)
  where
    by : (c < 128) ⊎ (128 ≤ c) → (digits_len digit (encode_utf8_all cs) ≡ digits_len digit cs)
        × (utf8_len (take (digits_len digit cs) cs) ≡ digits_len digit cs)
        → (digits_len digit (encode_utf8_all (c ∷ cs)) ≡ digits_len digit (c ∷ cs))
        × (utf8_len (take (digits_len digit (c ∷ cs)) (c ∷ cs)) ≡ digits_len digit (c ∷ cs))
    by (inl small) more =
        rw (encode_ascii c small, next_same digit low cs, more.0)
        (refl, each (digit c || (eqb c 95 && digit (get_or cs 0 0))) more.1)
      where
        each : (b : Bool) → utf8_len (take (digits_len digit cs) cs) ≡ digits_len digit cs
            → utf8_len (take (cond b (1 + digits_len digit cs) 0) (c ∷ cs))
            ≡ cond b (1 + digits_len digit cs) 0
        each true m =
            let next : 1 + digits_len digit cs ≡ suc (digits_len digit cs) = omega arith in
            rw next (omega (
              arith,
              m,
              sum_by-cons len_utf8 c (take (digits_len digit cs) cs),
              len_utf8_ascii c small,
            ))
        each false m = refl
    by (inr big) more =
        let other : eqb c 95 ≡ false = grind (arith, nat_tests) in
        let first : 128 ≤ get_or (encode_utf8 c ++ encode_utf8_all cs) 0 0 =
        subst (λ x. 128 ≤ x) (sym (lead_first c (encode_utf8_all cs))) (lead_high c big) in
        rw (none_first digit low (encode_utf8 c ++ encode_utf8_all cs) first, low c big, other)
        (refl, refl)

-- Skipping digits, in the form in which the code has it.
pub passed_digits : (digit : ℕ → Bool) → IsAsciiOnly digit → (token rest bs : List ℕ) (n : ℕ)
    → IsRest token rest → n ≡ digits_len digit bs → bs ≡ rest
    → IsSkip token rest n
    (chars_before token rest + digits_len digit (drop (chars_before token rest) (chars token)))
passed_digits digit low token rest bs n r len same =
    let cs = chars rest in
    let rest_is : rest ≡ encode_utf8_all cs =
    sym (encodes-chars rest (IsUtf8-from_is_utf8 rest r.rest_utf8)) in
    let d = digit_bytes digit low cs in
    let count : utf8_len (take (digits_len digit cs) cs) ≡ n = d.1 ∙ sym d.0
    ∙ ap (digits_len digit) (sym rest_is) ∙ ap (digits_len digit) (sym same) ∙ sym len in
    rw (← count, ← r.is) (skip token rest (digits_len digit cs) r (within digit cs))

-- The number of bytes skipped is the length of the run.
pub digits_count : (digit : ℕ → Bool) → IsAsciiOnly digit → (token rest bs : List ℕ) (n : ℕ)
    → IsRest token rest → n ≡ digits_len digit bs → bs ≡ rest
    → n ≡ digits_len digit (drop (chars_before token rest) (chars token))
digits_count digit low token rest bs n r len same =
    let rest_is : rest ≡ encode_utf8_all (chars rest) =
    sym (encodes-chars rest (IsUtf8-from_is_utf8 rest r.rest_utf8)) in
    len ∙ ap (digits_len digit) (same ∙ rest_is) ∙ (digit_bytes digit low (chars rest)).0
    ∙ ap (digits_len digit) r.is
