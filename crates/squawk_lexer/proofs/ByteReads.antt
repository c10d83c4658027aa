-- The bytes at an index, and the characters there.
use Rattle.std.proofs.Common.{◌≡◌, ℕ, zero, suc, ◌+◌, ◌<◌, ◌≤◌, false, List, [], ◌∷◌, ◌++◌, get_or, refl, sym, ◌∙◌, ap, subst, inl, inr, ◌⊎◌, eqb, arith, IsUtf8, add-zero}
use Rattle.std.proofs.lemmas.Bool.{cases_lt}
use Rattle.std.proofs.lemmas.Bool.Decides.{nat_tests}
use Rattle.std.proofs.lemmas.List.{get_or-drop, get_or_append_left}
use Rattle.std.proofs.lemmas.Str.{encode_ascii, encodes-chars, IsUtf8-from_is_utf8}
use Rattle.std.specs.Str.{chars, encode_utf8_all}
use Rattle.std.specs.Char.{encode_utf8}
use Rattle.squawk_lexer.specs.declared.forms.TokenForm.TheVariants.{Word}
use Rattle.squawk_lexer.specs.declared.forms.StringPrefix.TheVariants.{NoPrefix}
use Rattle.squawk_lexer.specs.Bytes.{first_byte, IsAsciiRun}
use Rattle.squawk_lexer.specs.Classes.{is_digit}
use Rattle.squawk_lexer.specs.Token.{token_form, prefix_of}
use Rattle.squawk_lexer.specs.Symbols.{symbol}
use Rattle.squawk_lexer.specs.declared.token.TokenKind.TheVariants.{Unknown}
use Rattle.squawk_lexer.specs.CursorModel.{IsRest, chars_before}
use Rattle.squawk_lexer.proofs.ByteRuns.{high, some_bytes}

-- ---- the first byte of a character

-- The first byte of an ASCII character is the character, and that of any other is at least 128.
pub lead_ascii : (c : ℕ) → c < 128 → first_byte c ≡ c
unfolding first_byte
lead_ascii c small = rw (encode_ascii c small) refl

pub lead_high : (c : ℕ) → 128 ≤ c → 128 ≤ first_byte c
unfolding first_byte
lead_high c big = high c 0 big (some_bytes c)

-- A text begins with the first byte of its first character.
pub lead_first : (c : ℕ) (bs : List ℕ) → get_or (encode_utf8 c ++ bs) 0 0 ≡ first_byte c
unfolding first_byte
lead_first c bs = get_or_append_left (encode_utf8 c) bs 0 0 (some_bytes c)

-- After k ASCII characters, the byte at k is the first byte of the character at k.
pub read_ahead : (k : ℕ) (cs : List ℕ) → ((j : ℕ) → j < k → get_or cs j 0 < 128)
    → get_or (encode_utf8_all cs) k 0 ≡ first_byte (get_or cs k 0)
read_ahead zero [] ascii = sym (lead_ascii 0 (omega arith))
read_ahead zero (c ∷ cs) ascii = lead_first c (encode_utf8_all cs)
read_ahead (suc k) [] ascii = sym (lead_ascii 0 (omega arith))
read_ahead (suc k) (c ∷ cs) ascii =
    rw (encode_ascii c (ascii 0 (omega arith))) (read_ahead k cs
    (λ j below. ascii (suc j) (omega arith)))

-- The byte n bytes into the rest, where the n characters before it are ASCII.
pub read_byte : (token rest : List ℕ) (n : ℕ) → IsRest token rest
    → IsAsciiRun (chars token) (chars_before token rest) n
    → get_or rest n 0 ≡ first_byte (get_or (chars token) (chars_before token rest + n) 0)
read_byte token rest n r ascii =
    let utf8 : IsUtf8 rest = IsUtf8-from_is_utf8 rest r.rest_utf8 in
    let at : (k : ℕ) → get_or (chars rest) k 0
    ≡ get_or (chars token) (chars_before token rest + k) 0 =
    λ k. ap (λ x. get_or x k 0) r.is ∙ get_or-drop (chars_before token rest) (chars token) k 0 in
    let below : (k : ℕ) → k < n → get_or (chars rest) k 0 < 128 = λ k h.
    subst (λ x. x < 128) (sym (at k)) (ascii k h) in
    ap (λ x. get_or x n 0) (sym (encodes-chars rest utf8)) ∙ read_ahead n (chars rest) below
    ∙ ap first_byte (at n)

-- ---- what a token begins with, by its bytes

-- A character beyond ASCII equals none of ASCII.
apart : (c q : ℕ) → 128 ≤ c → q < 128 → eqb c q ≡ false
apart c q big small = grind (arith, nat_tests)

-- A character beyond ASCII begins a word, and which one is second does not matter.
form_high : (c d : ℕ) → 128 ≤ c → token_form c d ≡ Word
unfolding token_form
form_high c d big = grind (arith, nat_tests)

form_second : (c d e : ℕ) → 128 ≤ d → 128 ≤ e → token_form c d ≡ token_form c e
unfolding token_form
form_second c d e p q =
    rw (
      apart d 45 p (omega arith),
      apart d 42 p (omega arith),
      apart d 46 p (omega arith),
      apart e 45 q (omega arith),
      apart e 42 q (omega arith),
      apart e 46 q (omega arith),
      no_digit d p,
      no_digit e q,
    ) refl
  where
    no_digit : (x : ℕ) → 128 ≤ x → is_digit x ≡ false
    no_digit x big = grind (arith, nat_tests)

-- The form by first bytes is the form by characters.
pub form_lead : (c d b e : ℕ) → b ≡ first_byte c → (c < 128 → e ≡ first_byte d)
    → token_form b e ≡ token_form c d
form_lead c d b e first second = by (cases_lt c 128) (cases_lt d 128)
  where
    by : (c < 128) ⊎ (128 ≤ c) → (d < 128) ⊎ (128 ≤ d) → token_form b e ≡ token_form c d
    by (inl small) (inl low) = rw (first ∙ lead_ascii c small, second small ∙ lead_ascii d low) refl
    by (inl small) (inr big) =
        rw (first ∙ lead_ascii c small) (form_second c e d (subst
        (λ x. 128 ≤ x) (sym (second small)) (lead_high d big)) big)
    by (inr big) other = form_high b e (subst (λ x. 128 ≤ x) (sym first) (lead_high c big))
        ∙ sym (form_high c d big)

-- A character beyond ASCII is in no prefix.
prefix_high : (c d e : ℕ) → 128 ≤ c → prefix_of c d e ≡ NoPrefix
unfolding prefix_of
prefix_high c d e big = grind (arith, nat_tests)

prefix_plain : (c d e : ℕ) → 128 ≤ d → prefix_of c d e ≡ NoPrefix
unfolding prefix_of
prefix_plain c d e big = grind (arith, nat_tests)

prefix_third : (c d e f : ℕ) → 128 ≤ e → 128 ≤ f → prefix_of c d e ≡ prefix_of c d f
unfolding prefix_of
prefix_third c d e f p q =
    rw (
      apart e 39 p (omega arith),
      apart e 34 p (omega arith),
      apart f 39 q (omega arith),
      apart f 34 q (omega arith),
    ) refl

-- The prefix by first bytes is the prefix by characters.
pub prefix_lead : (c d x b e f : ℕ) → b ≡ first_byte c → (c < 128 → e ≡ first_byte d)
    → (c < 128 → d < 128 → f ≡ first_byte x) → prefix_of b e f ≡ prefix_of c d x
prefix_lead c d x b e f first second third = by (cases_lt c 128) (cases_lt d 128) (cases_lt x 128)
  where
    by : (c < 128) ⊎ (128 ≤ c) → (d < 128) ⊎ (128 ≤ d) → (x < 128) ⊎ (128 ≤ x)
        → prefix_of b e f ≡ prefix_of c d x
    by (inl small) (inl low) (inl last) = rw (
      first ∙ lead_ascii c small,
      second small ∙ lead_ascii d low,
      third small low ∙ lead_ascii x last,
    ) refl
    by (inl small) (inl low) (inr big) = rw (
      first ∙ lead_ascii c small,
      second small ∙ lead_ascii d low,
    ) (prefix_third c d f x (subst
        (λ y. 128 ≤ y) (sym (third small low)) (lead_high x big)) big)
    by (inl small) (inr big) other =
        prefix_plain b e f (subst (λ y. 128 ≤ y) (sym (second small)) (lead_high d big))
        ∙ sym (prefix_plain c d x big)
    by (inr big) other more = prefix_high b e f (subst
        (λ y. 128 ≤ y) (sym first) (lead_high c big)) ∙ sym (prefix_high c d x big)

-- A character beyond ASCII is not a symbol, so its first byte has the same symbol as the character:
-- `Unknown`.
symbol_high : (c : ℕ) → 128 ≤ c → symbol c ≡ Unknown
unfolding symbol
symbol_high c big = grind (arith, nat_tests)

pub symbol_lead : (c b : ℕ) → b ≡ first_byte c → symbol b ≡ symbol c
symbol_lead c b first = by (cases_lt c 128)
  where
    by : (c < 128) ⊎ (128 ≤ c) → symbol b ≡ symbol c
    by (inl small) = rw (first ∙ lead_ascii c small) refl
    by (inr big) = symbol_high b (subst (λ x. 128 ≤ x) (sym first) (lead_high c big))
        ∙ sym (symbol_high c big)

-- ---- in the form in which the code has it

-- Runs of none, one and two ASCII characters.
ascii_none : (u : List ℕ) (i : ℕ) → IsAsciiRun u i 0
ascii_none u i k h = absurd (omega arith)

ascii_one : (u : List ℕ) (i : ℕ) → get_or u i 0 < 128 → IsAsciiRun u i 1
ascii_one u i first zero h = rw add-zero first
ascii_one u i first (suc k) h = absurd (omega arith)

ascii_two : (u : List ℕ) (i : ℕ) → get_or u i 0 < 128 → get_or u (i + 1) 0 < 128 → IsAsciiRun u i 2
ascii_two u i first second zero h = rw add-zero first
ascii_two u i first second (suc zero) h = second
ascii_two u i first second (suc (suc k)) h = absurd (omega arith)

-- The first bytes of the first three characters.
pub first_read : (u : List ℕ) (i b : ℕ) → i ≡ 0
    → (IsAsciiRun u i 0 → b ≡ first_byte (get_or u (i + 0) 0)) → b ≡ first_byte (get_or u 0 0)
first_read u i b none read = read (ascii_none u i) ∙ rw none refl

second_read : (u : List ℕ) (i b : ℕ) → i ≡ 0 → (IsAsciiRun u i 1
    → b ≡ first_byte (get_or u (i + 1) 0)) → get_or u 0 0 < 128 → b ≡ first_byte (get_or u 1 0)
second_read u i b none read small = read (ascii_one u i (rw none small)) ∙ rw none refl

third_read : (u : List ℕ) (i b : ℕ) → i ≡ 0 → (IsAsciiRun u i 2
    → b ≡ first_byte (get_or u (i + 2) 0)) → get_or u 0 0 < 128 → get_or u 1 0 < 128
    → b ≡ first_byte (get_or u 2 0)
third_read u i b none read small low = read (ascii_two u i (rw none small) (rw none low))
    ∙ rw none refl

-- The form and the prefix, by the bytes that the code reads.
pub form_by : (u : List ℕ) (i b e : ℕ) → i ≡ 0
    → (IsAsciiRun u i 0 → b ≡ first_byte (get_or u (i + 0) 0))
    → (IsAsciiRun u i 1 → e ≡ first_byte (get_or u (i + 1) 0))
    → token_form b e ≡ token_form (get_or u 0 0) (get_or u 1 0)
form_by u i b e none first second =
    form_lead (get_or u 0 0) (get_or u 1 0) b e (first_read u i b none first)
    (second_read u i e none second)

pub prefix_by : (u : List ℕ) (i b e f : ℕ) → i ≡ 0
    → (IsAsciiRun u i 0 → b ≡ first_byte (get_or u (i + 0) 0))
    → (IsAsciiRun u i 1 → e ≡ first_byte (get_or u (i + 1) 0))
    → (IsAsciiRun u i 2 → f ≡ first_byte (get_or u (i + 2) 0))
    → prefix_of b e f ≡ prefix_of (get_or u 0 0) (get_or u 1 0) (get_or u 2 0)
prefix_by u i b e f none first second third =
    prefix_lead (get_or u 0 0) (get_or u 1 0) (get_or u 2 0) b e f (first_read u i b none first)
    (second_read u i e none second) (third_read u i f none third)
