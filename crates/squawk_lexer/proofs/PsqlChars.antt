-- The word of a psql command by its bytes and by its characters.
use Rattle.std.proofs.Common.{◌≡◌, ℕ, zero, suc, ◌+◌, ◌<◌, ◌≤◌, Bool, true, false, ◌&&◌, ◌||◌, ltb, eq-eqb, List, [], ◌∷◌, ◌++◌, map, length, take, drop, get_or, refl, sym, ◌∙◌, ap, arith, IsUtf8, ◌↔◌, IsTrue, codes}
use Rattle.std.specs.Str.{chars, bytes_eq, encode_utf8_all, IsCharBoundary, IsAscii, str_eq_ignore_ascii_case}
use Rattle.std.specs.Char.{to_ascii_lowercase, encode_utf8}
use Rattle.std.specs.List.{list_all, prefix_len}
use Rattle.std.proofs.lemmas.Bool.Decides.{nat_tests}
use Rattle.std.proofs.lemmas.Str.{encodes-chars, encodes-IsAscii, chars-IsAscii, encode_ascii, chars_past_char, IsCharBoundary-after_ascii}
use Rattle.squawk_lexer.specs.PsqlWords.{is_among}
use Rattle.squawk_lexer.specs.Classes.{is_command_char}
use Rattle.squawk_lexer.specs.Psql.{command_word, word_end}

-- ---- ASCII

-- Whether all bytes are ASCII.
abbrev pub is_ascii : List ℕ → Bool
is_ascii bs = list_all (λ b. ltb b 128) bs

-- The test as a fact.
ascii_is : (bs : List ℕ) → is_ascii bs ≡ true → IsAscii bs
ascii_is [] e = λ i. omega arith
ascii_is (b ∷ bs) e = by (ascii_is bs (grind (arith, nat_tests)))
  where
    by : IsAscii bs → (i : ℕ) → get_or (b ∷ bs) i 0 < 128
    by more zero = grind (arith, nat_tests)
    by more (suc i) = more i

-- `bytes_eq` is equality.
pub same_text : (xs ys : List ℕ) → bytes_eq xs ys ≡ true → xs ≡ ys
same_text [] [] e = refl
same_text [] (y ∷ ys) e = absurd (cc)
same_text (x ∷ xs) [] e = absurd (cc)
same_text (x ∷ xs) (y ∷ ys) e =
    let first : x ≡ y = grind (arith, nat_tests) in
    let rest : xs ≡ ys = same_text xs ys (grind (arith, nat_tests)) in
    ap (λ z. z ∷ xs) first ∙ ap (λ zs. y ∷ zs) rest

pub text_same : (xs : List ℕ) → bytes_eq xs xs ≡ true
text_same [] = refl
text_same (x ∷ xs) = rw (eq-eqb x x refl) (text_same xs)

-- Two tests that imply each other are equal.
both : (a b : Bool) → (a ≡ true → b ≡ true) → (b ≡ true → a ≡ true) → a ≡ b
both true true f g = refl
both true false f g = sym (f refl)
both false true f g = g refl
both false false f g = refl

-- ---- words

-- An ASCII word equals a text by its bytes exactly where it does by its characters.
word_same : (w bs : List ℕ) → is_ascii w ≡ true → IsUtf8 bs → bytes_eq w bs ≡ bytes_eq w (chars bs)
word_same w bs ascii utf8 = both (bytes_eq w bs) (bytes_eq w (chars bs)) to from
  where
    to : bytes_eq w bs ≡ true → bytes_eq w (chars bs) ≡ true
    to e = let is = same_text w bs e in rw (← is, chars-IsAscii w (ascii_is w ascii)) (text_same w)

    from : bytes_eq w (chars bs) ≡ true → bytes_eq w bs ≡ true
    from e =
        let bs_is : bs ≡ w = sym (encodes-chars bs utf8)
        ∙ ap encode_utf8_all (sym (same_text w (chars bs) e))
        ∙ encodes-IsAscii w (ascii_is w ascii) in
        rw bs_is (text_same w)

-- So for a list of words.
pub among_same : (ws : List (List ℕ)) (bs : List ℕ) → list_all is_ascii ws ≡ true → IsUtf8 bs
    → is_among ws bs ≡ is_among ws (chars bs)
among_same [] bs ascii utf8 = refl
among_same (w ∷ ws) bs ascii utf8 =
    let first : is_ascii w ≡ true = grind (arith, nat_tests) in
    let rest : list_all is_ascii ws ≡ true = grind (arith, nat_tests) in
    ap (λ b. b || is_among ws bs) (word_same w bs first utf8)
    ∙ ap (λ b. bytes_eq w (chars bs) || b) (among_same ws bs rest utf8)

-- A text is ASCII where its lowercase is.
lower_ascii : (xs ys : List ℕ) → map to_ascii_lowercase xs ≡ ys → is_ascii ys ≡ true
    → is_ascii xs ≡ true
lower_ascii [] ys e ascii = refl
lower_ascii (x ∷ xs) [] e ascii = absurd (cc)
lower_ascii (x ∷ xs) (y ∷ ys) e ascii =
    let first : to_ascii_lowercase x ≡ y = cc in
    let rest : map to_ascii_lowercase xs ≡ ys = cc in
    let more : is_ascii xs ≡ true = lower_ascii xs ys rest (grind (arith, nat_tests)) in
    rw more (below x (grind (arith, nat_tests)))
  where
    below : (x : ℕ) → to_ascii_lowercase x < 128 → (ltb x 128 && true) ≡ true
    below x h = grind (arith, nat_tests)

-- So for the comparison with `copy`.
pub copy_same : (r : Bool) (bs : List ℕ) → IsUtf8 bs
    → (IsTrue r ↔ (map to_ascii_lowercase bs ≡ map to_ascii_lowercase (codes "copy")))
    → r ≡ str_eq_ignore_ascii_case (chars bs) (codes "copy")
copy_same r bs utf8 h = both r (str_eq_ignore_ascii_case (chars bs) (codes "copy")) to from
  where
    to : r ≡ true → str_eq_ignore_ascii_case (chars bs) (codes "copy") ≡ true
    to t =
        let e : map to_ascii_lowercase bs ≡ map to_ascii_lowercase (codes "copy") = h.0 t in
        let ascii : IsAscii bs =
        ascii_is bs (lower_ascii bs (map to_ascii_lowercase (codes "copy")) e refl) in
        rw (chars-IsAscii bs ascii, e) refl

    from : str_eq_ignore_ascii_case (chars bs) (codes "copy") ≡ true → r ≡ true
    from t =
        let e : map to_ascii_lowercase (chars bs) ≡ map to_ascii_lowercase (codes "copy") =
        same_text _ _ t in
        let ascii : IsAscii (chars bs) =
        ascii_is (chars bs) (lower_ascii (chars bs) (map to_ascii_lowercase (codes "copy")) e
        refl) in
        let bs_is : bs ≡ chars bs = sym (encodes-chars bs utf8) ∙ encodes-IsAscii (chars bs) ascii
        in
        h.1 (ap (map to_ascii_lowercase) bs_is ∙ e)

-- ---- after the backslash

-- The text after a first character of ASCII.
tail : (bs : List ℕ) (c : ℕ) (cs : List ℕ) → IsUtf8 bs → chars bs ≡ c ∷ cs → c < 128
    → (1 ≤ length bs) × IsCharBoundary bs 1 × (chars (drop 1 bs) ≡ cs)
tail bs c cs utf8 e ascii =
    let bytes_are : bs ≡ c ∷ encode_utf8_all cs = sym (encodes-chars bs utf8) ∙ ap encode_utf8_all e
    ∙ ap (λ x. x ++ encode_utf8_all cs) (encode_ascii c ascii) in
    let split : bs ≡ encode_utf8 c ++ encode_utf8_all cs = sym (encodes-chars bs utf8)
    ∙ ap encode_utf8_all e in
    let past : chars bs ≡ c ∷ chars (encode_utf8_all cs) =
    chars_past_char bs (encode_utf8_all cs) c utf8 split in
    let rest : chars (encode_utf8_all cs) ≡ cs = cc in
    let some : length bs ≡ suc (length (encode_utf8_all cs)) = ap length bytes_are in
    let first : get_or bs 0 0 ≡ c = ap (λ x. get_or x 0 0) bytes_are in (
      omega arith,
      IsCharBoundary-after_ascii bs 0 utf8 (omega arith) (omega arith),
      ap (λ x. chars (drop 1 x)) bytes_are ∙ rest,
    )

-- The word after the backslash.
pub word_tail : (u bs : List ℕ) → IsUtf8 bs → get_or u 0 0 ≡ 92 → chars bs ≡ take (word_end u) u
    → (1 ≤ length bs) × IsCharBoundary bs 1 × (chars (drop 1 bs) ≡ command_word u)
word_tail [] bs utf8 first e = absurd (omega arith)
word_tail (c ∷ v) bs utf8 first e =
    let next : 1 + prefix_len is_command_char v ≡ suc (prefix_len is_command_char v) = omega arith
    in
    let t = tail bs c (take (prefix_len is_command_char v) v) utf8 (rw next at e) (omega arith) in
    rw next t
