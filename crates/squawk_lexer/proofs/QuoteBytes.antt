-- A quote of psql's arguments, over the bytes of a text, ends where it does over its characters.
use Rattle.std.proofs.Common.{◌≡◌, ℕ, suc, ◌+◌, ◌<◌, ◌≤◌, true, false, List, [], ◌∷◌, ◌++◌, length, get_or, take, refl, sym, ◌∙◌, ap, inl, inr, ◌⊎◌, ◌&&◌, eqb, not, Option, None, Some, option_map, arith}
use Rattle.std.proofs.lemmas.Bool.{cases_lt, cases_Bool}
use Rattle.std.proofs.lemmas.Bool.Decides.{nat_tests}
use Rattle.std.proofs.lemmas.List.Sums.{sum_by-cons}
use Rattle.std.proofs.lemmas.Str.{encode_ascii, length-encode}
use Rattle.std.specs.Str.{encode_utf8_all}
use Rattle.std.specs.Char.{encode_utf8, len_utf8}
use Rattle.squawk_lexer.specs.Text.{utf8_len}
use Rattle.squawk_lexer.specs.Classes.{is_line_end, is_not_line_end}
use Rattle.squawk_lexer.specs.PsqlParts.{is_escape, close_len, quote_len}
use Rattle.squawk_lexer.proofs.ByteRuns.{high, some_bytes, byte_run}

-- All bytes of a list are those of characters beyond ASCII.
abbrev pub AreHigh : List ℕ → Type 0
AreHigh xs = (k : ℕ) → k < length xs → 128 ≤ get_or xs k 0

-- Lengths found further on.
pub map_none : (o : Option ℕ) → o ≡ option_map (λ n. n + 0) o
map_none None = refl
map_none (Some m) = ap Some (omega arith)

pub map_more : (o : Option ℕ) (k : ℕ) → option_map (λ n. n + 1) (option_map (λ n. n + k) o)
    ≡ option_map (λ n. n + suc k) o
map_more None k = refl
map_more (Some m) k = ap Some (omega arith)

-- ---- quotes

-- A character, or a byte, beyond ASCII does not close a quote, and escapes nothing.
close_one : (q x : ℕ) (ys : List ℕ) → q < 128 → 128 ≤ x
    → close_len q (x ∷ ys) ≡ option_map (λ n. n + 1) (close_len q ys)
close_one q x [] small big = rw (other) refl
  where
    other : eqb x q ≡ false
    other = grind (arith, nat_tests)
close_one q x (y ∷ ys) small big = rw (plain, other, single) refl
  where
    plain : is_line_end x ≡ false
    plain = grind (arith, nat_tests)

    other : eqb x q ≡ false
    other = grind (arith, nat_tests)

    single : is_escape q x y ≡ false
    single = grind (arith, nat_tests)

-- Nor do several.
close_high : (q : ℕ) (xs ys : List ℕ) → q < 128 → AreHigh xs
    → close_len q (xs ++ ys) ≡ option_map (λ n. n + length xs) (close_len q ys)
close_high q [] ys small all = map_none (close_len q ys)
close_high q (x ∷ xs) ys small all =
    close_one q x (xs ++ ys) small (all 0 (omega arith))
    ∙ ap (option_map (λ n. n + 1)) (close_high q xs ys small (λ k h. all (suc k) (omega arith)))
    ∙ map_more (close_len q ys) (length xs)

-- The bytes of the first n characters, after a character before them.
bytes_after : (c n : ℕ) (cs : List ℕ)
    → utf8_len (take (n + 1) (c ∷ cs)) ≡ length (encode_utf8 c) + utf8_len (take n cs)
bytes_after c n cs =
    let next : n + 1 ≡ suc n = omega arith in
    rw next (omega (arith, length-encode c, sum_by-cons len_utf8 c (take n cs)))

pub one_byte : (c : ℕ) → c < 128 → length (encode_utf8 c) ≡ 1
one_byte c small = ap length (encode_ascii c small)

-- A length in bytes, from the same length in characters.
abbrev pub in_bytes : List ℕ → Option ℕ → Option ℕ
in_bytes cs o = option_map (λ n. utf8_len (take n cs)) o

-- After a character.
pub in_bytes_one : (c : ℕ) (cs : List ℕ) (o : Option ℕ)
    → option_map (λ n. n + length (encode_utf8 c)) (in_bytes cs o)
    ≡ in_bytes (c ∷ cs) (option_map (λ n. n + 1) o)
in_bytes_one c cs None = refl
in_bytes_one c cs (Some n) = ap Some (omega (arith, bytes_after c n cs))

pub in_bytes_ascii : (c : ℕ) (cs : List ℕ) (o : Option ℕ) → c < 128
    → option_map (λ n. n + 1) (in_bytes cs o) ≡ in_bytes (c ∷ cs) (option_map (λ n. n + 1) o)
in_bytes_ascii c cs None low = refl
in_bytes_ascii c cs (Some n) low = ap Some (omega (arith, one_byte c low, bytes_after c n cs))

-- After an escape, of which the second character has k bytes after its first.
in_bytes_two : (c d k : ℕ) (cs : List ℕ) (o : Option ℕ) → c < 128 → length (encode_utf8 d) ≡ suc k
    → option_map (λ n. n + 2) (option_map (λ n. n + k) (in_bytes cs o))
    ≡ in_bytes (c ∷ d ∷ cs) (option_map (λ n. n + 2) o)
in_bytes_two c d k cs None small len = refl
in_bytes_two c d k cs (Some n) small len =
    let two : n + 2 ≡ n + 1 + 1 = omega arith in
    ap Some (rw two
    (omega (arith, one_byte c small, bytes_after c (n + 1) (d ∷ cs), bytes_after d n cs)))

-- The first byte b of a character d is a line end where d is.
line_lead : (d b : ℕ) (t : List ℕ) → encode_utf8 d ≡ b ∷ t → is_line_end b ≡ is_line_end d
line_lead d b t e = by (cases_lt d 128)
  where
    by : (d < 128) ⊎ (128 ≤ d) → is_line_end b ≡ is_line_end d
    by (inl small) = ap (λ l. is_line_end (get_or l 0 0)) (sym e ∙ encode_ascii d small)
    by (inr big) =
        let first : get_or (encode_utf8 d) 0 0 ≡ b = ap (λ l. get_or l 0 0) e in
        let far : 128 ≤ get_or (encode_utf8 d) 0 0 = high d 0 big (some_bytes d) in
        same b d (omega arith) big
      where
        same : (b d : ℕ) → 128 ≤ b → 128 ≤ d → is_line_end b ≡ is_line_end d
        same b d p q = grind (arith, nat_tests)

-- The other bytes of a character are beyond ASCII.
tail_high : (d b : ℕ) (t : List ℕ) → encode_utf8 d ≡ b ∷ t → AreHigh t
tail_high d b t e = by (cases_lt d 128)
  where
    by : (d < 128) ⊎ (128 ≤ d) → AreHigh t
    by (inl small) = λ k within.
        let one : length (b ∷ t) ≡ 1 = ap length (sym e ∙ encode_ascii d small) in
        absurd (omega arith)
    by (inr big) = λ k within.
        let same : get_or (encode_utf8 d) (suc k) 0 ≡ get_or t k 0 = ap (λ l. get_or l (suc k) 0) e in
        let len : length (encode_utf8 d) ≡ suc (length t) = ap length e in
        let far : 128 ≤ get_or (encode_utf8 d) (suc k) 0 = high d (suc k) big (omega arith) in
        omega arith

-- A quote's end at an ASCII character c, where another character d is next, whose bytes are b and
-- those of t.
close_ascii : (q c d b : ℕ) (t ds : List ℕ) → q < 128 → c < 128 → encode_utf8 d ≡ b ∷ t
    → close_len q (encode_utf8_all ds) ≡ in_bytes ds (close_len q ds)
    → close_len q (b ∷ (t ++ encode_utf8_all ds)) ≡ in_bytes (d ∷ ds) (close_len q (d ∷ ds))
    → close_len q (c ∷ b ∷ (t ++ encode_utf8_all ds))
    ≡ in_bytes (c ∷ d ∷ ds) (close_len q (c ∷ d ∷ ds))
close_ascii q c d b t ds small low e after next =
    by (cases_Bool (is_line_end c)) (cases_Bool (eqb c q)) (cases_Bool (is_escape q c d))
  where
    escapes : is_escape q c b ≡ is_escape q c d
    escapes = ap (λ x. (eqb q 39 && eqb c 92) && not x) (line_lead d b t e)

    by : (is_line_end c ≡ true) ⊎ (is_line_end c ≡ false) → (eqb c q ≡ true) ⊎ (eqb c q ≡ false)
        → (is_escape q c d ≡ true) ⊎ (is_escape q c d ≡ false)
        → close_len q (c ∷ b ∷ (t ++ encode_utf8_all ds))
        ≡ in_bytes (c ∷ d ∷ ds) (close_len q (c ∷ d ∷ ds))
    by (inl ends) same pair = rw ends refl
    by (inr plain) (inl same) pair =
        rw (plain, same) (ap Some (omega (arith, one_byte c low, bytes_after c 0 (d ∷ ds))))
    by (inr plain) (inr other) (inl pair) =
        let second : is_escape q c b ≡ true = escapes ∙ pair in
        let len : length (encode_utf8 d) ≡ suc (length t) = ap length e in
        rw (plain, other, second, pair)
        (ap (option_map (λ n. n + 2)) (close_high q t (encode_utf8_all ds) small (tail_high d b t e)
        ∙ ap (option_map (λ n. n + length t)) after)
        ∙ in_bytes_two c d (length t) ds (close_len q ds) low len)
    by (inr plain) (inr other) (inr single) =
        let second : is_escape q c b ≡ false = escapes ∙ single in
        rw (plain, other, second, single)
        (ap (option_map (λ n. n + 1)) next
        ∙ in_bytes_ascii c (d ∷ ds) (close_len q (d ∷ ds)) low)

-- The same at any character.
close_next : (q c d : ℕ) (ds bs : List ℕ) → q < 128
    → close_len q (encode_utf8_all ds) ≡ in_bytes ds (close_len q ds)
    → close_len q (encode_utf8_all (d ∷ ds)) ≡ in_bytes (d ∷ ds) (close_len q (d ∷ ds))
    → encode_utf8 d ≡ bs
    → close_len q (encode_utf8_all (c ∷ d ∷ ds))
    ≡ in_bytes (c ∷ d ∷ ds) (close_len q (c ∷ d ∷ ds))
close_next q c d ds [] small after next e =
    absurd (let none : length (encode_utf8 d) ≡ 0 = ap length e in omega (arith, some_bytes d))
close_next q c d ds (b ∷ t) small after next e = by (cases_lt c 128)
  where
    split : encode_utf8_all (d ∷ ds) ≡ b ∷ (t ++ encode_utf8_all ds)
    split = ap (λ l. l ++ encode_utf8_all ds) e

    by : (c < 128) ⊎ (128 ≤ c)
        → close_len q (encode_utf8_all (c ∷ d ∷ ds))
        ≡ in_bytes (c ∷ d ∷ ds) (close_len q (c ∷ d ∷ ds))
    by (inl low) =
        ap (λ l. close_len q (l ++ encode_utf8_all (d ∷ ds))) (encode_ascii c low)
        ∙ ap (λ l. close_len q (c ∷ l)) split
        ∙ close_ascii q c d b t ds small low e after
        (ap (close_len q) (sym split) ∙ next)
    by (inr big) =
        close_high q (encode_utf8 c) (encode_utf8_all (d ∷ ds)) small (λ k h. high c k big h)
        ∙ ap (option_map (λ n. n + length (encode_utf8 c))) next
        ∙ in_bytes_one c (d ∷ ds) (close_len q (d ∷ ds))
        ∙ ap (in_bytes (c ∷ d ∷ ds)) (sym (close_one q c (d ∷ ds) small big))

-- And at the last character.
close_last : (q c : ℕ) → q < 128
    → close_len q (encode_utf8_all (c ∷ [])) ≡ in_bytes (c ∷ []) (close_len q (c ∷ []))
close_last q c small = by (cases_lt c 128) (cases_Bool (eqb c q))
  where
    by : (c < 128) ⊎ (128 ≤ c) → (eqb c q ≡ true) ⊎ (eqb c q ≡ false)
        → close_len q (encode_utf8_all (c ∷ [])) ≡ in_bytes (c ∷ []) (close_len q (c ∷ []))
    by (inl low) (inl same) =
        rw (encode_ascii c low, same) (ap Some (omega (arith, one_byte c low, bytes_after c 0 [])))
    by (inl low) (inr other) = rw (encode_ascii c low, other) refl
    by (inr big) same =
        close_high q (encode_utf8 c) [] small (λ k h. high c k big h)
        ∙ ap (in_bytes (c ∷ [])) (sym (close_one q c [] small big))

-- A quote in bytes ends where it does in characters.
pub byte_close : (q : ℕ) (cs : List ℕ) → q < 128
    → close_len q (encode_utf8_all cs) ≡ in_bytes cs (close_len q cs)
byte_close q [] small = refl
byte_close q (c ∷ []) small = close_last q c small
byte_close q (c ∷ d ∷ ds) small =
    close_next q c d ds (encode_utf8 d) small (byte_close q ds small) (byte_close q (d ∷ ds) small)
    refl

-- Characters beyond ASCII are no line ends.
uniform_on_line : (b c : ℕ) → 128 ≤ b → 128 ≤ c → is_not_line_end b ≡ is_not_line_end c
uniform_on_line b c p q = grind (arith, nat_tests)

-- A quote, closed or not, is as long in bytes as its characters.
pub byte_quote : (q : ℕ) (cs : List ℕ) → q < 128
    → quote_len q (encode_utf8_all cs) ≡ utf8_len (take (quote_len q cs) cs)
byte_quote q cs small = by (close_len q cs) refl
  where
    by : (o : Option ℕ) → close_len q cs ≡ o
        → quote_len q (encode_utf8_all cs) ≡ utf8_len (take (quote_len q cs) cs)
    by None e = rw (byte_close q cs small, e) (byte_run is_not_line_end uniform_on_line cs)
    by (Some n) e = rw (byte_close q cs small, e) refl
