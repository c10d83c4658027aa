-- The arguments and options of a psql command, over the bytes of a text, end where they do over its
-- characters.
use Rattle.std.proofs.Common.{◌≡◌, ℕ, zero, suc, ◌+◌, ◌-◌, ◌<◌, ◌≤◌, Bool, true, false, List, [], ◌∷◌, ◌++◌, length, slice_get, take, drop, refl, sym, ◌∙◌, ap, ap₂, inl, inr, ◌⊎◌, eqb, Option, None, Some, unwrap_or, is_some, option_map, cond, arith, IsUtf8}
use Rattle.std.proofs.lemmas.Bool.{cases_lt, cases_Bool}
use Rattle.std.proofs.lemmas.Bool.Decides.{nat_tests}
use Rattle.std.proofs.lemmas.List.Sums.{sum_by-cons}
use Rattle.std.proofs.lemmas.Str.{encode_ascii, length-encode, encodes-append, encodes-chars, IsUtf8-from_is_utf8}
use Rattle.std.proofs.lemmas.List.{take-append-drop, take_at}
use Rattle.squawk_lexer.proofs.CursorRest.{length_encodes}
use Rattle.std.specs.List.{last_or}
use Rattle.std.specs.Option.{option_or}
use Rattle.std.specs.Str.{chars, encode_utf8_all}
use Rattle.std.specs.Char.{encode_utf8, len_utf8}
use Rattle.squawk_lexer.specs.Text.{utf8_len}
use Rattle.squawk_lexer.specs.Classes.{is_blank}
use Rattle.squawk_lexer.specs.PsqlParts.{is_psql_quote, close_len, ends_arguments, part_rest, arguments_len, arguments_end, last_inside, mark_after, is_parenthesis, marked_len, marked_len_at}
use Rattle.squawk_lexer.specs.CursorModel.{IsRest, chars_before}
use Rattle.squawk_lexer.proofs.ByteRuns.{high, some_bytes, IsSkip, skip}
use Rattle.squawk_lexer.proofs.PsqlArgumentLaws.{rest_in, close_read}
use Rattle.squawk_lexer.proofs.WithinLaws.{args_len_in, marked_in}
use Rattle.squawk_lexer.proofs.QuoteBytes.{AreHigh, map_none, map_more, one_byte, in_bytes, in_bytes_one, in_bytes_ascii, byte_close, byte_quote}

-- Characters, or bytes, beyond ASCII are parts by themselves.
args_one : (x : ℕ) (ys : List ℕ) → 128 ≤ x → arguments_len 0 (x ∷ ys) ≡ 1 + arguments_len 0 ys
args_one x ys big = let (more, no_quote) = plain x big in rw (more, no_quote) refl
  where
    plain : (x : ℕ) → 128 ≤ x → (ends_arguments x ≡ false) × (is_psql_quote x ≡ false)
    plain x big = (grind (arith, nat_tests), grind (arith, nat_tests))

-- So are several.
args_high : (xs ys : List ℕ) → AreHigh xs
    → arguments_len 0 (xs ++ ys) ≡ length xs + arguments_len 0 ys
args_high [] ys all = omega arith
args_high (x ∷ xs) ys all =
    args_one x (xs ++ ys) (all 0 (omega arith))
    ∙ omega (arith, args_high xs ys (λ k h. all (suc k) (omega arith)))

-- The bytes inside a part are only skipped.
args_over : (xs ys : List ℕ) (m : ℕ)
    → arguments_len (length xs + m) (xs ++ ys) ≡ length xs + arguments_len m ys
args_over [] ys m = let none : 0 + m ≡ m = omega arith in rw none (omega arith)
args_over (x ∷ xs) ys m =
    let next : length (x ∷ xs) + m ≡ suc (length xs + m) = omega arith in
    rw next (omega (arith, args_over xs ys m))

-- A part in bytes ends where it does in characters.
byte_part : (c : ℕ) (cs : List ℕ) → c < 128
    → part_rest c (encode_utf8_all cs) ≡ utf8_len (take (part_rest c cs) cs)
byte_part c cs low = by (cases_Bool (is_psql_quote c))
  where
    by : (is_psql_quote c ≡ true) ⊎ (is_psql_quote c ≡ false)
        → part_rest c (encode_utf8_all cs) ≡ utf8_len (take (part_rest c cs) cs)
    by (inl quote) = rw quote (byte_quote c cs low)
    by (inr plain) = rw plain refl

-- The arguments at a character c end in bytes where they do in characters, if those after a part
-- do.
args_next : (c : ℕ) (cs : List ℕ)
    → ((k : ℕ) → k ≤ length cs → arguments_len (utf8_len (take k cs)) (encode_utf8_all cs)
    ≡ utf8_len (take (arguments_len k cs) cs))
    → arguments_len 0 (encode_utf8_all (c ∷ cs))
    ≡ utf8_len (take (arguments_len 0 (c ∷ cs)) (c ∷ cs))
args_next c cs more = by (cases_lt c 128) (cases_Bool (ends_arguments c))
  where
    back : (n : ℕ) → utf8_len (take (1 + n) (c ∷ cs)) ≡ length (encode_utf8 c) + utf8_len (take n cs)
    back n = let next : 1 + n ≡ suc n = omega arith in
        rw next (omega (arith, length-encode c, sum_by-cons len_utf8 c (take n cs)))

    by : (c < 128) ⊎ (128 ≤ c) → (ends_arguments c ≡ true) ⊎ (ends_arguments c ≡ false)
        → arguments_len 0 (encode_utf8_all (c ∷ cs))
        ≡ utf8_len (take (arguments_len 0 (c ∷ cs)) (c ∷ cs))
    by (inl low) (inl ends) = rw (encode_ascii c low, ends) refl
    by (inl low) (inr goes) =
        let p = part_rest c cs in
        rw (encode_ascii c low, goes)
        (ap (λ k. 1 + arguments_len k (encode_utf8_all cs)) (byte_part c cs low)
        ∙ omega (arith, more p (rest_in c cs), one_byte c low, back (arguments_len p cs)))
    by (inr big) other =
        args_high (encode_utf8 c) (encode_utf8_all cs) (λ k h. high c k big h)
        ∙ omega (arith, more 0 (omega arith), back (arguments_len 0 cs))
        ∙ ap (λ n. utf8_len (take n (c ∷ cs))) (sym (args_one c cs big))

-- The arguments over the encoding end where they do over the characters. The first k characters
-- belong to a part that began before.
byte_args : (cs : List ℕ) (k : ℕ) → k ≤ length cs
    → arguments_len (utf8_len (take k cs)) (encode_utf8_all cs)
    ≡ utf8_len (take (arguments_len k cs) cs)
byte_args [] zero h = refl
byte_args [] (suc k) h = absurd (omega arith)
byte_args (c ∷ cs) zero h = args_next c cs (byte_args cs)
byte_args (c ∷ cs) (suc k) h =
    let len : utf8_len (take (suc k) (c ∷ cs)) ≡ length (encode_utf8 c) + utf8_len (take k cs) =
    omega (arith, length-encode c, sum_by-cons len_utf8 c (take k cs)) in
    let n = arguments_len k cs in
    let next : 1 + n ≡ suc n = omega arith in
    let after : utf8_len (take (1 + n) (c ∷ cs)) ≡ length (encode_utf8 c) + utf8_len (take n cs) =
    rw next (omega (arith, length-encode c, sum_by-cons len_utf8 c (take n cs))) in
    ap (λ m. arguments_len m (encode_utf8_all (c ∷ cs))) len
    ∙ args_over (encode_utf8 c) (encode_utf8_all cs) (utf8_len (take k cs))
    ∙ omega (arith, byte_args cs k (omega arith), after)

-- ---- the first argument whose mark is `)`

-- The last of a list, and of two lists.
last_append : (o : Option ℕ) (xs ys : List ℕ) → last_or o (xs ++ ys) ≡ last_or (last_or o xs) ys
last_append o [] ys = refl
last_append o (x ∷ xs) ys = last_append (Some x) xs ys

-- The last of a list is that of what is before it only where the list is empty.
last_some : (x : ℕ) (xs : List ℕ) (o : Option ℕ)
    → option_or (last_or (Some x) xs) o ≡ last_or (Some x) xs
last_some x [] o = refl
last_some x (y ∷ xs) o = last_some y xs o

last_else : (xs : List ℕ) (o : Option ℕ) → option_or (last_or None xs) o ≡ last_or o xs
last_else [] o = refl
last_else (x ∷ xs) o = last_some x xs o

-- A character or byte beyond ASCII is no `)`.
high_mark : (x : ℕ) → 128 ≤ x → is_parenthesis (Some x) ≡ false
high_mark x big = grind (arith, nat_tests)

-- So is the last of several bytes, and of those of a character.
high_last : (o : Option ℕ) (x : ℕ) (xs : List ℕ) → AreHigh (x ∷ xs)
    → is_parenthesis (last_or o (x ∷ xs)) ≡ false
high_last o x [] all = high_mark x (all 0 (omega arith))
high_last o x (y ∷ xs) all = high_last (Some x) y xs (λ k h. all (suc k) (omega arith))

char_last : (o : Option ℕ) (c : ℕ) → 128 ≤ c → is_parenthesis (last_or o (encode_utf8 c)) ≡ false
char_last o c big = by (encode_utf8 c) (some_bytes c) (λ k h. high c k big h)
  where
    by : (xs : List ℕ) → 0 < length xs → AreHigh xs → is_parenthesis (last_or o xs) ≡ false
    by [] some all = absurd (omega arith)
    by (x ∷ xs) some all = high_last o x xs all

-- The last byte of a text is `)` where its last character is.
last_bytes : (us : List ℕ) (o p : Option ℕ) → is_parenthesis p ≡ is_parenthesis o
    → is_parenthesis (last_or p (encode_utf8_all us)) ≡ is_parenthesis (last_or o us)
last_bytes [] o p same = same
last_bytes (c ∷ us) o p same = by (cases_lt c 128) (last_bytes us (Some c))
  where
    by : (c < 128) ⊎ (128 ≤ c) → ((q : Option ℕ) → is_parenthesis q ≡ is_parenthesis (Some c)
        → is_parenthesis (last_or q (encode_utf8_all us)) ≡ is_parenthesis (last_or (Some c) us))
        → is_parenthesis (last_or p (encode_utf8_all (c ∷ us)))
        ≡ is_parenthesis (last_or o (c ∷ us))
    by (inl low) rest = rw (encode_ascii c low) (rest (Some c) refl)
    by (inr big) rest =
        ap is_parenthesis (last_append p (encode_utf8 c) (encode_utf8_all us))
        ∙ rest (last_or p (encode_utf8 c)) (char_last p c big ∙ sym (high_mark c big))

-- The bytes of one character more.
bytes_next : (m : ℕ) (cs : List ℕ) (c : ℕ) → Some c ≡ slice_get cs m
    → utf8_len (take (m + 1) cs) ≡ utf8_len (take m cs) + length (encode_utf8 c)
bytes_next m [] c e = absurd (cc)
bytes_next zero (x ∷ cs) c e =
    let same : c ≡ x = cc in
    rw same (omega (arith, length-encode x, sum_by-cons len_utf8 x []))
bytes_next (suc m) (x ∷ cs) c e =
    let next : suc m + 1 ≡ suc (m + 1) = omega arith in
    rw next (omega (
      arith,
      bytes_next m cs c e,
      sum_by-cons len_utf8 x (take m cs),
      sum_by-cons len_utf8 x (take (m + 1) cs),
    ))

-- The bytes of the first m characters.
take_chars : (m : ℕ) (cs : List ℕ)
    → take (utf8_len (take m cs)) (encode_utf8_all cs) ≡ encode_utf8_all (take m cs)
take_chars m cs =
    ap (take (utf8_len (take m cs))) (ap encode_utf8_all (sym (take-append-drop m cs))
    ∙ encodes-append (take m cs) (drop m cs))
    ∙ take_at (encode_utf8_all (take m cs)) (encode_utf8_all (drop m cs)) (utf8_len (take m cs))
    (length_encodes (take m cs))

-- The mark after a part in bytes is `)` where that in characters is.
mark_bytes : (mark p : Option ℕ) (c : ℕ) (cs : List ℕ) → c < 128
    → is_parenthesis p ≡ is_parenthesis mark
    → is_parenthesis (mark_after p c (encode_utf8_all cs)) ≡ is_parenthesis (mark_after mark c cs)
mark_bytes mark p c cs low same = by (cases_Bool (eqb c 39))
  where
    inside : (o : Option ℕ) → close_len c cs ≡ o
        → is_parenthesis (option_or (last_inside (encode_utf8_all cs) (in_bytes cs o)) p)
        ≡ is_parenthesis (option_or (last_inside cs o) mark)
    inside None e = same
    inside (Some n) e =
        let (read, some) = close_read c cs n e in
        let m = n - 1 in
        let back : m + 1 ≡ n = omega arith in
        let all : utf8_len (take n cs) ≡ utf8_len (take m cs) + length (encode_utf8 c) =
        rw back at (bytes_next m cs c read) in
        let len : utf8_len (take n cs) - 1 ≡ utf8_len (take m cs) = omega (arith, one_byte c low) in
        rw (len, take_chars m cs) (ap is_parenthesis (last_else (encode_utf8_all (take m cs)) p)
        ∙ last_bytes (take m cs) mark p same ∙ ap is_parenthesis (sym (last_else (take m cs) mark)))

    by : (eqb c 39 ≡ true) ⊎ (eqb c 39 ≡ false)
        → is_parenthesis (mark_after p c (encode_utf8_all cs)) ≡ is_parenthesis (mark_after mark c cs)
    by (inl quote) =
        rw quote (ap (λ o. is_parenthesis (option_or (last_inside (encode_utf8_all cs) o) p))
        (byte_close c cs low) ∙ inside (close_len c cs) refl)
    by (inr other) = rw other refl

-- Characters, or bytes, beyond ASCII are their own marks.
marked_one : (mark : Option ℕ) (x : ℕ) (ys : List ℕ) → 128 ≤ x
    → marked_len 0 mark (x ∷ ys) ≡ option_map (λ n. n + 1) (marked_len 0 (Some x) ys)
marked_one mark x ys big =
    let (more, no_quote, no_blank, no_apostrophe, no_backquote) = plain x big in
    rw (more, no_quote, no_blank, no_apostrophe, no_backquote) refl
  where
    plain : (x : ℕ) → 128 ≤ x → (ends_arguments x ≡ false) × (is_psql_quote x ≡ false)
        × (is_blank x ≡ false) × (eqb x 39 ≡ false) × (eqb x 96 ≡ false)
    plain x big = (
      grind (arith, nat_tests),
      grind (arith, nat_tests),
      grind (arith, nat_tests),
      grind (arith, nat_tests),
      grind (arith, nat_tests),
    )

-- And the last of several is their mark.
marked_high : (mark : Option ℕ) (xs ys : List ℕ) → AreHigh xs
    → marked_len 0 mark (xs ++ ys)
    ≡ option_map (λ n. n + length xs) (marked_len 0 (last_or mark xs) ys)
marked_high mark [] ys all = map_none (marked_len 0 mark ys)
marked_high mark (x ∷ xs) ys all =
    marked_one mark x (xs ++ ys) (all 0 (omega arith))
    ∙ ap (option_map (λ n. n + 1)) (marked_high (Some x) xs ys (λ k h. all (suc k) (omega arith)))
    ∙ map_more (marked_len 0 (last_or (Some x) xs) ys) (length xs)

-- The bytes inside a part are only skipped.
marked_over : (xs ys : List ℕ) (m : ℕ) (mark : Option ℕ)
    → marked_len (length xs + m) mark (xs ++ ys)
    ≡ option_map (λ n. n + length xs) (marked_len m mark ys)
marked_over [] ys m mark = let none : 0 + m ≡ m = omega arith in
    rw none (map_none (marked_len m mark ys))
marked_over (x ∷ xs) ys m mark =
    let next : length (x ∷ xs) + m ≡ suc (length xs + m) = omega arith in
    rw next (ap (option_map (λ n. n + 1)) (marked_over xs ys m mark)
    ∙ map_more (marked_len m mark ys) (length xs))

-- Where nothing is left, the mark decides.
marked_here : (cs : List ℕ) (a b : Bool) → a ≡ b
    → cond a (Some 0) None ≡ in_bytes cs (cond b (Some 0) None)
marked_here cs true true e = refl
marked_here cs false false e = refl
marked_here cs true false e = absurd (cc)
marked_here cs false true e = absurd (cc)

-- The first marked argument at a character c ends in bytes where it does in characters, if that
-- after a part does.
marked_next : (c : ℕ) (cs : List ℕ) (mark p : Option ℕ) → is_parenthesis p ≡ is_parenthesis mark
    → ((k : ℕ) (m q : Option ℕ) → k ≤ length cs → is_parenthesis q ≡ is_parenthesis m
    → marked_len (utf8_len (take k cs)) q (encode_utf8_all cs) ≡ in_bytes cs (marked_len k m cs))
    → marked_len 0 p (encode_utf8_all (c ∷ cs)) ≡ in_bytes (c ∷ cs) (marked_len 0 mark (c ∷ cs))
marked_next c cs mark p same more =
    by (cases_lt c 128) (cases_Bool (ends_arguments c)) (cases_Bool (is_blank c))
    (cases_Bool (is_parenthesis mark))
  where
    by : (c < 128) ⊎ (128 ≤ c) → (ends_arguments c ≡ true) ⊎ (ends_arguments c ≡ false)
        → (is_blank c ≡ true) ⊎ (is_blank c ≡ false)
        → (is_parenthesis mark ≡ true) ⊎ (is_parenthesis mark ≡ false)
        → marked_len 0 p (encode_utf8_all (c ∷ cs)) ≡ in_bytes (c ∷ cs) (marked_len 0 mark (c ∷ cs))
    by (inl low) (inl ends) blank is =
        rw (encode_ascii c low, ends) (marked_here (c ∷ cs) (is_parenthesis p) (is_parenthesis mark) same)
    by (inl low) (inr goes) (inl blank) (inl is) =
        rw (encode_ascii c low, goes, blank, same, is) refl
    by (inl low) (inr goes) (inl blank) (inr other) =
        rw (encode_ascii c low, goes, blank, same, other)
        (ap (option_map (λ n. n + 1)) (more 0 None None (omega arith) refl)
        ∙ in_bytes_ascii c cs (marked_len 0 None cs) low)
    by (inl low) (inr goes) (inr no_blank) is =
        let r = part_rest c cs in
        rw (encode_ascii c low, goes, no_blank)
        (ap (λ k. option_map (λ n. n + 1)
        (marked_len k (mark_after p c (encode_utf8_all cs)) (encode_utf8_all cs))) (byte_part c cs low)
        ∙ ap (option_map (λ n. n + 1)) (more r (mark_after mark c cs)
        (mark_after p c (encode_utf8_all cs)) (rest_in c cs) (mark_bytes mark p c cs low same))
        ∙ in_bytes_ascii c cs (marked_len r (mark_after mark c cs) cs) low)
    by (inr big) ends blank is =
        marked_high p (encode_utf8 c) (encode_utf8_all cs) (λ k h. high c k big h)
        ∙ ap (option_map (λ n. n + length (encode_utf8 c))) (more 0 (Some c)
        (last_or p (encode_utf8 c)) (omega arith) (char_last p c big ∙ sym (high_mark c big)))
        ∙ in_bytes_one c cs (marked_len 0 (Some c) cs)
        ∙ ap (in_bytes (c ∷ cs)) (sym (marked_one mark c cs big))

-- So does the first marked argument, if both marks before it are `)` or neither is.
byte_marked : (cs : List ℕ) (k : ℕ) (mark p : Option ℕ) → k ≤ length cs
    → is_parenthesis p ≡ is_parenthesis mark
    → marked_len (utf8_len (take k cs)) p (encode_utf8_all cs) ≡ in_bytes cs (marked_len k mark cs)
byte_marked [] zero mark p h same = marked_here [] (is_parenthesis p) (is_parenthesis mark) same
byte_marked [] (suc k) mark p h same = absurd (omega arith)
byte_marked (c ∷ cs) zero mark p h same = marked_next c cs mark p same (byte_marked cs)
byte_marked (c ∷ cs) (suc k) mark p h same =
    let len : utf8_len (take (suc k) (c ∷ cs)) ≡ length (encode_utf8 c) + utf8_len (take k cs) =
    omega (arith, length-encode c, sum_by-cons len_utf8 c (take k cs)) in
    ap (λ m. marked_len m p (encode_utf8_all (c ∷ cs))) len
    ∙ marked_over (encode_utf8 c) (encode_utf8_all cs) (utf8_len (take k cs)) p
    ∙ ap (option_map (λ n. n + length (encode_utf8 c))) (byte_marked cs k mark p (omega arith) same)
    ∙ in_bytes_one c cs (marked_len k mark cs)

-- ---- skipping

-- Skipping the arguments.
pub passed_arguments : (token rest bs : List ℕ) (n : ℕ) → IsRest token rest
    → n ≡ arguments_len 0 bs → bs ≡ rest
    → IsSkip token rest n (arguments_end (chars token) (chars_before token rest))
passed_arguments token rest bs n r len same =
    let utf8 : IsUtf8 rest = IsUtf8-from_is_utf8 rest r.rest_utf8 in
    let k = arguments_len 0 (chars rest) in
    let bytes : n ≡ utf8_len (take k (chars rest)) =
    len ∙ ap (arguments_len 0) (same ∙ sym (encodes-chars rest utf8))
    ∙ byte_args (chars rest) 0 (omega arith) in
    let at : chars_before token rest + k ≡ arguments_end (chars token) (chars_before token rest) =
    ap (λ x. chars_before token rest + arguments_len 0 x) r.is in
    rw (bytes, ← at) (skip token rest k r (args_len_in 0 (chars rest)))

-- The length of the options in bytes, from the same in characters.
unwrap_bytes : (cs : List ℕ) (o : Option ℕ) (a : ℕ)
    → unwrap_or (in_bytes cs o) (utf8_len (take a cs)) ≡ utf8_len (take (unwrap_or o a) cs)
unwrap_bytes cs None a = refl
unwrap_bytes cs (Some n) a = refl

-- The options end within the text if both lengths do.
unwrap_in : (o : Option ℕ) (a len : ℕ) → unwrap_or o len ≤ len → a ≤ len → unwrap_or o a ≤ len
unwrap_in None a len found all = all
unwrap_in (Some n) a len found all = found

-- An argument with the mark is found in bytes where one is found in characters.
is_some_bytes : (cs : List ℕ) (o : Option ℕ) → is_some (in_bytes cs o) ≡ is_some o
is_some_bytes cs None = refl
is_some_bytes cs (Some n) = refl

-- Skipping the options, which end at index n of what is left.
pub passed_options : (token rest bs : List ℕ) (n : ℕ) (found : Bool) → IsRest token rest
    → n ≡ unwrap_or (marked_len 0 None bs) (arguments_len 0 bs) → found ≡ is_some (marked_len 0 None bs)
    → bs ≡ rest
    → IsSkip token rest n (chars_before token rest
    + unwrap_or (marked_len_at (chars token) (chars_before token rest))
    (arguments_len 0 (drop (chars_before token rest) (chars token))))
    × (found ≡ is_some (marked_len_at (chars token) (chars_before token rest)))
passed_options token rest bs n found r len is same =
    let utf8 : IsUtf8 rest = IsUtf8-from_is_utf8 rest r.rest_utf8 in
    let cs = chars rest in
    let all : bs ≡ encode_utf8_all cs = same ∙ sym (encodes-chars rest utf8) in
    let o = marked_len 0 None cs in
    let a = arguments_len 0 cs in
    let marked : marked_len 0 None bs ≡ in_bytes cs o = ap (marked_len 0 None) all
    ∙ byte_marked cs 0 None None (omega arith) refl in
    let args : arguments_len 0 bs ≡ utf8_len (take a cs) = ap (arguments_len 0) all
    ∙ byte_args cs 0 (omega arith) in
    let bytes : n ≡ utf8_len (take (unwrap_or o a) cs) =
    len ∙ ap₂ unwrap_or marked args ∙ unwrap_bytes cs o a in
    let within : unwrap_or o a ≤ length cs =
    unwrap_in o a (length cs) (marked_in 0 None cs) (args_len_in 0 cs) in
    let at : chars_before token rest + unwrap_or o a
    ≡ chars_before token rest
    + unwrap_or (marked_len_at (chars token) (chars_before token rest))
    (arguments_len 0 (drop (chars_before token rest) (chars token))) =
    ap (λ x. chars_before token rest + unwrap_or (marked_len 0 None x) (arguments_len 0 x)) r.is in (
      rw (bytes, ← at) (skip token rest (unwrap_or o a) r within),
      is ∙ ap is_some marked ∙ is_some_bytes cs o ∙ ap (λ x. is_some (marked_len 0 None x)) r.is,
    )
