-- A search for the bytes of a delimiter, which begins with `$` (36), finds its first occurrence
-- among the characters.
use Rattle.std.proofs.Common.{◌≡◌, ℕ, zero, suc, ◌+◌, ◌-◌, ◌<◌, ◌≤◌, true, false, List, [], ◌∷◌, ◌++◌, length, get_or, take, drop, None, Some, nat_eq, refl, sym, ◌∙◌, ap, subst, inl, inr, ◌⊎◌, eq-eqb, arith, length-append, append_assoc, IsUtf8}
use Rattle.std.proofs.lemmas.Bool.{cases_lt, cases_eq, cases_Bool}
use Rattle.std.proofs.lemmas.Bool.Decides.{nat_tests}
use Rattle.std.proofs.lemmas.List.{take-append-drop, length-take-le, take_at, get_or-append-add}
use Rattle.std.proofs.lemmas.List.Prefix.{at_from_reads, at_reads}
use Rattle.std.proofs.lemmas.List.Sums.{sum_by-cons, sum_by-append}
use Rattle.std.proofs.lemmas.Str.{IsUtf8-from_is_utf8, encodes-chars, inside_one, encode_ascii, encode_same, encodes-append, length-encode}
use Rattle.std.proofs.Math.Seq.{drop-append_seam}
use Rattle.std.specs.List.{starts_with}
use Rattle.std.specs.Str.{chars, encode_utf8_all}
use Rattle.std.specs.Char.{encode_utf8, len_utf8}
use Rattle.memchr.specs.Find.{OccursAt, FindsNeedle}
use Rattle.squawk_lexer.specs.Text.{utf8_len}
use Rattle.squawk_lexer.specs.Dollar.{find_end}
use Rattle.squawk_lexer.specs.Laws.{IsFirstOccurrence}
use Rattle.squawk_lexer.proofs.CursorRest.{length_encodes, length_bytes, fewer_bytes}
use Rattle.squawk_lexer.specs.CursorModel.{IsRest, chars_before}
use Rattle.squawk_lexer.proofs.ByteRuns.{some_bytes, IsSkip, skip}

-- ---- from characters to bytes

-- A text that begins with d is d and a rest.
begins : (d v : List ℕ) → starts_with nat_eq v d ≡ true → v ≡ d ++ drop (length d) v
begins [] v e = refl
begins (c ∷ d) [] e = absurd (cc)
begins (c ∷ d) (x ∷ v) e =
    let first : c ≡ x = grind (arith, nat_tests) in
    let rest : starts_with nat_eq v d ≡ true = grind (arith, nat_tests) in
    ap (λ y. y ∷ v) (sym first) ∙ ap (λ w. c ∷ w) (begins d v rest)

-- Where d occurs after k characters, the bytes of the text are those of three parts.
parted : (d v : List ℕ) (k : ℕ) → starts_with nat_eq (drop k v) d ≡ true
    → encode_utf8_all v ≡ encode_utf8_all (take k v)
    ++ (encode_utf8_all d ++ encode_utf8_all (drop (length d) (drop k v)))
parted d v k e =
    ap encode_utf8_all (sym (take-append-drop k v)) ∙ encodes-append (take k v) (drop k v)
    ∙ ap (λ x. encode_utf8_all (take k v) ++ x) (ap encode_utf8_all (begins d (drop k v) e)
    ∙ encodes-append d (drop (length d) (drop k v)))

-- The bytes of d occur where its characters do.
occurs : (d v : List ℕ) (k : ℕ) → starts_with nat_eq (drop k v) d ≡ true
    → OccursAt (encode_utf8_all v) (encode_utf8_all d) (utf8_len (take k v))
occurs d v k e =
    let prefix = encode_utf8_all (take k v) in
    let suffix = encode_utf8_all d ++ encode_utf8_all (drop (length d) (drop k v)) in
    let seam : encode_utf8_all v ≡ prefix ++ suffix = parted d v k e in
    let n : length prefix ≡ utf8_len (take k v) = length_encodes (take k v) in
    let all : length (encode_utf8_all v) ≡ length prefix + length suffix = ap length seam
    ∙ length-append prefix suffix in
    let rest : length suffix ≡ length (encode_utf8_all d)
    + length (encode_utf8_all (drop (length d) (drop k v))) =
    length-append (encode_utf8_all d) _ in
    let after : drop (utf8_len (take k v)) (encode_utf8_all v) ≡ suffix =
    rw (← n) (ap (drop (length prefix)) seam ∙ drop-append_seam prefix suffix) in
    record {
      fits = omega arith;
      reads = at_reads 0 (encode_utf8_all v) (encode_utf8_all d) (utf8_len (take k v))
          (encode_utf8_all (drop (length d) (drop k v))) after;
    }

-- ---- from bytes to characters

-- A text whose bytes begin with those of d begins with d.
prefix_chars : (d v bs : List ℕ) → encode_utf8_all v ≡ encode_utf8_all d ++ bs
    → starts_with nat_eq v d ≡ true
prefix_chars [] v bs e = refl
prefix_chars (c ∷ d) [] bs e = absurd (none)
  where
    none : ⊥
    none =
        let some = some_bytes c in
        let left : 0 ≡ length (encode_utf8_all (c ∷ d)) + length bs = ap length e
        ∙ length-append (encode_utf8_all (c ∷ d)) bs in
        let right : length (encode_utf8_all (c ∷ d))
        ≡ length (encode_utf8 c) + length (encode_utf8_all d) =
        length-append (encode_utf8 c) (encode_utf8_all d) in
        omega arith
prefix_chars (c ∷ d) (x ∷ v) bs e =
    let both = encode_same x c (encode_utf8_all v) (encode_utf8_all d ++ bs) (e
    ∙ append_assoc (encode_utf8 c) (encode_utf8_all d) bs) in
    rw (eq-eqb c x (sym both.0)) (prefix_chars d v bs both.1)

-- d occurs after the first k characters of v, which take b bytes.
pub record IsThere (d v : List ℕ) (b k : ℕ) : Type 0 where
  pub is : b ≡ utf8_len (take k v)
  pub within : k < length v
  pub stands : starts_with nat_eq (drop k v) d ≡ true

-- The bytes of a delimiter are not empty, and begin with `$`.
some_needle : (t : List ℕ) → 0 < length (encode_utf8_all (36 ∷ t))
some_needle t = let e = length-append (encode_utf8 36) (encode_utf8_all t) in let some =
    some_bytes 36 in omega arith

first_needle : (t : List ℕ) → get_or (encode_utf8_all (36 ∷ t)) 0 0 ≡ 36
first_needle t = rw (encode_ascii 36 (omega arith)) refl

-- The characters of a delimiter occur where its bytes do.
there : (t v : List ℕ) (b : ℕ) → OccursAt (encode_utf8_all v) (encode_utf8_all (36 ∷ t)) b → (k : ℕ)
    × IsThere (36 ∷ t) v b k
there t [] b o = absurd (let fits = o.fits in let some = some_needle t in omega arith)
there t (c ∷ cs) b o = by (cases_eq b 0) (cases_lt b (length (encode_utf8 c)))
    (λ m p. there t cs m p)
  where
    d : List ℕ
    d = 36 ∷ t

    text : List ℕ
    text = encode_utf8_all (c ∷ cs)

    by : (b ≡ 0) ⊎ (b ≡ 0 → ⊥) → (b < length (encode_utf8 c)) ⊎ (length (encode_utf8 c) ≤ b)
        → ((m : ℕ) → OccursAt (encode_utf8_all cs) (encode_utf8_all (36 ∷ t)) m → (k : ℕ)
        × IsThere (36 ∷ t) cs m k) → (k : ℕ) × IsThere (36 ∷ t) (c ∷ cs) b k
    by (inl e) inside more =
        let prefix : drop 0 (encode_utf8_all (c ∷ cs))
        ≡ encode_utf8_all (36 ∷ t) ++ drop (0 + length (encode_utf8_all (36 ∷ t)))
        (encode_utf8_all (c ∷ cs)) =
        at_from_reads 0 (encode_utf8_all (c ∷ cs)) (encode_utf8_all (36 ∷ t)) 0 (rw e at o.fits)
        (rw e at o.reads) in
        let stands = prefix_chars (36 ∷ t) (c ∷ cs) _ prefix in
        (0, record { is = e; within = omega arith; stands = stands })
    by (inr n) (inl inside) more = absurd (
        let some = some_needle t in
        let read = o.reads 0 some in
        let here : get_or (encode_utf8_all (c ∷ cs)) b 0 ≡ 36 =
        ap (λ x. get_or (encode_utf8_all (c ∷ cs)) x 0) (omega arith) ∙ read ∙ first_needle t in
        let one : c ≡ 36 =
        inside_one c (encode_utf8_all cs) (encode_utf8_all (c ∷ cs)) b refl inside (omega arith)
        ∙ here in
        let single : length (encode_utf8 36) ≡ 1 = ap length (encode_ascii 36 (omega arith)) in
        let len : length (encode_utf8 c) ≡ 1 = ap (λ x. length (encode_utf8 x)) one ∙ single in
        omega arith)
    by (inr n) (inr past) more =
        let m = b - length (encode_utf8 c) in
        let suffix : length (encode_utf8 c) + m ≡ b = omega arith in
        let all : length (encode_utf8_all (c ∷ cs))
        ≡ length (encode_utf8 c) + length (encode_utf8_all cs) =
        length-append (encode_utf8 c) (encode_utf8_all cs) in
        let fits = o.fits in
        let inner : OccursAt (encode_utf8_all cs) (encode_utf8_all (36 ∷ t)) m =
        record {
          fits = omega arith;
          reads = λ j h. sym (get_or-append-add (encode_utf8 c) (encode_utf8_all cs) (m + j) 0)
              ∙ ap (λ x. get_or (encode_utf8_all (c ∷ cs)) x 0) (omega arith) ∙ o.reads j h;
        } in
        let (k, r) = more m inner in
        let is = r.is in
        let len = length-encode c in (
          suc k,
          record {
            is = omega (arith, sum_by-cons len_utf8 c (take k cs));
            within = omega (arith, r.within);
            stands = r.stands;
          },
        )

-- ---- the first occurrence

-- `find_end` at a first occurrence, and where there is none.
find_is : (d v : List ℕ) (k : ℕ) → IsFirstOccurrence d v k → k < length v
    → find_end d v ≡ Some (k + length d)
find_is d [] k f h = absurd (omega arith)
find_is d (c ∷ v) zero f h = rw (f.stands) (ap Some (omega arith))
find_is d (c ∷ v) (suc k) f h =
    let before : starts_with nat_eq (c ∷ v) d ≡ false = f.first 0 (omega arith) in
    let rest : IsFirstOccurrence d v k = record {
      stands = f.stands;
      first = λ j below. f.first (suc j) (omega arith);
    } in
    rw (before, find_is d v k rest (omega arith)) (ap Some (omega arith))

find_none : (d v : List ℕ) → ((k : ℕ) → k < length v → starts_with nat_eq (drop k v) d ≡ false)
    → find_end d v ≡ None
find_none d [] nowhere = refl
find_none d (c ∷ v) nowhere = rw (
  nowhere 0 (omega arith),
  find_none d v
      (λ k h. nowhere (suc k) (omega arith)),
) refl

-- A prefix takes no more bytes than the text.
bytes_within : (v : List ℕ) (k : ℕ) → utf8_len (take k v) ≤ length (encode_utf8_all v)
bytes_within v k =
    let all : length (encode_utf8_all v)
    ≡ length (encode_utf8_all (take k v)) + length (encode_utf8_all (drop k v)) =
    ap length (ap encode_utf8_all (sym (take-append-drop k v))
    ∙ encodes-append (take k v) (drop k v))
    ∙ length-append (encode_utf8_all (take k v)) (encode_utf8_all (drop k v)) in
    omega (arith, all, length_encodes (take k v))

-- d does not occur where its bytes do not.
not_there : (d v : List ℕ) (k : ℕ)
    → (OccursAt (encode_utf8_all v) (encode_utf8_all d) (utf8_len (take k v)) → ⊥)
    → starts_with nat_eq (drop k v) d ≡ false
not_there d v k absent = by (cases_Bool (starts_with nat_eq (drop k v) d))
  where
    by : (starts_with nat_eq (drop k v) d ≡ true) ⊎ (starts_with nat_eq (drop k v) d ≡ false)
        → starts_with nat_eq (drop k v) d ≡ false
    by (inl e) = absurd (absent (occurs d v k e))
    by (inr e) = e

-- The search finds nothing.
pub needle_none : (t v : List ℕ) → FindsNeedle (encode_utf8_all v) (encode_utf8_all (36 ∷ t)) 0 None
    → find_end (36 ∷ t) v ≡ None
needle_none t v nowhere = find_none (36 ∷ t) v
    (λ k h. not_there (36 ∷ t) v k (nowhere (utf8_len (take k v)) (omega arith)
    (omega (arith, bytes_within v k))))

-- The search finds offset b: the delimiter ends after n characters.
pub needle_some : (t v : List ℕ) (b : ℕ)
    → FindsNeedle (encode_utf8_all v) (encode_utf8_all (36 ∷ t)) 0 (Some b)
    → (n : ℕ) × (find_end (36 ∷ t) v ≡ Some n) × (n ≤ length v)
    × (utf8_len (take n v) ≡ b + length (encode_utf8_all (36 ∷ t)))
needle_some t v b (first, here) =
    let (k, r) = there t v b here in
    let d = 36 ∷ t in
    let before : (j : ℕ) → j < k → starts_with nat_eq (drop j v) (36 ∷ t) ≡ false =
    λ j below. not_there (36 ∷ t) v j (first.before (utf8_len (take j v)) (omega arith) (let fewer =
    fewer_bytes v j k below (omega (arith, r.within)) in omega (arith, r.is))) in
    let found : find_end (36 ∷ t) v ≡ Some (k + length d) =
    find_is (36 ∷ t) v k (record { stands = r.stands; first = before }) r.within in
    let rest = drop (length d) (drop k v) in
    let goes : drop k v ≡ d ++ rest = begins d (drop k v) r.stands in
    let whole : v ≡ (take k v ++ d) ++ rest = sym (take-append-drop k v)
    ∙ ap (λ x. take k v ++ x) goes ∙ sym (append_assoc (take k v) d rest) in
    let len : length (take k v) ≡ k = length-take-le k v (omega (arith, r.within)) in
    let prefix : length (take k v ++ d) ≡ k + length d = length-append (take k v) d ∙ omega arith in
    let all : length v ≡ length (take k v ++ d) + length rest = ap length whole
    ∙ length-append (take k v ++ d) rest in
    let taken : take (k + length d) v ≡ take k v ++ d = ap (take (k + length d)) whole
    ∙ take_at (take k v ++ d) rest (k + length d) prefix in
    let sum : utf8_len (take (k + length d) v) ≡ utf8_len (take k v) + utf8_len d =
    ap utf8_len taken ∙ sum_by-append len_utf8 (take k v) d in
    (k + length d, found, omega arith, omega (arith, sum, r.is, length_encodes d))

-- ---- in the form in which the code has it

-- The needle that was found at offset b of the rest ends after n characters of it.
pub record IsThrough (token rest needle : List ℕ) (b n : ℕ) : Type 0 where
  pub found : find_end (chars needle) (drop (chars_before token rest) (chars token)) ≡ Some n
  pub after : IsSkip token rest (b + length needle) (chars_before token rest + n)

-- The bytes of a needle that begins with `$`.
needle_is : (needle : List ℕ) → IsUtf8 needle → get_or (chars needle) 0 0 ≡ 36 → (t : List ℕ)
    × (chars needle ≡ 36 ∷ t) × (needle ≡ encode_utf8_all (36 ∷ t))
needle_is needle utf8 first = by (chars needle) refl first
  where
    by : (cs : List ℕ) → chars needle ≡ cs → get_or cs 0 0 ≡ 36 → (t : List ℕ)
        × (chars needle ≡ 36 ∷ t) × (needle ≡ encode_utf8_all (36 ∷ t))
    by [] e f = absurd (omega arith)
    by (c ∷ t) e f =
        let is : chars needle ≡ 36 ∷ t = e ∙ ap (λ x. x ∷ t) f in
        (t, is, sym (encodes-chars needle utf8) ∙ ap encode_utf8_all is)

-- The search finds an offset, or nothing.
pub through_some : (token rest needle hay pin : List ℕ) (b : ℕ) → IsRest token rest → IsUtf8 needle
    → get_or (chars needle) 0 0 ≡ 36 → hay ≡ rest → pin ≡ needle
    → FindsNeedle hay pin 0 (Some b) → (n : ℕ) × IsThrough token rest needle b n
through_some token rest needle hay pin b r utf8 first same alike finds =
    let (t, is, bytes_are) = needle_is needle utf8 first in
    let rest_is : rest ≡ encode_utf8_all (chars rest) =
    sym (encodes-chars rest (IsUtf8-from_is_utf8 rest r.rest_utf8)) in
    let search : FindsNeedle (encode_utf8_all (chars rest)) (encode_utf8_all (36 ∷ t)) 0 (Some b) =
    subst (λ x. FindsNeedle x (encode_utf8_all (36 ∷ t)) 0 (Some b)) (same
    ∙ rest_is) (subst (λ x. FindsNeedle hay x 0 (Some b)) (alike ∙ bytes_are) finds) in
    let (n, found, within, behind) = needle_some t (chars rest) b search in
    let len : utf8_len (take n (chars rest)) ≡ b + length needle = behind
    ∙ ap (λ x. b + length x) (sym bytes_are) in
    let s = skip token rest n r within in
    (n, record { found = rw (is, ← r.is) found; after = rw (← len) s })

pub through_none : (token rest needle hay pin : List ℕ) → IsRest token rest → IsUtf8 needle
    → get_or (chars needle) 0 0 ≡ 36 → hay ≡ rest → pin ≡ needle → FindsNeedle hay pin 0 None
    → find_end (chars needle) (drop (chars_before token rest) (chars token)) ≡ None
through_none token rest needle hay pin r utf8 first same alike finds =
    let (t, is, bytes_are) = needle_is needle utf8 first in
    let rest_is : rest ≡ encode_utf8_all (chars rest) =
    sym (encodes-chars rest (IsUtf8-from_is_utf8 rest r.rest_utf8)) in
    let search : FindsNeedle (encode_utf8_all (chars rest)) (encode_utf8_all (36 ∷ t)) 0 None =
    subst (λ x. FindsNeedle x (encode_utf8_all (36 ∷ t)) 0 None) (same
    ∙ rest_is) (subst (λ x. FindsNeedle hay x 0 None) (alike ∙ bytes_are) finds) in
    rw (is, ← r.is) (needle_none t (chars rest) search)

-- All that is left is skipped.
pub skip_all : (token rest : List ℕ) → IsRest token rest
    → IsSkip token rest (length rest)
    (chars_before token rest + length (drop (chars_before token rest) (chars token)))
skip_all token rest r =
    let utf8 = IsUtf8-from_is_utf8 rest r.rest_utf8 in
    let all : utf8_len (take (length (chars rest)) (chars rest)) ≡ length rest =
    ap utf8_len (take_all (chars rest)) ∙ sym (length_bytes rest r.rest_utf8) in
    let s = skip token rest (length (chars rest)) r (omega arith) in
    rw (← all, ← r.is) s
  where
    take_all : (xs : List ℕ) → take (length xs) xs ≡ xs
    take_all [] = refl
    take_all (x ∷ xs) = ap (λ ys. x ∷ ys) (take_all xs)
