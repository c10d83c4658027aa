-- Which old tokens an edit keeps at the front.
use Rattle.std.proofs.Common.{inl, inr, ◌≡◌, ℕ, ◌+◌, ◌-◌, ◌<◌, ◌≤◌, Bool, true, false, nat_lt, ◌||◌, eqb, cond, List, [], ◌∷◌, ◌++◌, length, take, drop, refl, sym, ◌∙◌, ap, subst, arith, length-drop, length-append, length-take, append_assoc, Some}
use Rattle.std.proofs.lemmas.Bool.{cases_lt}
use Rattle.std.proofs.lemmas.Bool.Decides.{nat_tests}
use Rattle.std.proofs.lemmas.List.{append-nil, drop_all, take-append-drop, drop_at, take_at}
use Rattle.std.proofs.lemmas.List.Sums.{sum_by-append, sum_by-cons}
use Rattle.std.specs.List.{count_by}
use Rattle.std.specs.Str.{IsUtf8, IsCharBoundary, chars, encode_utf8_all}
use Rattle.std.specs.Char.{encode_utf8}
use Rattle.std.proofs.lemmas.Str.{IsUtf8-drop, IsUtf8-between, IsUtf8-past_char, chars-nil, chars_past_char, encodes-chars, IsCharBoundary-from_rest, IsCharBoundary-from_take, IsCharBoundary-start}
use Rattle.squawk_lexer.specs.Cut.{token_ends}
use Rattle.squawk_lexer.specs.declared.token.Token.{Token}
use Rattle.squawk_cut.specs.Tells.{Tells, IsLawful, HasTwo}
use Rattle.squawk_cut.specs.Tokens.{tokens_from, tokens_of}
use Rattle.squawk_document.specs.Boundaries.{has_two_before, is_among, total_len}
use Rattle.squawk_document.specs.EditedTokens.{front_tokens}
use Rattle.squawk_document.specs.FrontPart.{IsLastButOne}
use Rattle.squawk_document.proofs.OffsetTests.{token_ends-append, length-token_ends, or_parts, same_offset, end_within}
use Rattle.squawk_document.proofs.Cutting.{first_of, boundary_front, chars_between, two_earlier}
use Rattle.squawk_document.proofs.Skipping.{end_from}

-- a member of the front is one of all
pub member_first : (y : ℕ) (ys : List ℕ) → is_among (y ∷ ys) y ≡ true
member_first y ys = let same : eqb y y ≡ true = grind (arith, nat_tests) in rw same refl

-- a member of a list is one of a longer list
pub member_later : (x y : ℕ) (ys : List ℕ) → is_among ys x ≡ true → is_among (y ∷ ys) x ≡ true
member_later x y ys m = by (eqb y x)
  where
    by : (b : Bool) → (b || is_among ys x) ≡ true
    by true = refl
    by false = m

-- all are counted if each member passes
pub count_all : (q : ℕ → Bool) (es : List ℕ) → ((e : ℕ) → is_among es e ≡ true → q e ≡ true)
    → count_by q es ≡ length es
count_all q [] h = refl
count_all q (e ∷ es) h =
    sum_by-cons (λ x. cond (q x) 1 0) e es
    ∙ rw (h e (member_first e es))
    (omega (arith, count_all q es (λ x m. h x (member_later x e es m))))

-- none is counted if no member passes
pub count_none : (q : ℕ → Bool) (es : List ℕ) → ((e : ℕ) → is_among es e ≡ true → q e ≡ false)
    → count_by q es ≡ 0
count_none q [] h = refl
count_none q (e ∷ es) h =
    sum_by-cons (λ x. cond (q x) 1 0) e es
    ∙ rw (h e (member_first e es))
    (omega (arith, count_none q es (λ x m. h x (member_later x e es m))))

-- each end is a character boundary
pub ends_boundaries : (t : Tells) → IsLawful t
    → (s : Bool) (u : List ℕ) (xs : List Token) (at e : ℕ) → IsUtf8 u → tokens_from t 0 s u ≡ xs
    → is_among (token_ends at xs) e ≡ true → IsCharBoundary u (e - at)
ends_boundaries t law s u [] at e utf8 is m = absurd (cc)
ends_boundaries t law s u (x ∷ xs) at e utf8 is m =
    let f = first_of t law s u x xs utf8 is in
    elim (or_parts (eqb (at + x.len) e) (is_among (token_ends (at + x.len) xs) e) m) [
      | inl here ↦
          let same = same_offset (at + x.len) e here in
          let len : x.len ≡ e - at = omega arith in
          subst (IsCharBoundary u) len f.boundary
      | inr later ↦
          let past = end_from (at + x.len) xs e later in
          let rest = ends_boundaries t law false (drop x.len u) xs (at + x.len) e f.rest_utf8 f.rest
          later in
          let offset : x.len + (e - (at + x.len)) ≡ e - at = omega arith in
          subst (IsCharBoundary u) offset
          (IsCharBoundary-from_rest u x.len (e - (at + x.len)) f.boundary.0 rest)
    ]

-- a text that is not empty has a character
pub chars_some : (w : List ℕ) → IsUtf8 w → 0 < length w → 0 < length (chars w)
chars_some w utf8 h = by (chars w) refl
  where
    by : (cs : List ℕ) → chars w ≡ cs → 0 < length cs
    by [] e = absurd (let same : w ≡ [] = sym (encodes-chars w utf8) ∙ ap encode_utf8_all e in
        omega (arith, ap length same))
    by (c ∷ cs) e = omega arith

-- the test fails with fewer than two characters
no_two : (text : List ℕ) (start e : ℕ) → length (chars (drop e (take start text))) < 2
    → has_two_before text start e ≡ false
no_two text start e h = let a : nat_lt (length (chars (drop e (take start text)))) 2 ≡ true =
    grind (arith, nat_tests) in rw a refl

-- the test passes with two characters
two_there : (text : List ℕ) (start e : ℕ) → HasTwo (drop e (take start text))
    → has_two_before text start e ≡ true
two_there text start e h = let a : nat_lt (length (chars (drop e (take start text)))) 2 ≡ false =
    grind (arith, nat_tests) in rw a refl

-- past the end of a text there are no two characters
none_past : (u : List ℕ) (e : ℕ) → length u ≤ e → length (chars (drop e u)) < 2
none_past u e h = omega (arith, ap (λ w. length (chars w)) (drop_all e u h), ap length chars-nil)

-- after an offset past m, which two characters follow, there are fewer
fewer : (u : List ℕ) (m e : ℕ) → IsUtf8 u → IsCharBoundary u m → IsCharBoundary u e → m < e
    → length (chars (drop m u)) ≡ 2 → length (chars (drop e u)) < 2
fewer u m e utf8 a b past two =
    let within : e ≤ length u = b.0 in
    let between = IsUtf8-between u m e utf8 (omega arith) a b in
    let some = chars_some (take (e - m) (drop m u)) between
    (omega (arith, length-take (e - m) (drop m u), length-drop m u)) in
    omega (
      arith,
      some,
      ap length (chars_between u m e utf8 (omega arith) a b),
      length-append
          (chars (take (e - m) (drop m u))) (chars (drop e u)),
    )

-- and where all have fewer than two, so has each rest
fewer_all : (u : List ℕ) (e : ℕ) → IsUtf8 u → IsCharBoundary u e → length (chars u) < 2
    → length (chars (drop e u)) < 2
fewer_all u e utf8 b h =
    omega (
      arith,
      ap length
          (chars_between u 0 e utf8 (omega arith) (IsCharBoundary-start u utf8) b),
      length-append
          (chars (take (e - 0) (drop 0 u))) (chars (drop e u)),
    )

-- an end in the text is a boundary of what comes before start, if it lies there
shared_boundary : (text : List ℕ) (start e : ℕ) → e < length (take start text)
    → IsCharBoundary text e → IsCharBoundary (take start text) e
shared_boundary text start e h b =
    boundary_front (take start text) (drop start text) e h
    (subst (λ w. IsCharBoundary w e) (sym (take-append-drop start text)) b)

-- the test of the definition, at an end, is whether it lies at the limit or before
kept_here : (text : List ℕ) (start m e : ℕ) → IsUtf8 (take start text)
    → IsLastButOne (take start text) (Some m) → IsCharBoundary text e → e ≤ m
    → has_two_before text start e ≡ true
kept_here text start m e utf8 limit b h =
    let inside : m < length (take start text) = limit_inside (take start text) m limit.1 in
    let low : e < length (take start text) = omega arith in
    two_there text start e
    (two_earlier (take start text) e m utf8 h (shared_boundary text start e low b) limit.0
    (omega (arith, limit.1)))
  where
    limit_inside : (u : List ℕ) (m : ℕ) → length (chars (drop m u)) ≡ 2 → m < length u
    limit_inside u m two =
        elim (cases_lt m (length u))
        [ inl lt ↦ lt | inr ge ↦ absurd (omega (arith, none_past u m ge)) ]

-- an end past the limit has fewer than two characters before start
past_limit : (text : List ℕ) (start m e : ℕ) → IsUtf8 (take start text)
    → IsLastButOne (take start text) (Some m) → IsCharBoundary text e → m < e
    → has_two_before text start e ≡ false
past_limit text start m e utf8 limit b h =
    no_two text start e (elim (cases_lt e (length (take start text))) [
      | inl lt ↦
          fewer (take start text) m e utf8 limit.0 (shared_boundary text start e lt b) h limit.1
      | inr ge ↦ none_past (take start text) e ge
    ])

-- without a limit no end has two characters before start
no_limit : (text : List ℕ) (start e : ℕ) → IsUtf8 (take start text)
    → length (chars (take start text)) < 2 → IsCharBoundary text e
    → has_two_before text start e ≡ false
no_limit text start e utf8 h b = no_two text start e (elim (cases_lt e (length (take start text))) [
  | inl lt ↦ fewer_all (take start text) e utf8 (shared_boundary text start e lt b) h
  | inr ge ↦ none_past (take start text) e ge
])

-- ends of the first tokens and of the others
member_front : (xs ys : List ℕ) (e : ℕ) → is_among xs e ≡ true → is_among (xs ++ ys) e ≡ true
member_front [] ys e m = absurd (cc)
member_front (x ∷ xs) ys e m = by (eqb x e) m (member_front xs ys e)
  where
    by : (b : Bool) → (b || is_among xs e) ≡ true
        → (is_among xs e ≡ true → is_among (xs ++ ys) e ≡ true)
        → (b || is_among (xs ++ ys) e) ≡ true
    by true m h = refl
    by false m h = h m

-- a member of the second list is one of both
pub member_back : (xs ys : List ℕ) (e : ℕ) → is_among ys e ≡ true → is_among (xs ++ ys) e ≡ true
member_back [] ys e m = m
member_back (x ∷ xs) ys e m = member_later e x (xs ++ ys) (member_back xs ys e m)

-- an end of tokens, the first of which ends past m, is past m
first_end : (at : ℕ) (ys : List Token) (e m : ℕ) → (0 < length ys → m < at + total_len (take 1 ys))
    → is_among (token_ends at ys) e ≡ true → m < e
first_end at [] e m h member = absurd (cc)
first_end at (y ∷ ys) e m h member =
    let low : m < at + (y.len + 0) = h (omega arith) in
    elim (or_parts (eqb (at + y.len) e) (is_among (token_ends (at + y.len) ys) e) member) [
      | inl here ↦ let same = same_offset (at + y.len) e here in omega arith
      | inr later ↦ let past = end_from (at + y.len) ys e later in omega arith
    ]

-- the number of front tokens
pub front_count : (t : Tells) → IsLawful t → (text : List ℕ) (start m : ℕ) (fr ys : List Token)
    → IsUtf8 text → IsUtf8 (take start text) → IsLastButOne (take start text) (Some m)
    → tokens_of t text ≡ fr ++ ys → total_len fr ≤ m
    → (0 < length ys → m < total_len fr + total_len (take 1 ys))
    → front_tokens text start (fr ++ ys) ≡ length fr
front_count t law text start m fr ys utf8 shared_utf8 limit is low high =
    let split : token_ends 0 (fr ++ ys) ≡ token_ends 0 fr ++ token_ends (0 + total_len fr) ys =
    token_ends-append 0 fr ys in
    let boundary : (e : ℕ) → is_among (token_ends 0 (fr ++ ys)) e ≡ true → IsCharBoundary text e =
    λ e mem. let none : e - 0 ≡ e = omega arith in
    subst (IsCharBoundary text) none
    (ends_boundaries t law true text (fr ++ ys) 0 e utf8 is mem) in
    let all = count_all (has_two_before text start) (token_ends 0 fr) (λ e mem.
    kept_here text start m e shared_utf8 limit
    (boundary e (ap (λ es. is_among es e) split ∙ member_front (token_ends 0 fr) _ e mem))
    (let within = end_within 0 fr e mem in omega arith)) in
    let none = count_none (has_two_before text start) (token_ends (0 + total_len fr) ys) (λ e mem.
    past_limit text start m e shared_utf8 limit
    (boundary e (ap (λ es. is_among es e) split ∙ member_back (token_ends 0 fr) _ e mem))
    (first_end (0 + total_len fr) ys e m (λ h. let k = high h in omega arith) mem)) in
    ap (count_by (has_two_before text start)) split
    ∙ sum_by-append _ (token_ends 0 fr) (token_ends (0 + total_len fr) ys)
    ∙ omega (arith, all, none, length-token_ends 0 fr)

-- without a limit there are no front tokens
pub front_count_none : (t : Tells) → IsLawful t → (text : List ℕ) (start : ℕ) (ys : List Token)
    → IsUtf8 text → IsUtf8 (take start text) → length (chars (take start text)) < 2
    → tokens_of t text ≡ ys → front_tokens text start ys ≡ 0
front_count_none t law text start ys utf8 shared_utf8 h is =
    count_none (has_two_before text start) (token_ends 0 ys) (λ e mem.
    let none : e - 0 ≡ e = omega arith in
    no_limit text start e shared_utf8 h
    (subst (IsCharBoundary text) none (ends_boundaries t law true text ys 0 e utf8 is mem)))

-- ---- the last but one character

-- the encoding of one character has that character
chars_one : (w : List ℕ) (b : ℕ) → IsUtf8 w → w ≡ encode_utf8 b → chars w ≡ b ∷ []
chars_one w b utf8 e = chars_past_char w [] b utf8 (e ∙ sym (append-nil (encode_utf8 b)))
    ∙ ap (λ cs. b ∷ cs) chars-nil

-- an empty text has no two characters
pub limit_none : (text : List ℕ) → length text ≡ 0 → length (chars text) < 2
limit_none [] e = omega (arith, ap length chars-nil)
limit_none (b ∷ bs) e = absurd (omega arith)

-- a text of one character has no two
pub limit_one : (text mid : List ℕ) (b : ℕ) → IsUtf8 text → text ≡ mid ++ encode_utf8 b
    → length mid ≡ 0 → length (chars text) < 2
limit_one text [] b utf8 e h = omega (arith, ap length (chars_one text b utf8 e))
limit_one text (c ∷ cs) b utf8 e h = absurd (omega arith)

-- the last but one character of a text, found from its end
pub limit_two : (text mid front : List ℕ) (a b : ℕ) → IsUtf8 text → IsUtf8 front
    → text ≡ mid ++ encode_utf8 b → mid ≡ front ++ encode_utf8 a
    → IsLastButOne text (Some (length front))
limit_two text mid front a b utf8 front_utf8 e f =
    let parts : text ≡ front ++ (encode_utf8 a ++ encode_utf8 b) = e
    ∙ ap (λ w. w ++ encode_utf8 b) f ∙ append_assoc front (encode_utf8 a) (encode_utf8 b) in
    let front_is : take (length front) text ≡ front = ap (take (length front)) parts
    ∙ take_at front (encode_utf8 a ++ encode_utf8 b) (length front) refl in
    let rest_is : drop (length front) text ≡ encode_utf8 a ++ encode_utf8 b =
    ap (drop (length front)) parts
    ∙ drop_at front (encode_utf8 a ++ encode_utf8 b) (length front) refl in
    let boundary = IsCharBoundary-from_take text (length front) utf8
    (omega (arith, ap length parts, length-append front (encode_utf8 a ++ encode_utf8 b)))
    (subst IsUtf8 (sym front_is) front_utf8) in
    let rest_utf8 = IsUtf8-drop text (length front) utf8 boundary in
    let two = chars_past_char (drop (length front) text) (encode_utf8 b) a rest_utf8 rest_is in
    let one = chars_one (encode_utf8 b) b
    (IsUtf8-past_char (drop (length front) text) (encode_utf8 b) a rest_utf8 rest_is) refl in
    (boundary, omega (arith, ap length two, ap length one))
