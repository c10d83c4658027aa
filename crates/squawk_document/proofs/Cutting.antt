-- How tokens follow from a text.
use Rattle.std.proofs.Common.{◌≡◌, ℕ, zero, suc, ◌+◌, ◌-◌, ◌<◌, ◌≤◌, Bool, true, false, ◌&&◌, eqb, List, [], ◌∷◌, ◌++◌, length, get_or, take, drop, refl, sym, ◌∙◌, ap, subst, arith, length-append, length-drop, append_assoc}
use Rattle.std.proofs.lemmas.Bool.Decides.{nat_tests}
use Rattle.std.proofs.lemmas.List.{drop-drop, take-append-drop, get_or_append_left, get_or-drop, drop-append-le, length-take-le}
use Rattle.std.specs.Str.{IsUtf8, IsCharBoundary, chars}
use Rattle.std.proofs.lemmas.Str.{IsUtf8-append, IsUtf8-take, IsUtf8-drop, IsUtf8-between, chars-append, IsCharBoundary-from_rest}
use Rattle.squawk_lexer.specs.declared.token.Token.{Token}
use Rattle.squawk_cut.specs.Tells.{Tells, IsLawful, HasTwo}
use Rattle.squawk_cut.specs.Tokens.{tokens_from}
use Rattle.squawk_document.specs.Boundaries.{total_len}
use Rattle.squawk_document.proofs.OffsetTests.{Positive}

-- the tokens after n bytes inside one are those of the remaining text
tokens_inside : (t : Tells) (n : ℕ) (u : List ℕ)
    → tokens_from t n false u ≡ tokens_from t 0 false (drop n u)
tokens_inside t zero [] = refl
tokens_inside t (suc n) [] = refl
tokens_inside t zero (c ∷ cs) = refl
tokens_inside t (suc n) (c ∷ cs) = tokens_inside t n cs

-- n elements dropped from a list are n - 1 dropped from its tail
drop_end : (n c : ℕ) (cs : List ℕ) → 0 < n → drop (n - 1) cs ≡ drop n (c ∷ cs)
drop_end zero c cs h = absurd (omega arith)
drop_end (suc n) c cs h = ap (λ m. drop m cs) (omega arith)

-- the first token, and those of what follows it
pub tokens_first : (t : Tells) → IsLawful t → (s : Bool) (u : List ℕ) → IsUtf8 u → 0 < length u
    → tokens_from t 0 s u ≡ t.token_at s u ∷ tokens_from t 0 false (drop (t.token_at s u).len u)
tokens_first t law s [] utf8 h = absurd (omega arith)
tokens_first t law s (c ∷ cs) utf8 h =
    ap (λ ts. t.token_at s (c ∷ cs) ∷ ts) (tokens_inside t ((t.token_at s (c ∷ cs)).len - 1) cs
    ∙ ap (tokens_from t 0 false)
    (drop_end (t.token_at s (c ∷ cs)).len c cs (law.some s (c ∷ cs) utf8 h)))

-- what is known of the first token
pub record IsFirst (t : Tells) (s : Bool) (u : List ℕ) (x : Token) (xs : List Token) : Type 0 where
  pub token : x ≡ t.token_at s u
  pub some : 0 < x.len
  pub boundary : IsCharBoundary u x.len
  pub rest_utf8 : IsUtf8 (drop x.len u)
  pub filled : 0 < length u
  pub rest : tokens_from t 0 false (drop x.len u) ≡ xs

-- what is known of the first token of a text
pub first_of : (t : Tells) → IsLawful t → (s : Bool) (u : List ℕ) (x : Token) (xs : List Token)
    → IsUtf8 u → tokens_from t 0 s u ≡ x ∷ xs → IsFirst t s u x xs
first_of t law s [] x xs utf8 e = absurd (cc)
first_of t law s (c ∷ cs) x xs utf8 e =
    let u = c ∷ cs in
    let h : 0 < length u = omega arith in
    let first = tokens_first t law s u utf8 h in
    let is : x ≡ t.token_at s u = cc in
    let rest : tokens_from t 0 false (drop (t.token_at s u).len u) ≡ xs = cc in
    let boundary = subst (λ (y : Token). IsCharBoundary u y.len) (sym is) (law.within s u utf8 h) in
    record {
      token = is;
      some = subst (λ (y : Token). 0 < y.len) (sym is) (law.some s u utf8 h);
      boundary = boundary;
      rest_utf8 = IsUtf8-drop u x.len utf8 boundary;
      filled = h;
      rest = ap (λ (y : Token). tokens_from t 0 false (drop y.len u)) is ∙ rest;
    }

-- each token of a text has a byte at least
pub tokens_positive : (t : Tells) → IsLawful t → (s : Bool) (u : List ℕ) (xs : List Token)
    → IsUtf8 u → tokens_from t 0 s u ≡ xs → Positive xs
tokens_positive t law s u [] utf8 e = tt
tokens_positive t law s u (x ∷ xs) utf8 e =
    let f = first_of t law s u x xs utf8 e in
    (f.some, tokens_positive t law false (drop x.len u) xs f.rest_utf8 f.rest)

-- a list of length 0 is empty
none_left : (u : List ℕ) → length u ≡ 0 → u ≡ []
none_left [] e = refl
none_left (c ∷ cs) e = absurd (omega arith)

-- the tokens of a text have its bytes
pub tokens_total : (t : Tells) → IsLawful t → (s : Bool) (u : List ℕ) (xs : List Token) → IsUtf8 u
    → tokens_from t 0 s u ≡ xs → total_len xs ≡ length u
tokens_total t law s [] [] utf8 e = refl
tokens_total t law s (c ∷ cs) [] utf8 e = let first =
    tokens_first t law s (c ∷ cs) utf8 (omega arith) in absurd (cc)
tokens_total t law s u (x ∷ xs) utf8 e =
    let f = first_of t law s u x xs utf8 e in
    let within : x.len ≤ length u = f.boundary.0 in
    omega (
      arith,
      tokens_total t law false (drop x.len u) xs f.rest_utf8 f.rest,
      length-drop x.len
          u,
    )

-- after some tokens come those of the remaining text, and they end at a character boundary
pub record IsRest (t : Tells) (u : List ℕ) (at : ℕ) (ys : List Token) : Type 0 where
  pub tokens : ys ≡ tokens_from t 0 false (drop at u)
  pub boundary : IsCharBoundary u at
  pub utf8 : IsUtf8 (drop at u)

-- the tokens after some tokens are those of the remaining text, read without the rule for its start
pub restart : (t : Tells) → IsLawful t → (s : Bool) (u : List ℕ) (x : Token) (xs ys : List Token)
    → IsUtf8 u → tokens_from t 0 s u ≡ x ∷ (xs ++ ys) → IsRest t u (total_len (x ∷ xs)) ys
restart t law s u x [] ys utf8 e =
    let f = first_of t law s u x ys utf8 e in
    let same : x.len + 0 ≡ x.len = omega arith in
    rw same (record { tokens = sym f.rest; boundary = f.boundary; utf8 = f.rest_utf8 })
restart t law s u x (y ∷ xs) ys utf8 e =
    let f = first_of t law s u x (y ∷ (xs ++ ys)) utf8 e in
    let r = restart t law false (drop x.len u) y xs ys f.rest_utf8 f.rest in
    let same : drop (total_len (y ∷ xs)) (drop x.len u) ≡ drop (x.len + total_len (y ∷ xs)) u =
    drop-drop (total_len (y ∷ xs)) x.len u in
    record {
      tokens = r.tokens ∙ ap (tokens_from t 0 false) same;
      boundary = IsCharBoundary-from_rest u x.len (total_len (y ∷ xs)) f.boundary.0 r.boundary;
      utf8 = subst IsUtf8 same r.utf8;
    }

-- ---- tokens that two texts share

-- a boundary of a text is one of its front part
pub boundary_front : (xs ys : List ℕ) (i : ℕ) → i < length xs → IsCharBoundary (xs ++ ys) i
    → IsCharBoundary xs i
boundary_front xs ys i h b = (
  omega arith,
  λ lt big. let same = get_or_append_left xs ys 0 i h in
      subst (λ n. 192 ≤ n) same
      (b.1 (omega (arith, length-append xs ys)) (subst (λ n. 128 ≤ n) (sym same) big)),
)

-- a boundary of a text is one of the rest after an earlier offset
boundary_rest : (xs : List ℕ) (i j : ℕ) → i ≤ j → IsCharBoundary xs j
    → IsCharBoundary (drop i xs) (j - i)
boundary_rest xs i j h b =
    let len = length-drop i xs in
    let offset : i + (j - i) ≡ j = omega arith in
    let within : j ≤ length xs = b.0 in
    let same : get_or (drop i xs) (j - i) 0 ≡ get_or xs j 0 = get_or-drop i xs (j - i) 0
    ∙ ap (λ n. get_or xs n 0) offset in (
      omega arith,
      λ lt big. subst (λ n. 192 ≤ n) (sym same)
          (b.1 (omega arith) (subst (λ n. 128 ≤ n) same big)),
    )

-- what is dropped up to j is dropped up to i and then up to j
drop_back : (xs : List ℕ) (i j : ℕ) → i ≤ j → drop (j - i) (drop i xs) ≡ drop j xs
drop_back xs i j h = drop-drop (j - i) i xs ∙ ap (λ n. drop n xs) (omega arith)

-- the number of characters after two boundaries
pub chars_between : (xs : List ℕ) (i j : ℕ) → IsUtf8 xs → i ≤ j → IsCharBoundary xs i
    → IsCharBoundary xs j
    → chars (drop i xs) ≡ chars (take (j - i) (drop i xs)) ++ chars (drop j xs)
chars_between xs i j utf8 h a b =
    ap chars (sym (take-append-drop (j - i) (drop i xs)))
    ∙ chars-append (take (j - i) (drop i xs)) (drop (j - i) (drop i xs))
    (IsUtf8-between xs i j utf8 h a b)
    ∙ ap (λ w. chars (take (j - i) (drop i xs)) ++ chars w) (drop_back xs i j h)

-- two characters after an offset are after each earlier one
pub two_earlier : (xs : List ℕ) (i j : ℕ) → IsUtf8 xs → i ≤ j → IsCharBoundary xs i
    → IsCharBoundary xs j → HasTwo (drop j xs) → HasTwo (drop i xs)
two_earlier xs i j utf8 h a b two =
    omega (
      arith,
      ap length (chars_between xs i j utf8 h a b),
      length-append
          (chars (take (j - i) (drop i xs))) (chars (drop j xs)),
    )

-- two texts begin with the same text, in which m is followed by two characters
pub record Shares (same rest other : List ℕ) (m : ℕ) : Type 0 where
  pub same_utf8 : IsUtf8 same
  pub rest_utf8 : IsUtf8 rest
  pub other_utf8 : IsUtf8 other
  pub boundary : IsCharBoundary same m
  pub two : HasTwo (drop m same)
  pub inside : m < length same

-- tokens read at a start or not
kept_none : (t : Tells) (s : Bool) (u : List ℕ)
    → tokens_from t 0 s u ≡ tokens_from t 0 (s && true) u
kept_none t true u = refl
kept_none t false u = refl

-- a number above 0 is not 0
pub above_zero : (n : ℕ) → 0 < n → eqb n 0 ≡ false
above_zero n h = grind (arith, nat_tests)

-- nor at the start
flag_off : (s : Bool) (n : ℕ) → 0 < n → (s && eqb n 0) ≡ false
flag_off true n h = grind (arith, nat_tests)
flag_off false n h = refl

-- tokens that end at m or before are the same in both texts, and then come those of what is left
pub shared_tokens : (t : Tells) → IsLawful t
    → (s : Bool) (xs ys : List Token) (same rest other : List ℕ) (m : ℕ) → Shares same rest other m
    → tokens_from t 0 s (same ++ rest) ≡ xs ++ ys → total_len xs ≤ m
    → tokens_from t 0 s (same ++ other) ≡ xs ++ tokens_from t 0 (s && eqb (total_len xs) 0)
    (drop (total_len xs) (same ++ other))
shared_tokens t law s [] ys same rest other m shares e h = kept_none t s (same ++ other)
shared_tokens t law s (x ∷ xs) ys same rest other m shares e h =
    let f = first_of t law s (same ++ rest) x (xs ++ ys)
    (IsUtf8-append same rest shares.same_utf8 shares.rest_utf8) e in
    let inside : m < length same = shares.inside in
    let some : 0 < x.len = f.some in
    let low : x.len < length same = omega arith in
    let cut = boundary_front same rest x.len low f.boundary in
    let token_utf8 = IsUtf8-take same x.len shares.same_utf8 cut in
    let more_utf8 = IsUtf8-drop same x.len shares.same_utf8 cut in
    let two = two_earlier same x.len m shares.same_utf8 (omega arith) cut shares.boundary shares.two
    in
    let token_len : length (take x.len same) ≡ x.len = length-take-le x.len same (omega arith) in
    let split : same ≡ take x.len same ++ drop x.len same = sym (take-append-drop x.len same) in
    let parts : (ws : List ℕ) → same ++ ws ≡ take x.len same ++ (drop x.len same ++ ws) =
    λ ws. ap (λ w. w ++ ws) split ∙ append_assoc (take x.len same) (drop x.len same) ws in
    let len : (t.token_at s (take x.len same ++ (drop x.len same ++ rest))).len ≡ length
    (take x.len same) =
    ap (λ w. (t.token_at s w).len) (sym (parts rest)) ∙ ap (λ (y : Token). y.len) (sym f.token)
    ∙ sym token_len in
    let looks = law.looks s (take x.len same) (drop x.len same) rest other token_utf8 more_utf8
    shares.rest_utf8 shares.other_utf8 two len in
    let is : t.token_at s (same ++ other) ≡ x = ap (t.token_at s) (parts other) ∙ looks
    ∙ ap (t.token_at s) (sym (parts rest)) ∙ sym f.token in
    let first = tokens_first t law s (same ++ other)
    (IsUtf8-append same other shares.same_utf8 shares.other_utf8)
    (omega (arith, length-append same other)) in
    let after : drop x.len (same ++ other) ≡ drop x.len same ++ other =
    drop-append-le x.len same other (omega arith) in
    let after_old : drop x.len (same ++ rest) ≡ drop x.len same ++ rest =
    drop-append-le x.len same rest (omega arith) in
    let more : Shares (drop x.len same) rest other (m - x.len) = record {
      same_utf8 = more_utf8;
      rest_utf8 = shares.rest_utf8;
      other_utf8 = shares.other_utf8;
      boundary = boundary_rest same x.len m (omega arith) shares.boundary;
      two = subst HasTwo (sym (drop_back same x.len m (omega arith))) shares.two;
      inside = omega (arith, length-drop x.len same);
    } in
    let tail = shared_tokens t law false xs ys (drop x.len same) rest other (m - x.len) more
    (ap (tokens_from t 0 false) (sym after_old) ∙ f.rest) (omega arith) in
    let last : drop (total_len xs) (drop x.len same ++ other) ≡ drop (x.len + total_len xs)
    (same ++ other) = ap (drop (total_len xs)) (sym after)
    ∙ drop-drop (total_len xs) x.len (same ++ other) in
    first
    ∙ ap (λ (y : Token). y ∷ tokens_from t 0 false (drop y.len (same ++ other))) is
    ∙ ap (λ w. x ∷ tokens_from t 0 false w) after
    ∙ ap (λ ts. x ∷ ts) tail
    ∙ ap (λ w. (x ∷ xs) ++ tokens_from t 0 false w) last
    ∙ ap (λ b. (x ∷ xs) ++ tokens_from t 0 b (drop (x.len + total_len xs) (same ++ other)))
    (sym (flag_off s (x.len + total_len xs) (omega arith)))
