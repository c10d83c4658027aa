-- How root children follow from tokens.
use Rattle.std.proofs.Common.{◌≡◌, ℕ, zero, suc, ◌+◌, ◌-◌, ◌<◌, ◌≤◌, true, false, List, [], ◌∷◌, ◌++◌, length, take, drop, refl, sym, ◌∙◌, ap, subst, arith, length-append, length-drop, append_assoc}
use Rattle.std.proofs.lemmas.List.{append-nil, drop-drop, take-append-drop, drop_at, take_at, drop-append-le, take-append-le, length-take-le}
use Rattle.std.specs.Str.{IsUtf8}
use Rattle.squawk_lexer.specs.declared.token.Token.{Token}
use Rattle.squawk_cut.specs.ChildValue.{ChildValue}
use Rattle.squawk_cut.specs.Tells.{Tells, IsLawful, TextToken, text_token_bytes}
use Rattle.squawk_cut.specs.Tokens.{tokens_from, tokens_of}
use Rattle.squawk_cut.specs.Children.{text_tokens, children_from}
use Rattle.squawk_document.specs.Boundaries.{splice, total_len}
use Rattle.squawk_document.specs.FrontPart.{AllClosed, child_tokens}
use Rattle.squawk_cut.specs.Join.{child_bytes}
use Rattle.squawk_cut.specs.Children.{children_of}
use Rattle.squawk_document.proofs.OffsetTests.{Positive}
use Rattle.squawk_document.proofs.Cutting.{tokens_total, tokens_positive}
use Rattle.squawk_document.proofs.TokenEditSteps.{from_end, after_range}

-- ---- tokens with their texts

-- there are as many text_tokens as tokens
pub length_text_tokens : (u : List ℕ) (ts : List Token) → length (text_tokens u ts) ≡ length ts
length_text_tokens u [] = refl
length_text_tokens u (x ∷ xs) = ap suc (length_text_tokens (drop x.len u) xs)

-- text_tokens have the bytes of their tokens
pub bytes_text_tokens : (u : List ℕ) (ts : List Token) → text_token_bytes (text_tokens u ts)
    ≡ total_len ts
bytes_text_tokens u [] = refl
bytes_text_tokens u (x ∷ xs) = ap (λ n. x.len + n) (bytes_text_tokens (drop x.len u) xs)

-- the text_tokens of appended tokens
pub text_tokens_append : (u : List ℕ) (xs ys : List Token)
    → text_tokens u (xs ++ ys) ≡ text_tokens u xs ++ text_tokens (drop (total_len xs) u) ys
text_tokens_append u [] ys = refl
text_tokens_append u (x ∷ xs) ys =
    ap (λ ls. record { token = x; text = take x.len u } ∷ ls)
    (text_tokens_append (drop x.len u) xs ys
    ∙ ap (λ w. text_tokens (drop x.len u) xs ++ text_tokens w ys)
    (drop-drop (total_len xs) x.len u))

-- the texts of tokens that lie in a part that two texts share
pub text_tokens_shared : (same rest other : List ℕ) (ts : List Token) → total_len ts ≤ length same
    → text_tokens (same ++ rest) ts ≡ text_tokens (same ++ other) ts
text_tokens_shared same rest other [] h = refl
text_tokens_shared same rest other (x ∷ xs) h =
    let low : x.len ≤ length same = omega arith in
    let head : take x.len (same ++ rest) ≡ take x.len (same ++ other) =
    take-append-le x.len same rest low ∙ sym (take-append-le x.len same other low) in
    let left = drop-append-le x.len same rest low in
    let right = drop-append-le x.len same other low in
    let tail = text_tokens_shared (drop x.len same) rest other xs
    (omega (arith, length-drop x.len same)) in
    ap (λ w. record { token = x; text = w } ∷ text_tokens (drop x.len (same ++ rest)) xs) head
    ∙ ap (λ ls. record { token = x; text = take x.len (same ++ other) } ∷ ls)
    (ap (λ w. text_tokens w xs) left ∙ tail ∙ ap (λ w. text_tokens w xs) (sym right))

-- the text_tokens after the first k are those of the tokens after the first k
pub drop_text_tokens : (u : List ℕ) (ts : List Token) (k : ℕ) → k ≤ length ts
    → drop k (text_tokens u ts) ≡ text_tokens (drop (total_len (take k ts)) u) (drop k ts)
drop_text_tokens u ts k h =
    ap (λ xs. drop k (text_tokens u xs)) (sym (take-append-drop k ts))
    ∙ ap (drop k) (text_tokens_append u (take k ts) (drop k ts))
    ∙ drop_at (text_tokens u (take k ts))
    (text_tokens (drop (total_len (take k ts)) u) (drop k ts)) k
    (length_text_tokens u (take k ts) ∙ length-take-le k ts h)

-- the first k text_tokens are those of the first k tokens
pub take_text_tokens : (u : List ℕ) (ts : List Token) (k : ℕ) → k ≤ length ts
    → take k (text_tokens u ts) ≡ text_tokens u (take k ts)
take_text_tokens u ts k h =
    ap (λ xs. take k (text_tokens u xs)) (sym (take-append-drop k ts))
    ∙ ap (take k) (text_tokens_append u (take k ts) (drop k ts))
    ∙ take_at (text_tokens u (take k ts))
    (text_tokens (drop (total_len (take k ts)) u) (drop k ts)) k
    (length_text_tokens u (take k ts) ∙ length-take-le k ts h)

-- ---- children, one by one

-- the children after n tokens inside one are those of the remaining tokens
children_inside : (t : Tells) (n : ℕ) (xs : List TextToken)
    → children_from t n xs ≡ children_from t 0 (drop n xs)
children_inside t zero xs = refl
children_inside t (suc n) [] = refl
children_inside t (suc n) (x ∷ xs) = children_inside t n xs

-- n elements dropped from a list are n - 1 dropped from its tail
drop_end : (n : ℕ) (x : TextToken) (xs : List TextToken) → 0 < n → drop (n - 1) xs ≡ drop n (x ∷ xs)
drop_end zero x xs h = absurd (omega arith)
drop_end (suc n) x xs h = ap (λ m. drop m xs) (omega arith)

-- the first child, and those of the tokens after it
pub children_first : (t : Tells) → IsLawful t → (xs : List TextToken) → 0 < length xs
    → children_from t 0 xs ≡ t.child_at xs ∷ children_from t 0 (drop (t.child_at xs).tokens xs)
children_first t law [] h = absurd (omega arith)
children_first t law (x ∷ xs) h =
    ap (λ cs. t.child_at (x ∷ xs) ∷ cs) (children_inside t ((t.child_at (x ∷ xs)).tokens - 1) xs
    ∙ ap (children_from t 0)
    (drop_end (t.child_at (x ∷ xs)).tokens x xs (law.child_some (x ∷ xs) h)))

-- what is known of the first child
pub record IsFirstChild (t : Tells) (xs : List TextToken) (c : ChildValue)
    (cs : List ChildValue) : Type 0 where
  pub child : c ≡ t.child_at xs
  pub some : 0 < c.tokens
  pub within : c.tokens ≤ length xs
  pub bytes : c.bytes ≡ text_token_bytes (take c.tokens xs)
  pub rest : children_from t 0 (drop c.tokens xs) ≡ cs

-- what is known of the first child of a list of text_tokens
pub first_child : (t : Tells) → IsLawful t
    → (xs : List TextToken) (c : ChildValue) (cs : List ChildValue) → children_from t 0 xs ≡ c ∷ cs
    → IsFirstChild t xs c cs
first_child t law [] c cs e = absurd (cc)
first_child t law (x ∷ xs) c cs e =
    let all = x ∷ xs in
    let h : 0 < length all = omega arith in
    let first = children_first t law all h in
    let is : c ≡ t.child_at all = cc in
    let rest : children_from t 0 (drop (t.child_at all).tokens all) ≡ cs = cc in
    record {
      child = is;
      some = subst (λ (d : ChildValue). 0 < d.tokens) (sym is) (law.child_some all h);
      within = subst (λ (d : ChildValue). d.tokens ≤ length all) (sym is) (law.child_within all h);
      bytes = subst (λ (d : ChildValue). d.bytes ≡ text_token_bytes (take d.tokens all)) (sym is)
          (law.child_bytes all h);
      rest = ap (λ (d : ChildValue). children_from t 0 (drop d.tokens all)) is ∙ rest;
    }

-- the bytes of the first m + n text_tokens
bytes_split : (m n : ℕ) (xs : List TextToken)
    → text_token_bytes (take (m + n) xs)
    ≡ text_token_bytes (take m xs) + text_token_bytes (take n (drop m xs))
bytes_split zero n xs = let same : 0 + n ≡ n = omega arith in
    ap (λ k. text_token_bytes (take k xs)) same ∙ omega arith
bytes_split (suc m) zero [] = let one : suc m + 0 ≡ suc m = omega arith in
    ap (λ k. text_token_bytes (take k [])) one ∙ omega arith
bytes_split (suc m) (suc n) [] = let one : suc m + suc n ≡ suc (m + suc n) = omega arith in
    ap (λ k. text_token_bytes (take k [])) one ∙ omega arith
bytes_split (suc m) n (x ∷ xs) =
    let one : suc m + n ≡ suc (m + n) = omega arith in
    ap (λ k. text_token_bytes (take k (x ∷ xs))) one ∙ omega (arith, bytes_split m n xs)

-- after some children come those of the remaining tokens
pub record IsRestOf (t : Tells) (xs : List TextToken) (cs ds : List ChildValue) : Type 0 where
  pub children : ds ≡ children_from t 0 (drop (child_tokens cs) xs)
  pub within : child_tokens cs ≤ length xs
  pub bytes : child_bytes cs ≡ text_token_bytes (take (child_tokens cs) xs)

-- the children after some children, and what these hold of the tokens
pub rest_of : (t : Tells) → IsLawful t → (xs : List TextToken) (cs ds : List ChildValue)
    → children_from t 0 xs ≡ cs ++ ds → IsRestOf t xs cs ds
rest_of t law xs [] ds e = record { children = sym e; within = omega arith; bytes = refl }
rest_of t law xs (c ∷ cs) ds e =
    let f = first_child t law xs c (cs ++ ds) e in
    let r = rest_of t law (drop c.tokens xs) cs ds f.rest in
    record {
      children = r.children ∙ ap (children_from t 0) (drop-drop (child_tokens cs) c.tokens xs);
      within = omega (arith, r.within, f.within, length-drop c.tokens xs);
      bytes = omega (arith, r.bytes, f.bytes, bytes_split c.tokens (child_tokens cs) xs);
    }

-- ---- children that two texts share

-- closed children within tokens that two lists begin with are the same in both
pub shared_children : (t : Tells) → IsLawful t
    → (same rest other : List TextToken) (cs ds : List ChildValue) → AllClosed cs
    → child_tokens cs ≤ length same → children_from t 0 (same ++ rest) ≡ cs ++ ds
    → children_from t 0 (same ++ other) ≡ cs ++ children_from t 0
    (drop (child_tokens cs) (same ++ other))
shared_children t law same rest other [] ds closed h e = refl
shared_children t law same rest other (c ∷ cs) ds closed h e =
    let f = first_child t law (same ++ rest) c (cs ++ ds) e in
    let low : c.tokens ≤ length same = omega arith in
    let split : (ws : List TextToken) → same ++ ws ≡ take c.tokens same
    ++ (drop c.tokens same ++ ws) =
    λ ws. ap (λ xs. xs ++ ws) (sym (take-append-drop c.tokens same))
    ∙ append_assoc (take c.tokens same) (drop c.tokens same) ws in
    let len : length (take c.tokens same) ≡ c.tokens = length-take-le c.tokens same low in
    let old_is : t.child_at (take c.tokens same ++ (drop c.tokens same ++ rest)) ≡ c =
    ap t.child_at (sym (split rest)) ∙ sym f.child in
    let stays = law.stays (take c.tokens same) (drop c.tokens same ++ rest)
    (drop c.tokens same ++ other) (ap (λ (d : ChildValue). d.closed) old_is ∙ closed.0)
    (ap (λ (d : ChildValue). d.tokens) old_is ∙ sym len) in
    let is : t.child_at (same ++ other) ≡ c = ap t.child_at (split other) ∙ stays ∙ old_is in
    let some : 0 < c.tokens = f.some in
    let first = children_first t law (same ++ other) (omega (arith, length-append same other)) in
    let after_old = drop-append-le c.tokens same rest low in
    let after = drop-append-le c.tokens same other low in
    let tail = shared_children t law (drop c.tokens same) rest other cs ds closed.1
    (omega (arith, length-drop c.tokens same)) (ap (children_from t 0) (sym after_old) ∙ f.rest)
    in
    first
    ∙ ap (λ (d : ChildValue). d ∷ children_from t 0 (drop d.tokens (same ++ other))) is
    ∙ ap (λ xs. c ∷ children_from t 0 xs) after
    ∙ ap (λ ds. c ∷ ds) tail
    ∙ ap (λ xs. (c ∷ cs) ++ children_from t 0 xs)
    (ap (drop (child_tokens cs)) (sym after)
    ∙ drop-drop (child_tokens cs) c.tokens (same ++ other))

-- ---- from a common offset on

-- the children after some, by the offset at which these end
pub children_after : (t : Tells) → IsLawful t
    → (u : List ℕ) (c : ChildValue) (cs ds : List ChildValue) → IsUtf8 u
    → children_of t u ≡ (c ∷ cs) ++ ds
    → ds ≡ children_from t 0
    (text_tokens (drop (child_bytes (c ∷ cs)) u)
    (tokens_from t 0 false (drop (child_bytes (c ∷ cs)) u)))
children_after t law u c cs ds utf8 e =
    let ts = tokens_of t u in
    let k = child_tokens (c ∷ cs) in
    let r = rest_of t law (text_tokens u ts) (c ∷ cs) ds e in
    let within : k ≤ length ts = subst (λ n. k ≤ n) (length_text_tokens u ts) r.within in
    let bytes : child_bytes (c ∷ cs) ≡ total_len (take k ts) = r.bytes
    ∙ ap text_token_bytes (take_text_tokens u ts k within) ∙ bytes_text_tokens u (take k ts) in
    let f = first_child t law (text_tokens u ts) c (cs ++ ds) e in
    let some : 0 < k = omega (arith, f.some) in
    let filled : 0 < total_len (take k ts) = some_total ts k utf8 refl some within in
    let tokens : drop k ts ≡ tokens_from t 0 false (drop (total_len (take k ts)) u) =
    from_end t law u ts k utf8 refl filled in
    r.children
    ∙ ap (children_from t 0) (drop_text_tokens u ts k within)
    ∙ ap (λ xs. children_from t 0 (text_tokens (drop (total_len (take k ts)) u) xs)) tokens
    ∙ ap (λ n. children_from t 0 (text_tokens (drop n u) (tokens_from t 0 false (drop n u))))
    (sym bytes)
  where
    positive_take : (xs : List Token) (k : ℕ) → Positive xs → 0 < k → k ≤ length xs
        → 0 < total_len (take k xs)
    positive_take [] k p some within = absurd (omega arith)
    positive_take (x ∷ xs) zero p some within = absurd (omega arith)
    positive_take (x ∷ xs) (suc k) p some within = let first : 0 < x.len = p.0 in omega arith

    some_total : (ts : List Token) (k : ℕ) → IsUtf8 u → tokens_of t u ≡ ts → 0 < k → k ≤ length ts
        → 0 < total_len (take k ts)
    some_total ts k utf8 is some within =
        positive_take ts k (tokens_positive t law true u ts utf8 is) some within

-- if children end at an offset of the old text and at its new offset, the same children follow
pub back_same : (t : Tells) → IsLawful t
    → (text new : List ℕ) (start end : ℕ) (c d : ChildValue)
    (cs ds old_rest new_rest : List ChildValue) → IsUtf8 text → IsUtf8 (splice text start end new)
    → start ≤ length text
    → children_of t text ≡ (c ∷ cs) ++ old_rest
    → children_of t (splice text start end new) ≡ (d ∷ ds) ++ new_rest
    → start + length new ≤ child_bytes (d ∷ ds)
    → child_bytes (c ∷ cs) ≡ child_bytes (d ∷ ds) - (start + length new) + end
    → new_rest ≡ old_rest
back_same t law text new start end c d cs ds old_rest new_rest utf8 new_utf8 inside old_is new_is
    low offset =
    let same = after_range text new start end (child_bytes (d ∷ ds)) (child_bytes (c ∷ cs)) inside
    low offset in
    children_after t law (splice text start end new) d ds new_rest new_utf8 new_is
    ∙ ap (λ w. children_from t 0 (text_tokens w (tokens_from t 0 false w))) same
    ∙ sym (children_after t law text c cs old_rest utf8 old_is)

-- the first n text_tokens have no more bytes than all
take_bytes : (n : ℕ) (xs : List TextToken) → text_token_bytes (take n xs) ≤ text_token_bytes xs
take_bytes zero xs = omega arith
take_bytes (suc n) [] = omega arith
take_bytes (suc n) (x ∷ xs) = omega (arith, take_bytes n xs)

-- the children of a text have no more bytes than it
pub children_bytes : (t : Tells) → IsLawful t → (u : List ℕ) (cs : List ChildValue) → IsUtf8 u
    → cs ≡ children_of t u → child_bytes cs ≤ length u
children_bytes t law u cs utf8 is =
    let xs : List TextToken = text_tokens u (tokens_of t u) in
    let r = rest_of t law xs cs [] (sym is ∙ sym (append-nil cs)) in
    omega (
      arith,
      r.bytes,
      take_bytes (child_tokens cs) xs,
      bytes_text_tokens u
          (tokens_of t u),
      tokens_total t law true u (tokens_of t u) utf8 refl,
    )
