-- The children after an edit are those of the new text, and its counts are those that compare both
-- texts.
use Rattle.std.proofs.Common.{◌≡◌, ℕ, zero, suc, ◌+◌, ◌-◌, ◌<◌, ◌≤◌, true, not, nat_lt, List, [], ◌∷◌, ◌++◌, length, take, drop, refl, sym, ◌∙◌, ap, subst, arith, append_assoc, length-drop, length-append, Some}
use Rattle.std.proofs.lemmas.List.{take-append-drop, length-take-le, take-append-le, take-take}
use Rattle.std.specs.Str.{IsUtf8}
use Rattle.squawk_lexer.specs.declared.token.Token.{Token}
use Rattle.squawk_cut.specs.ChildValue.{ChildValue}
use Rattle.squawk_cut.specs.Tells.{Tells, IsLawful, TextToken, text_token_bytes}
use Rattle.squawk_cut.specs.Tokens.{tokens_of}
use Rattle.squawk_cut.specs.Children.{text_tokens, children_from}
use Rattle.squawk_document.specs.Boundaries.{new_offset, splice, total_len}
use Rattle.squawk_document.specs.ChildEdit.{EndsAtReturn, ReturnsNowhere, children_at, is_new_return}
use Rattle.squawk_document.specs.ChildEnds.{is_quiet}
use Rattle.squawk_document.specs.EditedChildren.{back_children, front_children}
use Rattle.squawk_document.specs.FrontPart.{AreAligned, AllClosed, StopsBefore, child_tokens}
use Rattle.squawk_cut.specs.Join.{child_bytes}
use Rattle.std.proofs.lemmas.Bool.Decides.{nat_tests}
use Rattle.squawk_cut.specs.Children.{children_of}
use Rattle.squawk_document.specs.declared.skip.Position.{Position}
use Rattle.squawk_document.proofs.OffsetTests.{not_true, Positive, and_parts}
use Rattle.squawk_document.proofs.Cutting.{tokens_positive}
use Rattle.squawk_document.proofs.ChildCutting.{length_text_tokens, bytes_text_tokens, text_tokens_append, text_tokens_shared, drop_text_tokens, take_text_tokens, first_child, IsRestOf, rest_of, shared_children, back_same}
use Rattle.squawk_document.proofs.ChildMeeting.{IsMeetingOffset, child_bytes-append, back_children_none, back_children_some, front_children_are}

-- where fewer bytes are taken, fewer tokens are
fewer_tokens : (ts : List Token) (i j : ℕ) → Positive ts → i ≤ length ts
    → total_len (take i ts) ≤ total_len (take j ts) → i ≤ j
fewer_tokens ts zero j p h e = omega arith
fewer_tokens [] (suc i) j p h e = absurd (omega arith)
fewer_tokens (x ∷ xs) (suc i) zero p h e = absurd (let some : 0 < x.len = p.0 in omega arith)
fewer_tokens (x ∷ xs) (suc i) (suc j) p h e =
    omega (arith, fewer_tokens xs i j p.1 (omega arith) (omega arith))

-- the children of a text lie along its tokens
pub aligned : (t : Tells) → IsLawful t
    → (text : List ℕ) (tokens : List Token) (children : List ChildValue) → tokens ≡ tokens_of t text
    → children ≡ children_of t text → AreAligned tokens children
aligned t law text tokens children is children_are =
    record { bytes = λ n. bytes n; within = λ n. within n }
  where
    rest : (n : ℕ) → IsRestOf t (text_tokens text tokens) (take n children) (drop n children)
    rest n = rest_of t law (text_tokens text tokens) (take n children) (drop n children)
        (ap (λ ts. children_from t 0 (text_tokens text ts)) is ∙ sym children_are
        ∙ sym (take-append-drop n children))

    within : (n : ℕ) → child_tokens (take n children) ≤ length tokens
    within n = subst (λ k. child_tokens (take n children) ≤ k) (length_text_tokens text tokens)
        (rest n).within

    bytes : (n : ℕ) → child_bytes (take n children) ≡ total_len
        (take (child_tokens (take n children)) tokens)
    bytes n = (rest n).bytes
        ∙ ap text_token_bytes
        (take_text_tokens text tokens (child_tokens (take n children)) (within n))
        ∙ bytes_text_tokens text (take (child_tokens (take n children)) tokens)

-- what is known before the parses: the tokens of both texts begin with the same ones, which lie in
-- a part that the texts share
pub record IsChildrenPrepared (t : Tells) (same rest other : List ℕ) (old new_tokens : List Token)
    (front : ℕ) (children : List ChildValue) (front_len : ℕ) : Type 0 where
  pub utf8 : IsUtf8 (same ++ rest)
  pub tokens : old ≡ tokens_of t (same ++ rest)
  pub new_tokens_are : new_tokens ≡ tokens_of t (same ++ other)
  pub children_are : children ≡ children_of t (same ++ rest)
  pub front_within : front ≤ length old
  pub shared : total_len (take front old) ≤ length same
  pub first : new_tokens ≡ take front old ++ drop front new_tokens
  pub closed : AllClosed (take front_len children)
  pub low : child_bytes (take front_len children) ≤ total_len (take front old)
  pub stopped : StopsBefore (drop front_len children)
      (total_len (take front old) - child_bytes (take front_len children))
  pub within : front_len ≤ length children

-- what the front children give: the rest of the new children, their count, and the next token
pub record IsChildrenFront (t : Tells) (same other : List ℕ) (old new_tokens : List Token)
    (front : ℕ) (children : List ChildValue) (front_len : ℕ) : Type 0 where
  pub new_children_are : children_of t (same ++ other) ≡ take front_len children ++ children_at t
      (same ++ other) new_tokens (child_bytes (take front_len children))
      (child_tokens (take front_len children))
  pub count : front_children front old children ≡ front_len
  pub index : child_bytes (take front_len children) ≡ total_len
      (take (child_tokens (take front_len children)) new_tokens)
  pub index_within : child_tokens (take front_len children) ≤ length new_tokens

-- closed children within front tokens are the front children of both texts
pub children_front : (t : Tells) → IsLawful t
    → (same rest other : List ℕ) (old new_tokens : List Token) (front : ℕ)
    (children : List ChildValue) (front_len : ℕ)
    → IsChildrenPrepared t same rest other old new_tokens front children front_len
    → IsChildrenFront t same other old new_tokens front children front_len
children_front t law same rest other old new_tokens front children front_len p =
    let cs = take front_len children in
    let ds = drop front_len children in
    let fr = take front old in
    let all : children_from t 0 (text_tokens (same ++ rest) old) ≡ cs ++ ds =
    ap (λ ts. children_from t 0 (text_tokens (same ++ rest) ts)) p.tokens ∙ sym p.children_are
    ∙ sym (take-append-drop front_len children) in
    let r = rest_of t law (text_tokens (same ++ rest) old) cs ds all in
    let n = child_tokens cs in
    let n_in : n ≤ length old = subst (λ k. n ≤ k)
    (length_text_tokens (same ++ rest) old) r.within in
    let bytes_is : child_bytes cs ≡ total_len (take n old) = r.bytes
    ∙ ap text_token_bytes (take_text_tokens (same ++ rest) old n n_in)
    ∙ bytes_text_tokens (same ++ rest) (take n old) in
    let pos = tokens_positive t law true (same ++ rest) old p.utf8 (sym p.tokens) in
    let n_front : n ≤ front = fewer_tokens old n front pos n_in
    (subst (λ k. k ≤ total_len fr) bytes_is p.low) in
    let fr_len : length fr ≡ front = length-take-le front old p.front_within in
    let old_split : text_tokens (same ++ rest) old ≡ text_tokens (same ++ rest) fr ++ text_tokens
    (drop (total_len fr) (same ++ rest)) (drop front old) =
    ap (text_tokens (same ++ rest)) (sym (take-append-drop front old))
    ∙ text_tokens_append (same ++ rest) fr (drop front old) in
    let shared : text_tokens (same ++ other) fr ≡ text_tokens (same ++ rest) fr =
    text_tokens_shared same other rest fr p.shared in
    let new_split : text_tokens (same ++ other) new_tokens ≡ text_tokens (same ++ rest) fr
    ++ text_tokens
    (drop (total_len fr) (same ++ other)) (drop front new_tokens) =
    ap (text_tokens (same ++ other)) p.first
    ∙ text_tokens_append (same ++ other) fr (drop front new_tokens)
    ∙ ap (λ ls. ls ++ text_tokens (drop (total_len fr) (same ++ other)) (drop front new_tokens))
    shared in
    let shared_len : n ≤ length (text_tokens (same ++ rest) fr) =
    omega (arith, length_text_tokens (same ++ rest) fr) in
    let kept_are = shared_children t law (text_tokens (same ++ rest) fr)
    (text_tokens (drop (total_len fr) (same ++ rest)) (drop front old))
    (text_tokens (drop (total_len fr) (same ++ other)) (drop front new_tokens)) cs ds p.closed
    shared_len (ap (children_from t 0) (sym old_split) ∙ all) in
    let first_len : length new_tokens ≡ length fr + length (drop front new_tokens) =
    ap length p.first ∙ length-append fr (drop front new_tokens) in
    let new_in : n ≤ length new_tokens = omega arith in
    let takes : take n new_tokens ≡ take n old = ap (take n) p.first
    ∙ take-append-le n fr (drop front new_tokens) (omega arith)
    ∙ take-take n front old n_front in
    let index : child_bytes cs ≡ total_len (take n new_tokens) = bytes_is
    ∙ ap total_len (sym takes) in
    record {
      new_children_are = ap (λ ts. children_from t 0 (text_tokens (same ++ other) ts))
          (sym p.new_tokens_are) ∙ ap (children_from t 0) new_split ∙ kept_are
          ∙ ap (λ ls. cs ++ children_from t 0 (drop n ls)) (sym new_split)
          ∙ ap (λ ls. cs ++ children_from t 0 ls)
          (drop_text_tokens (same ++ other) new_tokens n new_in)
          ∙ ap (λ k. cs
          ++ children_from t 0 (text_tokens (drop k (same ++ other)) (drop n new_tokens)))
          (sym index);
      count = ap (front_children front old) (sym (take-append-drop front_len children))
          ∙ front_children_are front old cs ds p.closed p.low p.stopped
          ∙ length-take-le front_len children p.within;
      index = index;
      index_within = new_in;
    }

-- each child has a byte at least
abbrev pub PositiveChildren : List ChildValue → Type 0
PositiveChildren [] = Unit {0}
PositiveChildren (c ∷ cs) = (0 < c.bytes) × PositiveChildren cs

-- each lexeme has a byte at least
abbrev pub PositiveTextTokens : List TextToken → Type 0
PositiveTextTokens [] = Unit {0}
PositiveTextTokens (x ∷ xs) = (0 < x.token.len) × PositiveTextTokens xs

-- the text_tokens of tokens with a byte have one
text_tokens_positive : (u : List ℕ) (ts : List Token) → Positive ts
    → PositiveTextTokens (text_tokens u ts)
text_tokens_positive u [] p = tt
text_tokens_positive u (x ∷ xs) p = (p.0, text_tokens_positive (drop x.len u) xs p.1)

-- so have those after the first n
drop_positive : (n : ℕ) (xs : List TextToken) → PositiveTextTokens xs
    → PositiveTextTokens (drop n xs)
drop_positive zero xs p = p
drop_positive (suc n) [] p = tt
drop_positive (suc n) (x ∷ xs) p = drop_positive n xs p.1

-- some of them have a byte
taken_some : (n : ℕ) (xs : List TextToken) → PositiveTextTokens xs → 0 < n → n ≤ length xs
    → 0 < text_token_bytes (take n xs)
taken_some zero xs p h l = absurd (omega arith)
taken_some (suc n) [] p h l = absurd (omega arith)
taken_some (suc n) (x ∷ xs) p h l = let first : 0 < x.token.len = p.0 in omega arith

-- each child has a byte at least
children_positive : (t : Tells) → IsLawful t → (xs : List TextToken) (cs : List ChildValue)
    → PositiveTextTokens xs → children_from t 0 xs ≡ cs → PositiveChildren cs
children_positive t law xs [] p e = tt
children_positive t law xs (c ∷ cs) p e =
    let f = first_child t law xs c cs e in (
      omega (arith, f.bytes, taken_some c.tokens xs p f.some f.within),
      children_positive t law
          (drop c.tokens xs) cs (drop_positive c.tokens xs p) f.rest,
    )

-- each child of a text has a byte at least
pub children_of_positive : (t : Tells) → IsLawful t → (u : List ℕ) (cs : List ChildValue) → IsUtf8 u
    → cs ≡ children_of t u → PositiveChildren cs
children_of_positive t law u cs utf8 is =
    children_positive t law (text_tokens u (tokens_of t u)) cs
    (text_tokens_positive u (tokens_of t u)
    (tokens_positive t law true u (tokens_of t u) utf8 refl)) (sym is)

-- children with a byte have a last one
pub record LastChild (xs : List ChildValue) : Type 0 where
  pub earlier : List ChildValue
  pub last : ChildValue
  pub parts : xs ≡ earlier ++ last ∷ []
  pub some : 0 < last.bytes

-- a list of children that is not empty has a last one
split_last : (x : ChildValue) (xs : List ChildValue) → PositiveChildren (x ∷ xs)
    → LastChild (x ∷ xs)
split_last x [] p = record { earlier = []; last = x; parts = refl; some = p.0 }
split_last x (y ∷ ys) p = let l = split_last y ys p.1 in
    record {
      earlier = x ∷ l.earlier;
      last = l.last;
      parts = ap (λ cs. x ∷ cs) l.parts;
      some =
          l.some;
    }

-- children with a byte have a last one
some_last : (xs : List ChildValue) → PositiveChildren xs → 0 < child_bytes xs → LastChild xs
some_last [] p h = absurd (omega arith)
some_last (x ∷ xs) p h = split_last x xs p

-- each of the first n children has a byte at least
take_positive : (n : ℕ) (xs : List ChildValue) → PositiveChildren xs → PositiveChildren (take n xs)
take_positive zero xs p = tt
take_positive (suc n) [] p = tt
take_positive (suc n) (x ∷ xs) p = (p.0, take_positive n xs p.1)

-- appended closed children are closed
AllClosed_both : (xs ys : List ChildValue) → AllClosed xs → AllClosed ys → AllClosed (xs ++ ys)
AllClosed_both [] ys a b = b
AllClosed_both (x ∷ xs) ys a b = (a.0, AllClosed_both xs ys a.1 b)

-- the same children follow, where both lists of children before are not empty
same_after : (t : Tells) → IsLawful t
    → (text new : List ℕ) (start end : ℕ) (cs ds old_rest new_rest : List ChildValue) → IsUtf8 text
    → IsUtf8 (splice text start end new) → start ≤ length text
    → children_of t text ≡ cs ++ old_rest
    → children_of t (splice text start end new) ≡ ds ++ new_rest → 0 < child_bytes cs
    → 0 < child_bytes ds
    → start + length new ≤ child_bytes ds
    → child_bytes cs ≡ child_bytes ds - (start + length new) + end → new_rest ≡ old_rest
same_after t law text new start end [] ds old_rest new_rest utf8 new_utf8 inside a b c_some d_some
    low offset = absurd (omega arith)
same_after t law text new start end (c ∷ cs) [] old_rest new_rest utf8 new_utf8 inside a b c_some
    d_some low offset = absurd (omega arith)
same_after t law text new start end (c ∷ cs) (d ∷ ds) old_rest new_rest utf8 new_utf8 inside a b
    c_some d_some low offset =
    back_same t law text new start end c d cs ds old_rest new_rest utf8 new_utf8 inside a b low
    offset

-- the children of the new text after a return, and the count of back children
pub record AfterReturn (t : Tells) (text : List ℕ) (start end : ℕ) (new : List ℕ) (m : ℕ)
    (children : List ChildValue) (front_len next : ℕ) (fresh_children : List ChildValue) : Type 0
  where
    pub new_children_are : children_of t (splice text start end new) ≡ take front_len
        children ++ (fresh_children ++ drop next children)
    pub back : back_children start end new (Some m) children
        (children_of t (splice text start end new)) ≡ length children - next

-- the position after children, which are the first of a text
abbrev pub end_of : List ChildValue → Position
end_of cs = record { index = child_tokens cs; offset = child_bytes cs }

-- after a return the old children follow
pub children_return : (t : Tells) → IsLawful t
    → (text : List ℕ) (start end : ℕ) (new : List ℕ) (m : ℕ) (new_tokens : List Token)
    (children : List ChildValue) (front_len next : ℕ) (fresh_children : List ChildValue)
    → IsUtf8 text → IsUtf8 (splice text start end new) → start ≤ length text
    → IsMeetingOffset start end new m → children ≡ children_of t text
    → AllClosed (take front_len children)
    → (0 < child_bytes (take front_len children)
    → child_bytes (take front_len children) < start)
    → children_of t (splice text start end new) ≡ take front_len children ++ children_at t
    (splice text start end new) new_tokens (child_bytes (take front_len children))
    (child_tokens (take front_len children))
    → EndsAtReturn t (splice text start end new) new_tokens children
    (end_of (take front_len children)) (start + length new) end
    (Some (new_offset start end new m)) fresh_children next
    → AfterReturn t text start end new m children front_len next fresh_children
children_return t law text start end new m new_tokens children front_len next fresh_children utf8
    new_utf8 inside at is closed low front r =
    let v = splice text start end new in
    let fr = take front_len children in
    let x = child_bytes fr + child_bytes fresh_children in
    let (late, quiet) = and_parts (not (nat_lt x (new_offset start end new m)))
    (is_quiet children (x - (start + length new) + end)) r.at_return in
    let late_is = not_true (nat_lt x (new_offset start end new m)) late in
    let past : new_offset start end new m ≤ x = grind (arith, nat_tests) in
    let past_end : end ≤ m = at.past in
    let some : 0 < m = at.some in
    let offset : child_bytes (take next children) ≡ x - (start + length new) + end = r.offset in
    let new_is : children_of t v ≡ (fr ++ fresh_children) ++ r.rest = front
    ∙ ap (λ cs. fr ++ cs) r.children ∙ sym (append_assoc fr fresh_children r.rest) in
    let old_is : children_of t text ≡ take next children ++ drop next children = sym is
    ∙ sym (take-append-drop next children) in
    let both : child_bytes (fr ++ fresh_children) ≡ x = child_bytes-append fr fresh_children in
    let new_some : 0 < new_offset start end new m = at.new_some in
    let rest_is = same_after t law text new start end (take next children) (fr ++ fresh_children)
    (drop next children) r.rest utf8 new_utf8 inside old_is new_is (omega arith) (omega arith)
    (omega arith) (omega arith) in
    let l = some_last (take next children)
    (take_positive next children (children_of_positive t law text children utf8 is))
    (omega arith) in
    let new_parts : children_of t v ≡ fr ++ ((r.before ++ r.last ∷ []) ++ r.rest) = front
    ∙ ap (λ cs. fr ++ cs) (r.children ∙ ap (λ cs. cs ++ r.rest) r.parts) in
    let old_parts : children ≡ (l.earlier ++ l.last ∷ []) ++ drop next children =
    sym (take-append-drop next children) ∙ ap (λ cs. cs ++ drop next children) l.parts in
    let fresh_bytes : child_bytes fresh_children ≡ child_bytes (r.before ++ r.last ∷ []) =
    ap child_bytes r.parts in
    let old_bytes : child_bytes (take next children) ≡ child_bytes (l.earlier ++ l.last ∷ []) =
    ap child_bytes l.parts in
    let back = back_children_some start end new m children (children_of t v) fr r.before r.rest
    (drop next children) l.earlier r.last l.last at new_parts old_parts low l.some
    (AllClosed_both fr (r.before ++ r.last ∷ []) closed (subst AllClosed r.parts r.closed))
    (subst AllClosed l.parts r.old_closed) r.none_returns (omega arith) (omega arith) in
    record {
      new_children_are = front
          ∙ ap (λ cs. fr ++ cs) (r.children ∙ ap (λ cs. fresh_children ++ cs) rest_is);
      back = back ∙ length-drop next children;
    }

-- without a return the parsed children are the last
pub children_no_return : (t : Tells) (text : List ℕ) (start end : ℕ) (new : List ℕ) (m : ℕ)
    (new_tokens : List Token) (children : List ChildValue) (front_len : ℕ)
    (fresh_children : List ChildValue)
    → IsMeetingOffset start end new m
    → (0 < child_bytes (take front_len children)
    → child_bytes (take front_len children) < start)
    → children_of t (splice text start end new) ≡ take front_len children ++ children_at t
    (splice text start end new) new_tokens (child_bytes (take front_len children))
    (child_tokens (take front_len children))
    → ReturnsNowhere t (splice text start end new) new_tokens children
    (end_of (take front_len children)) (start + length new) end
    (Some (new_offset start end new m)) fresh_children
    → (children_of t (splice text start end new) ≡ take front_len children ++ fresh_children) ×
    (back_children start end new (Some m) children (children_of t (splice text start end new))
    ≡ 0)
children_no_return t text start end new m new_tokens children front_len fresh_children at low front
    r =
    let all : children_of t (splice text start end new) ≡ take front_len children ++ fresh_children
    = front ∙ ap (λ cs. take front_len children ++ cs) r.children in (
      all,
      back_children_none start end new m children (children_of t (splice text start end new))
          (take front_len children) fresh_children at all low r.none_returns,
    )

-- a return lies at the meeting or past it
pub return_is_late : (start end : ℕ) (new : List ℕ) (m : ℕ) (children : List ChildValue) (x p : ℕ)
    → end ≤ m → is_new_return (start + length new) end (Some (new_offset start end new m)) children
    x ≡ true → p ≡ x - (start + length new) + end → m ≤ p
return_is_late start end new m children x p past e is =
    let (late, quiet) = and_parts (not (nat_lt x (new_offset start end new m)))
    (is_quiet children (x - (start + length new) + end)) e in
    let late_is = not_true (nat_lt x (new_offset start end new m)) late in
    let low : new_offset start end new m ≤ x = grind (arith, nat_tests) in
    omega arith
