-- The tokens after an edit are those of the new text, and its counts are those that compare both
-- texts.
use Rattle.std.proofs.Common.{inl, inr, ◌≡◌, ℕ, ◌+◌, ◌-◌, ◌<◌, ◌≤◌, true, false, eqb, List, [], ◌∷◌, ◌++◌, length, take, drop, refl, sym, ◌∙◌, ap, subst, arith, length-drop, length-append, length-take, append_assoc, Option, Some, None, option_map}
use Rattle.std.proofs.lemmas.List.{append-nil, drop_all, take-append-drop, length-take-le, drop_at, drop-drop, get_or_append_left}
use Rattle.std.specs.Str.{IsUtf8, IsCharBoundary, chars}
use Rattle.std.specs.List.{list_any}
use Rattle.std.specs.Option.{IfSome}
use Rattle.std.proofs.lemmas.Bool.{cases_lt}
use Rattle.std.proofs.lemmas.Str.{IsUtf8-take, IsUtf8-drop, IsUtf8-append, chars-nil, IsCharBoundary-start}
use Rattle.squawk_lexer.specs.Cut.{token_ends}
use Rattle.squawk_lexer.specs.declared.token.Token.{Token}
use Rattle.squawk_cut.specs.Tells.{Tells, IsLawful}
use Rattle.squawk_cut.specs.Tokens.{tokens_from, tokens_of}
use Rattle.squawk_document.specs.Boundaries.{IsRange, splice, total_len}
use Rattle.squawk_document.specs.EditedTokens.{back_tokens, front_tokens, meeting, token_counts_of}
use Rattle.squawk_document.specs.FrontPart.{IsFrontEnd, EndsByLimit, IsLastButOne}
use Rattle.squawk_document.specs.Recut.{EndsAtMeeting, IsRecut, MeetsNowhere, is_new_meeting}
use Rattle.squawk_document.specs.TokenEdit.{BeginsWithFront, back_len, joined_tokens}
use Rattle.squawk_document.specs.declared.edited.TokenCounts.{TokenCounts}
use Rattle.squawk_document.specs.declared.skip.Position.{Position}
use Rattle.squawk_document.proofs.Cutting.{Shares, shared_tokens, restart, tokens_positive, tokens_total, boundary_front}
use Rattle.squawk_document.proofs.FrontSteps.{front_count, front_count_none}
use Rattle.squawk_document.proofs.Skipping.{next_total}
use Rattle.squawk_document.proofs.Meeting.{IsLow, no_back_tokens, first_meeting, meeting_back, meeting_found, no_meeting_found}

-- a list of tokens with a byte has a last one
pub record Last (xs : List Token) : Type 0 where
  pub earlier : List Token
  pub last : Token
  pub parts : xs ≡ earlier ++ last ∷ []

-- a list of tokens that is not empty has a last one
split_last : (x : Token) (xs : List Token) → Last (x ∷ xs)
split_last x [] = record { earlier = []; last = x; parts = refl }
split_last x (y ∷ ys) = let l = split_last y ys in
    record { earlier = x ∷ l.earlier; last = l.last; parts = ap (λ ts. x ∷ ts) l.parts }

-- tokens with a byte have a last one
some_last : (xs : List Token) → 0 < total_len xs → Last xs
some_last [] h = absurd (omega arith)
some_last (x ∷ xs) h = split_last x xs

-- after the range both texts are the same
pub after_range : (text new : List ℕ) (start end r p : ℕ) → start ≤ length text
    → start + length new ≤ r → p ≡ r - (start + length new) + end
    → drop r (splice text start end new) ≡ drop p text
after_range text new start end r p inside low is =
    let front : length (take start text) ≡ start = length-take-le start text inside in
    let parts : splice text start end new ≡ (take start text ++ new) ++ drop end text =
    sym (append_assoc (take start text) new (drop end text)) in
    let len : length (take start text ++ new) ≡ start + length new =
    omega (arith, length-append (take start text) new) in
    let split : r ≡ start + length new + (r - (start + length new)) = omega arith in
    let last : end + (r - (start + length new)) ≡ p = omega arith in
    ap (λ n. drop n (splice text start end new)) split
    ∙ sym (drop-drop (r - (start + length new)) (start + length new) (splice text start end new))
    ∙ ap (drop (r - (start + length new)))
    (ap (drop (start + length new)) parts
    ∙ drop_at (take start text ++ new) (drop end text) (start + length new) len)
    ∙ drop-drop (r - (start + length new)) end text
    ∙ ap (λ n. drop n text) last

-- the tokens of a text from a token's end past 0 on
pub from_end : (t : Tells) → IsLawful t → (u : List ℕ) (ts : List Token) (i : ℕ) → IsUtf8 u
    → ts ≡ tokens_of t u → 0 < total_len (take i ts)
    → drop i ts ≡ tokens_from t 0 false (drop (total_len (take i ts)) u)
from_end t law u ts i utf8 is some = go (take i ts) refl some
  where
    go : (xs : List Token) → take i ts ≡ xs → 0 < total_len xs
        → drop i ts ≡ tokens_from t 0 false (drop (total_len (take i ts)) u)
    go [] e h = absurd (omega arith)
    go (x ∷ xs) e h =
        let all : tokens_of t u ≡ x ∷ (xs ++ drop i ts) = sym is ∙ sym (take-append-drop i ts)
        ∙ ap (λ ys. ys ++ drop i ts) e in
        let r = restart t law true u x xs (drop i ts) utf8 all in
        r.tokens ∙ ap (λ ys. tokens_from t 0 false (drop (total_len ys) u)) (sym e)

-- what is known before the cuts
pub record IsPrepared (t : Tells) (text : List ℕ) (start end : ℕ) (new : List ℕ) (old : List Token)
    (limit : Option ℕ) (front_len first : ℕ) : Type 0 where
  pub utf8 : IsUtf8 text
  pub new_utf8 : IsUtf8 new
  pub range : IsRange text start end
  pub tokens : old ≡ tokens_of t text
  pub limit_is : IsLastButOne (take start text) limit
  pub front_len_is : EndsByLimit old limit front_len
  pub within : front_len ≤ length old
  pub first_is : first ≡ total_len (take front_len old)

-- what the front tokens give
pub record IsFront (t : Tells) (text : List ℕ) (start end : ℕ) (new : List ℕ) (old : List Token)
    (front_len first : ℕ) : Type 0 where
  pub tokens : tokens_of t (splice text start end new) ≡ take front_len old ++ tokens_from t 0
      (eqb first 0) (drop first (splice text start end new))
  pub count : front_tokens text start old ≡ front_len
  pub low : IsLow (take front_len old) start
  pub utf8 : IsUtf8 (splice text start end new)
  pub boundary : IsCharBoundary (splice text start end new) first

-- the front tokens without a limit
front_none : (t : Tells) → IsLawful t
    → (text : List ℕ) (start end : ℕ) (new : List ℕ) (old : List Token) (front_len first : ℕ)
    → IsPrepared t text start end new old None front_len first
    → IsUtf8 (take start text) → IsUtf8 (splice text start end new)
    → IsFront t text start end new old front_len first
front_none t law text start end new old front_len first p shared utf8 =
    let none : front_len ≡ 0 = p.front_len_is in
    let zero_first : first ≡ 0 = p.first_is ∙ ap (λ n. total_len (take n old)) none in
    let limit : length (chars (take start text)) < 2 = p.limit_is in
    record {
      tokens = rw (none, zero_first) refl;
      count = front_count_none t law text start old p.utf8 shared limit (sym p.tokens) ∙ sym none;
      low = λ some. absurd
          (let e : total_len (take front_len old) ≡ 0 = ap (λ n. total_len (take n old)) none in
          omega arith);
      utf8 = utf8;
      boundary = rw zero_first (IsCharBoundary-start (splice text start end new) utf8);
    }

-- the front tokens up to a limit
front_some : (t : Tells) → IsLawful t
    → (text : List ℕ) (start end : ℕ) (new : List ℕ) (old : List Token) (m front_len first : ℕ)
    → IsPrepared t text start end new old (Some m) front_len first
    → IsUtf8 (take start text) → IsUtf8 (drop start text) → IsUtf8 (new ++ drop end text)
    → IsFront t text start end new old front_len first
front_some t law text start end new old m front_len first p shared rest other =
    let limit : IsCharBoundary (take start text) m × (length (chars (drop m (take start text))) ≡ 2)
    = p.limit_is in
    let ends_low : total_len (take front_len old) ≤ m = p.front_len_is.0 in
    let high = p.front_len_is.1 in
    let inside : m < length (take start text) = limit_inside (take start text) m limit.1 in
    let shares : Shares (take start text) (drop start text) (new ++ drop end text) m =
    record {
      same_utf8 = shared;
      rest_utf8 = rest;
      other_utf8 = other;
      boundary = limit.0;
      two =
          omega (arith, limit.1);
      inside = inside;
    } in
    let parts : tokens_from t 0 true (take start text ++ drop start text) ≡ take front_len
    old ++ drop front_len old = ap (tokens_from t 0 true) (take-append-drop start text)
    ∙ sym p.tokens ∙ sym (take-append-drop front_len old) in
    let front = shared_tokens t law true (take front_len old) (drop front_len old) (take start text)
    (drop start text) (new ++ drop end text) m shares parts ends_low in
    let count = front_count t law text start m (take front_len old)
    (drop front_len old) p.utf8 shared (limit.0, limit.1)
    (sym p.tokens ∙ sym (take-append-drop front_len old)) ends_low
    (next_total old front_len m high) in
    let start_in : start ≤ length text = p.range.starts.0 in
    record {
      tokens = front ∙ ap (λ n. take front_len old ++ tokens_from t 0 (eqb n 0)
          (drop n (splice text start end new))) (sym p.first_is);
      count = ap (front_tokens text start) (sym (take-append-drop front_len old)) ∙ count
          ∙ length-take-le front_len old p.within;
      low = λ some. omega (arith, length-take start text);
      utf8 = IsUtf8-append (take start text) (new ++ drop end text) shared other;
      boundary = subst (IsCharBoundary (splice text start end new)) (sym p.first_is)
          (boundary_more (take start text) (new ++ drop end text) (total_len (take front_len old))
          (omega arith)
          (boundary_front (take start text) (drop start text) (total_len (take front_len old))
          (omega arith) (subst (λ w. IsCharBoundary w (total_len (take front_len old)))
          (sym (take-append-drop start text))
          (at_end (take front_len old) (drop front_len old)
          (sym p.tokens ∙ sym (take-append-drop front_len old))))));
    }
  where
    boundary_more : (xs ys : List ℕ) (i : ℕ) → i < length xs → IsCharBoundary xs i
        → IsCharBoundary (xs ++ ys) i
    boundary_more xs ys i h b = let same = get_or_append_left xs ys 0 i h in (
      omega (arith, length-append xs ys),
      λ lt big. subst (λ n. 192 ≤ n) (sym same)
          (b.1 h (subst (λ n. 128 ≤ n) same big)),
    )

    at_end : (xs ys : List Token) → tokens_of t text ≡ xs ++ ys → IsCharBoundary text (total_len xs)
    at_end [] ys e = IsCharBoundary-start text p.utf8
    at_end (x ∷ xs) ys e = (restart t law true text x xs ys p.utf8 e).boundary

    limit_inside : (u : List ℕ) (m : ℕ) → length (chars (drop m u)) ≡ 2 → m < length u
    limit_inside u m two =
        elim (cases_lt m (length u)) [
          | inl lt ↦ lt
          | inr ge ↦
              absurd (omega (
                arith,
                two,
                ap (λ w. length (chars w)) (drop_all m u ge),
                ap length
                    chars-nil,
              ))
        ]

-- what the front tokens give
pub front_is : (t : Tells) → IsLawful t
    → (text : List ℕ) (start end : ℕ) (new : List ℕ) (old : List Token) (limit : Option ℕ)
    (front_len first : ℕ) → IsPrepared t text start end new old limit front_len first
    → IsFront t text start end new old front_len first
front_is t law text start end new old limit front_len first p =
    let shared = IsUtf8-take text start p.utf8 p.range.starts in
    let other = IsUtf8-append new (drop end text) p.new_utf8
    (IsUtf8-drop text end p.utf8 p.range.ends_at) in
    go limit p shared other
  where
    go : (limit : Option ℕ) → IsPrepared t text start end new old limit front_len first
        → IsUtf8 (take start text) → IsUtf8 (new ++ drop end text)
        → IsFront t text start end new old front_len first
    go None p shared other = front_none t law text start end new old front_len first p shared
        (IsUtf8-append (take start text) (new ++ drop end text) shared other)
    go (Some m) p shared other = front_some t law text start end new old m front_len first p shared
        (IsUtf8-drop text start p.utf8 p.range.starts) other

-- what comes of an edit
pub record IsTokenEdit (t : Tells) (text : List ℕ) (start end : ℕ) (new : List ℕ) (old : List Token)
    (front_len : ℕ) (fresh_tokens : List Token) (back : Option Position) : Type 0 where
  pub tokens : joined_tokens old front_len fresh_tokens back ≡ tokens_of t
      (splice text start end new)
  pub edited : record {
    front_tokens = front_len;
    cut_tokens = length fresh_tokens;
    back_tokens =
        back_len old back;
  } ≡ token_counts_of t text start end new
  pub low : IsLow (take front_len old) start
  pub begins : joined_tokens old front_len fresh_tokens back ≡ take front_len old ++ drop front_len
      (joined_tokens old front_len fresh_tokens back)
  pub meeting_is : meeting start end new old (tokens_of t (splice text start end new)) ≡ option_map
      (λ (p : Position). total_len (take p.index old)) back

counts_are : (t : Tells) (text : List ℕ) (start end : ℕ) (new : List ℕ) (old : List Token)
    (front_len : ℕ) (fresh_tokens rest : List Token) (back : ℕ)
    → old ≡ tokens_of t text → front_len ≤ length old → front_tokens text start old ≡ front_len
    → back_tokens start end new old (tokens_of t (splice text start end new)) ≡ back
    → length rest ≡ back
    → tokens_of t (splice text start end new) ≡ take front_len old ++ (fresh_tokens ++ rest)
    → record { front_tokens = front_len; cut_tokens = length fresh_tokens; back_tokens = back }
    ≡ token_counts_of t text start end new
counts_are t text start end new old front_len fresh_tokens rest back is within
    front back_is len tokens =
    let cut = tokens_of t (splice text start end new) in
    let all : length cut - front_len - back ≡ length fresh_tokens =
    omega (
      arith,
      ap length tokens,
      length-append (take front_len old)
          (fresh_tokens ++ rest),
      length-append fresh_tokens rest,
      length-take-le front_len old
          within,
    ) in
    let out : ℕ → ℕ → TokenCounts =
    λ f b. record { front_tokens = f; cut_tokens = length cut - f - b; back_tokens = b } in
    ap (λ n. record { front_tokens = front_len; cut_tokens = n; back_tokens = back }) (sym all)
    ∙ ap (λ f. out f back) (sym front)
    ∙ ap (λ b. out (front_tokens text start old) b) (sym back_is)
    ∙ ap (λ ts. out (front_tokens text start ts) (back_tokens start end new ts cut)) is

-- a list begins with its first part
begins_are : (xs ys : List Token) (n : ℕ) → length xs ≡ n → xs ++ ys ≡ xs ++ drop n (xs ++ ys)
begins_are xs ys n e = ap (λ zs. xs ++ zs) (sym (drop_at xs ys n e))

-- the tokens of an edit without a meeting
token_edit_none : (t : Tells) → IsLawful t
    → (text : List ℕ) (start end : ℕ) (new : List ℕ) (old : List Token) (limit : Option ℕ)
    (front_len first : ℕ) (fresh_tokens : List Token)
    → IsPrepared t text start end new old limit front_len first
    → MeetsNowhere t (splice text start end new) old first (start + length new) end fresh_tokens
    → IsTokenEdit t text start end new old front_len fresh_tokens None
token_edit_none t law text start end new old limit front_len first fresh_tokens p cut =
    let f = front_is t law text start end new old limit front_len first p in
    let all : tokens_of t (splice text start end new) ≡ take front_len old ++ fresh_tokens =
    f.tokens ∙ ap (λ ts. take front_len old ++ ts) cut.tokens in
    let none : drop (length old) old ≡ [] = drop_all (length old) old (omega arith) in
    let same : fresh_tokens ++ drop (length old) old ≡ fresh_tokens =
    ap (λ ts. fresh_tokens ++ ts) none ∙ append-nil fresh_tokens in
    let none_meets = ap (λ n. list_any (is_new_meeting (start + length new) end old)
    (token_ends n fresh_tokens)) (sym p.first_is) ∙ cut.none_meets in
    let back = no_back_tokens start end new old (tokens_of t (splice text start end new))
    (take front_len old) fresh_tokens all f.low none_meets in
    record {
      tokens = ap (λ ts. take front_len old ++ ts) same ∙ sym all;
      edited = counts_are t text start end new old front_len fresh_tokens [] 0 p.tokens p.within
          f.count back refl (all
          ∙ ap (λ ts. take front_len old ++ ts) (sym (append-nil fresh_tokens)));
      low = f.low;
      begins = begins_are (take front_len old) _ front_len (length-take-le front_len old p.within);
      meeting_is = no_meeting_found start end new old (tokens_of t (splice text start end new))
          (take front_len old) fresh_tokens all f.low none_meets;
    }

-- the tokens of an edit with a meeting
token_edit_some : (t : Tells) → IsLawful t
    → (text : List ℕ) (start end : ℕ) (new : List ℕ) (old : List Token) (limit : Option ℕ)
    (front_len first : ℕ) (fresh_tokens : List Token) (p_back : Position)
    → IsPrepared t text start end new old limit front_len first
    → EndsAtMeeting t (splice text start end new) old first
    (start + length new) end fresh_tokens p_back.index
    → IsTokenEdit t text start end new old front_len fresh_tokens (Some p_back)
token_edit_some t law text start end new old limit front_len first fresh_tokens p_back p cut =
    let f = front_is t law text start end new old limit front_len first p in
    let v = splice text start end new in
    let start_in : start ≤ length text = p.range.starts.0 in
    let rest : drop p_back.index old ≡ tokens_from t 0 false
    (drop (first + total_len fresh_tokens) v) =
    from_end t law text old p_back.index p.utf8 p.tokens cut.some
    ∙ ap (tokens_from t 0 false)
    (sym (after_range text new start end (first + total_len fresh_tokens)
    (total_len (take p_back.index old)) start_in cut.low cut.offset)) in
    let all : tokens_of t v ≡ take front_len old ++ (fresh_tokens ++ drop p_back.index old) =
    f.tokens ∙ ap (λ ts. take front_len old ++ ts)
    (cut.tokens ∙ ap (λ ts. fresh_tokens ++ ts) (sym rest)) in
    let l = some_last (take p_back.index old) cut.some in
    let old_parts : old ≡ (l.earlier ++ l.last ∷ []) ++ drop p_back.index old =
    sym (take-append-drop p_back.index old) ∙ ap (λ ts. ts ++ drop p_back.index old) l.parts in
    let cut_parts : tokens_of t v ≡ take front_len
    old ++ ((cut.before ++ cut.last ∷ []) ++ drop p_back.index old) = all
    ∙ ap (λ ts. take front_len old ++ (ts ++ drop p_back.index old)) cut.parts in
    let none_meets = ap (λ n. list_any (is_new_meeting (start + length new) end old)
    (token_ends n cut.before)) (sym p.first_is) ∙ cut.none_meets in
    let offset : first + total_len fresh_tokens ≡ total_len (take front_len old) + total_len
    (cut.before ++ cut.last ∷ []) = ap (λ n. n + total_len fresh_tokens) p.first_is
    ∙ ap (λ ts. total_len (take front_len old) + total_len ts) cut.parts in
    let met = first_meeting start end new old (tokens_of t v) (take front_len old) cut.before
    (drop p_back.index old) l.earlier cut.last l.last cut_parts old_parts f.low p.range.ordered
    (tokens_positive t law true v (tokens_of t v) f.utf8 refl)
    (tokens_positive t law true text old p.utf8 (sym p.tokens)) none_meets
    (subst (λ n. start + length new ≤ n) offset cut.low)
    (ap total_len (sym l.parts) ∙ cut.offset ∙ ap (λ n. n - (start + length new) + end) offset) in
    let back = meeting_back start end new old (tokens_of t v) (total_len (l.earlier ++ l.last ∷ []))
    (length (drop p_back.index old)) met in
    let len = length-drop p_back.index old in
    record {
      tokens = sym all;
      edited = counts_are t text start end new old front_len fresh_tokens (drop p_back.index old)
          (length old - p_back.index) p.tokens p.within f.count (back ∙ len) len all;
      low = f.low;
      begins = begins_are (take front_len old) _ front_len (length-take-le front_len old p.within);
      meeting_is = meeting_found start end new old (tokens_of t v)
          (total_len (l.earlier ++ l.last ∷ [])) (length (drop p_back.index old)) met
          ∙ ap (λ ts. Some (total_len ts)) (sym l.parts);
    }

-- the tokens of an edit are those of the new text, and the counts are those of the definition
pub token_edit : (t : Tells) → IsLawful t
    → (text : List ℕ) (start end : ℕ) (new : List ℕ) (old : List Token) (limit : Option ℕ)
    (front_len first : ℕ) (fresh_tokens : List Token) (back : Option Position)
    → IsPrepared t text start end new old limit front_len first
    → IsRecut t (splice text start end new) old first (start + length new) end fresh_tokens back
    → IsTokenEdit t text start end new old front_len fresh_tokens back
token_edit t law text start end new old limit front_len first fresh_tokens None p cut =
    token_edit_none t law text start end new old limit front_len first fresh_tokens p cut
token_edit t law text start end new old limit front_len first fresh_tokens (Some p_back) p cut =
    token_edit_some t law text start end new old limit front_len first fresh_tokens p_back p cut

-- the tokens of a text have its bytes
pub old_total : (t : Tells) → IsLawful t → (text : List ℕ) (old : List Token) → IsUtf8 text
    → old ≡ tokens_of t text → total_len old ≡ length text
old_total t law text old utf8 is = tokens_total t law true text old utf8 (sym is)

-- what is known before the cuts, in the words of the code
pub prepare : (t : Tells) (text : List ℕ) (start end : ℕ) (new : List ℕ) (old : List Token)
    (p : Position) → IsUtf8 text → IsUtf8 new → IsRange text start end → old ≡ tokens_of t text
    → (f : IsFrontEnd (take start text) old p)
    → IsPrepared t text start end new old f.limit p.index p.offset
prepare t text start end new old p utf8 new_utf8 range tokens f = record {
  utf8 = utf8;
  new_utf8 = new_utf8;
  range = range;
  tokens = tokens;
  limit_is = f.limit_is;
  front_len_is = f.tokens;
  within = f.within;
  first_is = f.offset;
}

-- the cuts as the code has them, in a text that is the spliced one
pub token_edit_in : (t : Tells) → IsLawful t
    → (text : List ℕ) (start end : ℕ) (new : List ℕ) (old : List Token) (limit : Option ℕ)
    (front_len first : ℕ) (fresh_tokens : List Token) (back : Option Position) (new_text : List ℕ)
    → IsPrepared t text start end new old limit front_len first
    → new_text ≡ splice text start end new
    → IsRecut t new_text old first (start + length new) end fresh_tokens back
    → IsTokenEdit t text start end new old front_len fresh_tokens back
token_edit_in t law text start end new old limit front_len first fresh_tokens back new_text p is cut
    =
    token_edit t law text start end new old limit front_len first fresh_tokens back p
    (subst (λ w. IsRecut t w old first (start + length new) end fresh_tokens back) is cut)

-- the end of the front tokens is a character boundary of the new text
pub boundary_in : (t : Tells) → IsLawful t
    → (text : List ℕ) (start end : ℕ) (new : List ℕ) (old : List Token) (limit : Option ℕ)
    (front_len first : ℕ) (new_text : List ℕ)
    → IsPrepared t text start end new old limit front_len first
    → new_text ≡ splice text start end new → IsCharBoundary new_text first
boundary_in t law text start end new old limit front_len first new_text p is =
    subst (λ w. IsCharBoundary w first) (sym is)
    (front_is t law text start end new old limit front_len first p).boundary

-- the front of the new tokens, in the words of the code
pub begins_in : (old new_tokens : List Token) (start : ℕ) (p : Position) (fresh_tokens : List Token)
    (back : Option Position) → p.index ≤ length old → p.offset ≡ total_len (take p.index old)
    → IsLow (take p.index old) start
    → new_tokens ≡ joined_tokens old p.index fresh_tokens back
    → joined_tokens old p.index fresh_tokens back ≡ take p.index old ++ drop p.index
    (joined_tokens old p.index fresh_tokens back) → BeginsWithFront old new_tokens start p
begins_in old new_tokens start p fresh_tokens back within offset_is low is begins = record {
  within = within;
  offset = offset_is;
  low = λ some. subst (λ n. n < start) (sym offset_is) (low (subst (λ n. 0 < n) offset_is some));
  begins = is ∙ begins ∙ ap (λ ts. take p.index old ++ drop p.index ts) (sym is);
}

-- the offset of the meeting, in the words of the code
pub meeting_in : (old : List Token) (back : Option Position) (m : Option ℕ)
    → IfSome back (λ p. p.offset ≡ total_len (take p.index old))
    → m ≡ option_map (λ (p : Position). p.offset) back
    → m ≡ option_map (λ (p : Position). total_len (take p.index old)) back
meeting_in old None m h e = e
meeting_in old (Some p) m h e = e ∙ ap Some h

-- the text before the range, as the code slices it
pub front_in : (text before : List ℕ) (start : ℕ) (tokens : List Token) (p : Position)
    → before ≡ take (start - 0) (drop 0 text) → IsFrontEnd before tokens p
    → IsFrontEnd (take start text) tokens p
front_in text before start tokens p e f =
    subst (λ w. IsFrontEnd w tokens p) (e ∙ ap (λ n. take n text) (omega arith)) f
