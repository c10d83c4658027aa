-- All that the parses of an edit give, in one lemma.
use Rattle.std.proofs.Common.{inl, inr, ◌^◌, ◌≡◌, ℕ, zero, suc, ◌+◌, ◌-◌, ◌<◌, ◌≤◌, Bool, true, false, cond, List, [], ◌∷◌, ◌++◌, length, take, drop, refl, sym, ◌∙◌, ap, subst, arith, length-append, length-drop, Option, Some, None, option_map}
use Rattle.std.proofs.lemmas.List.{append-nil, drop_all, take-append-drop, length-take-le}
use Rattle.std.proofs.lemmas.Bool.{cases_lt}
use Rattle.std.specs.List.{find}
use Rattle.std.specs.Str.{IsUtf8}
use Rattle.std.proofs.lemmas.Str.{IsUtf8-take, IsUtf8-drop, IsUtf8-append}
use Rattle.squawk_lexer.specs.Cut.{token_ends}
use Rattle.squawk_lexer.specs.declared.token.Token.{Token}
use Rattle.squawk_cut.specs.ChildValue.{ChildValue}
use Rattle.squawk_cut.specs.Tells.{Tells, IsLawful}
use Rattle.squawk_cut.specs.Tokens.{tokens_of}
use Rattle.squawk_document.specs.Boundaries.{IsRange, is_among, new_offset, splice, total_len}
use Rattle.squawk_document.specs.ChildEdit.{EndsAtReturn, IsChildEdit, IsReparse, back_child_index}
use Rattle.squawk_document.specs.DocumentValue.{DocumentValue}
use Rattle.squawk_document.specs.EditedChildren.{back_children, child_counts_of, front_children}
use Rattle.squawk_document.specs.EditedTokens.{front_tokens, is_meeting, meeting}
use Rattle.squawk_document.specs.FrontPart.{AreFrontChildren, AllClosed, StopsBefore, child_tokens}
use Rattle.squawk_document.specs.TokenEdit.{BeginsWithFront}
use Rattle.squawk_document.specs.declared.edited.ChildCounts.{ChildCounts}
use Rattle.squawk_document.specs.declared.skip.FrontChildren.{FrontChildren}
use Rattle.squawk_document.specs.declared.skip.Position.{Position}
use Rattle.squawk_cut.specs.Children.{children_of}
use Rattle.squawk_cut.specs.Join.{child_bytes}
use Rattle.std.specs.Option.{IfSome}
use Rattle.squawk_document.proofs.OffsetTests.{end_within}
use Rattle.squawk_document.proofs.FrontSteps.{member_first, member_later}
use Rattle.squawk_document.proofs.Meeting.{is_meeting_says}
use Rattle.squawk_document.proofs.ChildMeeting.{IsMeetingOffset}
use Rattle.squawk_document.proofs.ChildFrontSteps.{end_of, IsChildrenFront, children_front, children_return, children_no_return, return_is_late}

-- what is found passes the test
find_passes : (q : ℕ → Bool) (xs : List ℕ) (m : ℕ) → find q xs ≡ Some m → q m ≡ true
find_passes q [] m e = absurd (cc)
find_passes q (x ∷ xs) m e = by (q x) refl (find_passes q xs m) e
  where
    by : (b : Bool) → q x ≡ b → (find q xs ≡ Some m → q m ≡ true)
        → cond b (Some x) (find q xs) ≡ Some m → q m ≡ true
    by true p more e = let same : x ≡ m = cc in ap q (sym same) ∙ p
    by false p more e = more e

-- what is found is a member
find_member : (q : ℕ → Bool) (xs : List ℕ) (m : ℕ) → find q xs ≡ Some m → is_among xs m ≡ true
find_member q [] m e = absurd (cc)
find_member q (x ∷ xs) m e = by (q x) (find_member q xs m) e
  where
    by : (b : Bool) → (find q xs ≡ Some m → is_among xs m ≡ true)
        → cond b (Some x) (find q xs) ≡ Some m → is_among (x ∷ xs) m ≡ true
    by true more e = let same : x ≡ m = cc in
        subst (λ n. is_among (x ∷ xs) n ≡ true) same (member_first x xs)
    by false more e = member_later m x xs (more e)

-- the meeting is at or past the end of the range, and above 0 in both texts
meeting_offset : (start end : ℕ) (new : List ℕ) (old cut : List Token) (m : ℕ)
    → meeting start end new old cut ≡ Some m → IsMeetingOffset start end new m
meeting_offset start end new old cut m e =
    let says = is_meeting_says start end new cut m
    (find_passes (is_meeting start end new cut) (token_ends 0 old) m e) in
    record { past = says.past; some = says.some; new_some = says.new_some }

-- fewer children have no more bytes
bytes_take_le : (xs : List ChildValue) (i j : ℕ) → i ≤ j
    → child_bytes (take i xs) ≤ child_bytes (take j xs)
bytes_take_le xs zero j h = omega arith
bytes_take_le [] (suc i) zero h = absurd (omega arith)
bytes_take_le [] (suc i) (suc j) h = omega arith
bytes_take_le (x ∷ xs) (suc i) zero h = absurd (omega arith)
bytes_take_le (x ∷ xs) (suc i) (suc j) h = omega (arith, bytes_take_le xs i j (omega arith))

-- what is known once the new tokens are
pub record IsReady (t : Tells) (text : List ℕ) (start end : ℕ) (new : List ℕ)
    (old new_tokens : List Token) (front : Position) (children : List ChildValue)
    (front_len : ℕ) : Type 0 where
  pub utf8 : IsUtf8 text
  pub new_utf8 : IsUtf8 new
  pub range : IsRange text start end
  pub tokens : old ≡ tokens_of t text
  pub new_tokens_are : new_tokens ≡ tokens_of t (splice text start end new)
  pub children_are : children ≡ children_of t text
  pub begins : BeginsWithFront old new_tokens start front
  pub closed : AllClosed (take front_len children)
  pub low : child_bytes (take front_len children) ≤ front.offset
  pub stopped : StopsBefore (drop front_len children)
      (front.offset - child_bytes (take front_len children))
  pub within : front_len ≤ length children

-- what the front children give
pub ready_front : (t : Tells) → IsLawful t
    → (text : List ℕ) (start end : ℕ) (new : List ℕ) (old new_tokens : List Token)
    (front : Position) (children : List ChildValue) (front_len : ℕ)
    → IsReady t text start end new old new_tokens front children front_len
    → IsChildrenFront t (take start text) (new ++ drop end text) old new_tokens front.index children
    front_len
ready_front t law text start end new old new_tokens front children front_len r =
    let whole : take start text ++ drop start text ≡ text = take-append-drop start text in
    let start_in : start ≤ length text = r.range.starts.0 in
    let first_is : front.offset ≡ total_len (take front.index old) = r.begins.offset in
    let len = length-take-le start text start_in in
    children_front t law (take start text) (drop start text) (new ++ drop end text) old new_tokens
    front.index children front_len (record {
      utf8 = subst IsUtf8 (sym whole) r.utf8;
      tokens = r.tokens ∙ ap (tokens_of t) (sym whole);
      new_tokens_are = r.new_tokens_are;
      children_are = r.children_are ∙ ap (children_of t) (sym whole);
      front_within = r.begins.within;
      shared = elim (cases_lt 0 front.offset) [
        | inl some ↦ let low = r.begins.low some in
            omega arith
        | inr none ↦ omega arith
      ];
      first = r.begins.begins;
      closed = r.closed;
      low = subst (λ n. child_bytes (take front_len children) ≤ n) first_is r.low;
      stopped = subst (λ n. StopsBefore (drop front_len children)
          (n - child_bytes (take front_len children))) first_is r.stopped;
      within = r.within;
    })

-- the children of an edit, where the run of parses begins at the end of the front children
pub child_edit : (t : Tells) → IsLawful t
    → (text : List ℕ) (start end : ℕ) (new : List ℕ) (old new_tokens : List Token)
    (front : Position) (children : List ChildValue) (front_len : ℕ)
    (fresh_children : List ChildValue) (back m : Option ℕ)
    → IsReady t text start end new old new_tokens front children front_len
    → meeting start end new old new_tokens ≡ m
    → IsReparse t (splice text start end new) new_tokens children (end_of (take front_len children))
    (start + length new) end (option_map (new_offset start end new) m) fresh_children back
    → IsChildEdit t text start end new old new_tokens front.index children front_len fresh_children
    (back_child_index children back)
child_edit t law text start end new old new_tokens front children front_len fresh_children back m r
    at parsed = go m back at parsed
  where
    f : IsChildrenFront t (take start text) (new ++ drop end text) old new_tokens front.index
        children front_len
    f = ready_front t law text start end new old new_tokens front children front_len r

    below : 0 < child_bytes (take front_len children)
        → child_bytes (take front_len children) < start
    below some = let low : child_bytes (take front_len children) ≤ front.offset = r.low in
        let under = r.begins.low (omega arith) in omega arith

    spliced_utf8 : IsUtf8 (splice text start end new)
    spliced_utf8 = IsUtf8-append (take start text) (new ++ drop end text)
        (IsUtf8-take text start r.utf8 r.range.starts)
        (IsUtf8-append new (drop end text) r.new_utf8 (IsUtf8-drop text end r.utf8 r.range.ends_at))

    last : children_of t (splice text start end new) ≡ take front_len children ++ fresh_children
        → children_of t (splice text start end new) ≡ take front_len
        children ++ (fresh_children ++ drop (length children) children)
    last e = e ∙ ap (λ cs. take front_len children ++ cs)
        (sym (ap (λ cs. fresh_children ++ cs) (drop_all (length children) children (omega arith))
        ∙ append-nil fresh_children))

    go : (m back : Option ℕ) → meeting start end new old new_tokens ≡ m
        → IsReparse t (splice text start end new) new_tokens children
        (end_of (take front_len children)) (start + length new) end
        (option_map (new_offset start end new) m) fresh_children back
        → IsChildEdit t text start end new old new_tokens front.index children front_len
        fresh_children (back_child_index children back)
    go None None at parsed = record {
      new_children = last (f.new_children_are
          ∙ ap (λ cs. take front_len children ++ cs) parsed.children);
      count = f.count;
      back = ap (λ o. back_children start end new o children
          (children_of t (splice text start end new))) at ∙ omega arith;
      ordered = r.within;
      within = omega arith;
    }
    go None (Some next) at parsed = absurd (let never : false ≡ true = parsed.at_return in cc)
    go (Some m) None at parsed =
        let offset = meeting_offset start end new old new_tokens m at in
        let (all, none) = children_no_return t text start end new m new_tokens children front_len
        fresh_children offset below f.new_children_are parsed in
        record {
          new_children = last all;
          count = f.count;
          back = ap (λ o. back_children start end new o children
              (children_of t (splice text start end new))) at ∙ none ∙ omega arith;
          ordered = r.within;
          within = omega arith;
        }
    go (Some m) (Some next) at parsed =
        let offset = meeting_offset start end new old new_tokens m at in
        let start_in : start ≤ length text = r.range.starts.0 in
        let after = children_return t law text start end new m new_tokens children front_len next
        fresh_children r.utf8 spliced_utf8 start_in
        offset r.children_are r.closed below f.new_children_are parsed in
        record {
          new_children = after.new_children_are;
          count = f.count;
          back = ap (λ o. back_children start end new o children
              (children_of t (splice text start end new))) at ∙ after.back;
          ordered = elim (cases_lt next front_len) [
            | inl lt ↦ absurd (let le = bytes_take_le children next front_len (omega arith) in
                let late : m ≤ child_bytes (take next children) =
                return_late m next offset parsed in
                let some : 0 < m = offset.some in let past : end ≤ m = offset.past in
                let ordered : start ≤ end = r.range.ordered in let under =
                below (omega arith) in omega arith)
            | inr ge ↦ ge
          ];
          within = parsed.within;
        }
      where
        return_late : (m next : ℕ) → IsMeetingOffset start end new m
            → EndsAtReturn t (splice text start end new) new_tokens children
            (end_of (take front_len children)) (start + length new) end
            (Some (new_offset start end new m)) fresh_children next
            → m ≤ child_bytes (take next children)
        return_late m next offset p =
            return_is_late start end new m children
            (child_bytes (take front_len children) + child_bytes fresh_children)
            (child_bytes (take next children)) offset.past p.at_return p.offset

-- a meeting, in the words of the code
pub meeting_high : (start end : ℕ) (new : List ℕ) (old cut : List Token) (m : Option ℕ)
    → meeting start end new old cut ≡ m → total_len old < 2 ^ 32
    → IfSome m (λ p. (end ≤ p) × (p < 2 ^ 32))
meeting_high start end new old cut None e small = tt
meeting_high start end new old cut (Some m) e small =
    let offset = meeting_offset start end new old cut m e in
    let within = end_within
    0 old m (find_member (is_meeting start end new cut) (token_ends 0 old) m e) in
    (offset.past, omega arith)

-- the new offset of the meeting is at or past the new bytes
pub meeting_from : (start end : ℕ) (new : List ℕ) (old cut : List Token) (m : Option ℕ)
    → meeting start end new old cut ≡ m
    → IfSome (option_map (new_offset start end new) m)
    (λ p. (start + length new ≤ p) × (0 < p - (start + length new) + end))
meeting_from start end new old cut None e = tt
meeting_from start end new old cut (Some m) e =
    let offset = meeting_offset start end new old cut m e in
    let past : end ≤ m = offset.past in
    let some : 0 < m = offset.some in
    (omega arith, omega arith)

pub get_ready : (t : Tells) (text : List ℕ) (start end : ℕ) (new : List ℕ)
    (old new_tokens : List Token) (front : Position) (children : List ChildValue)
    (part : FrontChildren)
    → IsUtf8 text → IsUtf8 new → IsRange text start end → old ≡ tokens_of t text
    → new_tokens ≡ tokens_of t (splice text start end new) → children ≡ children_of t text
    → BeginsWithFront old new_tokens start front
    → AreFrontChildren children front.offset part
    → IsReady t text start end new old new_tokens front children part.len
get_ready t text start end new old new_tokens front children part utf8 new_utf8 range tokens
    new_tokens_are children_are begins f = record {
      utf8 = utf8;
      new_utf8 = new_utf8;
      range = range;
      tokens = tokens;
      new_tokens_are = new_tokens_are;
      children_are = children_are;
      begins = begins;
      closed = f.closed;
      low = subst (λ n. n ≤ front.offset) f.offset f.low;
      stopped =
          subst (λ n. StopsBefore (drop part.len children) (front.offset - n)) f.offset f.stopped;
      within = f.within;
    }

-- the end of front children as a position
end_is : (children : List ChildValue) (part : FrontChildren)
    → part.end.index ≡ child_tokens (take part.len children)
    → part.end.offset ≡ child_bytes (take part.len children)
    → part.end ≡ end_of (take part.len children)
end_is children part index offset = ap (λ n. at n part.end.offset) index
    ∙ ap (λ n. at (child_tokens (take part.len children)) n) offset
  where
    at : ℕ → ℕ → Position
    at n m = record { index = n; offset = m }

-- the parses as the code has them
pub child_edit_in : (t : Tells) → IsLawful t
    → (text : List ℕ) (start end : ℕ) (new : List ℕ) (old new_tokens : List Token)
    (front : Position) (children : List ChildValue) (part : FrontChildren)
    (fresh_children : List ChildValue) (back m new_m : Option ℕ) (new_text : List ℕ) (next : ℕ)
    → IsReady t text start end new old new_tokens front children part.len
    → AreFrontChildren children front.offset part → meeting start end new old new_tokens ≡ m
    → new_text ≡ splice text start end new
    → new_m ≡ option_map (new_offset start end new) m → next ≡ back_child_index children back
    → IsReparse t new_text new_tokens children part.end (start + length new) end new_m
    fresh_children back
    → IsChildEdit t text start end new old new_tokens front.index children part.len fresh_children
    next
child_edit_in t law text start end new old new_tokens front children part fresh_children back m
    new_m new_text next r f meeting_is text_is new_m_is next_is parsed =
    let a = subst (λ w. IsReparse t w new_tokens children part.end (start + length new) end new_m
    fresh_children back) text_is parsed in
    let b = subst (λ q. IsReparse t (splice text start end new) new_tokens children q
    (start + length new) end new_m fresh_children back) (end_is children part f.index f.offset)
    a in
    let d = subst (λ o. IsReparse t (splice text start end new) new_tokens children
    (end_of (take part.len children)) (start + length new) end o fresh_children back) new_m_is b
    in
    subst (λ n. IsChildEdit t text start end new old new_tokens front.index children part.len
    fresh_children n) (sym next_is)
    (child_edit t law text start end new old new_tokens front children part.len fresh_children
    back m r meeting_is d)

pub child_counts : (t : Tells) (text : List ℕ) (start end : ℕ) (new : List ℕ)
    (old new_tokens : List Token) (front : ℕ) (children : List ChildValue) (front_len : ℕ)
    (fresh_children : List ChildValue) (next n : ℕ)
    → old ≡ tokens_of t text → new_tokens ≡ tokens_of t (splice text start end new)
    → children ≡ children_of t text → front ≡ front_tokens text start old
    → IsChildEdit t text start end new old new_tokens front children front_len fresh_children
    next → n ≡ length fresh_children
    → record {
      front_children = front_len;
      parsed_children = n;
      back_children =
          length children - next;
    } ≡ child_counts_of t text start end new
child_counts t text start end new old new_tokens front children front_len fresh_children next n
    old_is new_is children_are front_is r n_is =
    let all = children_of t (splice text start end new) in
    let within : front_len ≤ length children = omega (arith, r.ordered, r.within) in
    let next_in : next ≤ length children = r.within in
    let parsed : length all - front_len - (length children - next) ≡ n =
    omega (
      arith,
      ap length r.new_children,
      length-append (take front_len children)
          (fresh_children ++ drop next children),
      length-append fresh_children
          (drop next children),
      length-take-le front_len children within,
      length-drop next children,
    )
    in
    let out : ℕ → ℕ → ChildCounts =
    λ f b. record {
      front_children = f;
      parsed_children = length all - f - b;
      back_children =
          b;
    } in
    ap (λ k. record {
      front_children = front_len;
      parsed_children = k;
      back_children =
          length children - next;
    }) (sym parsed)
    ∙ ap (λ b. out front_len b) (sym r.back)
    ∙ ap (λ f. out f (back_children start end new (meeting start end new old new_tokens) children
    all)) (sym r.count ∙ ap (λ k. front_children k old children) front_is)
    ∙ ap (λ ts. out (front_children (front_tokens text start ts) ts children)
    (back_children start end new (meeting start end new ts new_tokens) children all)) old_is
    ∙ ap (λ ts. out (front_children (front_tokens text start (tokens_of t text))
    (tokens_of t text) children)
    (back_children start end new (meeting start end new (tokens_of t text) ts) children all))
    new_is
    ∙ ap (λ cs. out (front_children (front_tokens text start (tokens_of t text))
    (tokens_of t text) cs)
    (back_children start end new
    (meeting start end new (tokens_of t text) (tokens_of t (splice text start end new))) cs
    all)) children_are

-- parts of equal views
pub same_text : {F : Type 0} (a b : DocumentValue F) → a ≡ b → a.text ≡ b.text
same_text {F} a b e = ap (λ (h : DocumentValue F). h.text) e

-- what the fronts of equal values tell
pub same_tells : {F : Type 0} (tells : F → Tells) (a b : DocumentValue F) → a ≡ b
    → tells a.front ≡ tells b.front
same_tells {F} tells a b e = ap (λ (h : DocumentValue F). tells h.front) e
