-- A step of a run of parses.
use Rattle.std.proofs.Common.{inl, inr, ◌≡◌, ℕ, zero, suc, ◌+◌, ◌-◌, ◌<◌, ◌≤◌, Bool, true, false, nat_lt, ◌&&◌, eqb, cond, List, [], ◌∷◌, ◌++◌, length, take, drop, refl, sym, ◌∙◌, ap, subst, arith, append_assoc, length-drop, Option, Some}
use Rattle.std.proofs.lemmas.List.{append-nil, drop-drop, drop_all, take-append-drop}
use Rattle.std.proofs.Math.Seq.{take-add}
use Rattle.std.proofs.lemmas.Bool.{cases_lt}
use Rattle.std.proofs.lemmas.Bool.Decides.{nat_tests}
use Rattle.std.specs.List.{list_any}
use Rattle.std.specs.Option.{IfSome}
use Rattle.std.specs.Str.{IsUtf8, IsCharBoundary}
use Rattle.std.proofs.lemmas.Str.{IsCharBoundary-start}
use Rattle.squawk_lexer.specs.declared.token.Token.{Token}
use Rattle.squawk_cut.specs.ChildValue.{ChildValue}
use Rattle.squawk_cut.specs.Tells.{Tells, IsLawful, text_token_bytes}
use Rattle.squawk_cut.specs.Tokens.{tokens_from, tokens_of}
use Rattle.squawk_cut.specs.Children.{text_tokens, children_from}
use Rattle.squawk_document.specs.Boundaries.{is_among, total_len}
use Rattle.squawk_document.specs.ChildEdit.{EndsAtReturn, IsParsedSoFar, ReturnsNowhere, children_at, is_new_return}
use Rattle.squawk_document.specs.ChildEnds.{is_quiet, quiet_ends}
use Rattle.squawk_document.specs.FrontPart.{AllClosed, StopsBefore, all_closed}
use Rattle.squawk_cut.specs.Join.{child_bytes}
use Rattle.squawk_document.specs.declared.skip.Position.{Position}
use Rattle.squawk_document.proofs.OffsetTests.{Positive, total_len-append, or_parts, and_parts, same_offset, none_by, member_fails}
use Rattle.squawk_document.proofs.Cutting.{tokens_positive, tokens_total, restart}
use Rattle.squawk_document.proofs.TokenEditSteps.{from_end}
use Rattle.squawk_document.proofs.ChildCutting.{children_first, length_text_tokens, bytes_text_tokens, drop_text_tokens, take_text_tokens}
use Rattle.squawk_document.proofs.ChildMeeting.{quiet_parts, quiet_at}

-- the bytes of the first i + n tokens
total_take_more : (ts : List Token) (i n : ℕ)
    → total_len (take (i + n) ts) ≡ total_len (take i ts) + total_len (take n (drop i ts))
total_take_more ts i n = ap total_len (take-add i n ts)
    ∙ total_len-append (take i ts) (take n (drop i ts))

-- tokens without a byte are none
none_taken : (ts : List Token) (i : ℕ) → Positive ts → i ≤ length ts → total_len (take i ts) ≡ 0
    → i ≡ 0
none_taken ts zero p h e = refl
none_taken [] (suc i) p h e = absurd (omega arith)
none_taken (x ∷ xs) (suc i) p h e = absurd (let some : 0 < x.len = p.0 in omega arith)

-- the tokens from one on, by the offset at which it begins
pub tokens_at : (t : Tells) → IsLawful t → (u : List ℕ) (ts : List Token) (at i : ℕ) → IsUtf8 u
    → ts ≡ tokens_of t u → at ≡ total_len (take i ts) → i ≤ length ts
    → drop i ts ≡ tokens_from t 0 (eqb at 0) (drop at u)
tokens_at t law u ts at i utf8 is offset within = elim (cases_lt 0 at) [
  | inl some ↦
      let off : eqb at 0 ≡ false = grind (arith, nat_tests) in
      from_end t law u ts i utf8 is (subst (λ n. 0 < n) offset some)
      ∙ ap (λ n. tokens_from t 0 false (drop n u)) (sym offset)
      ∙ ap (λ b. tokens_from t 0 b (drop at u)) (sym off)
  | inr none ↦
      let at_zero : at ≡ 0 = omega arith in
      let i_zero : i ≡ 0 = none_taken ts i (tokens_positive t law true u ts utf8 (sym is)) within
      (sym offset ∙ at_zero) in
      rw (at_zero, i_zero) is
]

-- what one more child gives
pub record IsNextChild (t : Tells) (text : List ℕ) (tokens : List Token) (at i : ℕ)
    (c : ChildValue) : Type 0 where
  pub children : children_at t text tokens at i ≡ c ∷ children_at t text tokens (at + c.bytes)
      (i + c.tokens)
  pub index : at + c.bytes ≡ total_len (take (i + c.tokens) tokens)
  pub within : i + c.tokens ≤ length tokens
  pub past : i < i + c.tokens
  pub inside : at + c.bytes ≤ length text

-- what one more parse gives
pub next_child : (t : Tells) → IsLawful t
    → (text : List ℕ) (tokens : List Token) (at i : ℕ) (c : ChildValue) → IsUtf8 text
    → tokens ≡ tokens_of t text → at ≡ total_len (take i tokens) → i < length tokens
    → c ≡ t.child_at (text_tokens (drop at text) (drop i tokens)) → IsNextChild t text tokens at i c
next_child t law text tokens at i c utf8 is index inside child =
    let ls = text_tokens (drop at text) (drop i tokens) in
    let rest_len = length-drop i tokens in
    let len : length ls
    ≡ length (drop i tokens) = length_text_tokens (drop at text) (drop i tokens) in
    let filled : 0 < length ls = omega arith in
    let some : 0 < c.tokens =
    subst (λ (d : ChildValue). 0 < d.tokens) (sym child) (law.child_some ls filled) in
    let low : c.tokens ≤ length ls = subst (λ (d : ChildValue). d.tokens ≤ length ls) (sym child)
    (law.child_within ls filled) in
    let bytes : c.bytes ≡ text_token_bytes (take c.tokens ls) =
    subst (λ (d : ChildValue). d.bytes ≡ text_token_bytes (take d.tokens ls)) (sym child)
    (law.child_bytes ls filled) in
    let within : c.tokens ≤ length (drop i tokens) = omega arith in
    let bytes_is : c.bytes ≡ total_len (take c.tokens (drop i tokens)) = bytes
    ∙ ap text_token_bytes (take_text_tokens (drop at text) (drop i tokens) c.tokens within)
    ∙ bytes_text_tokens (drop at text) (take c.tokens (drop i tokens)) in
    let offset : at + c.bytes ≡ total_len (take (i + c.tokens) tokens) =
    omega (arith, total_take_more tokens i c.tokens) in
    let left : drop c.tokens ls
    ≡ text_tokens (drop (at + c.bytes) text) (drop (i + c.tokens) tokens) =
    drop_text_tokens (drop at text) (drop i tokens) c.tokens within
    ∙ ap (λ n. text_tokens (drop n (drop at text)) (drop c.tokens (drop i tokens))) (sym bytes_is)
    ∙ ap (λ w. text_tokens w (drop c.tokens (drop i tokens))) (drop-drop c.bytes at text)
    ∙ ap (text_tokens (drop (at + c.bytes) text)) (drop-drop c.tokens i tokens) in
    let all = total_len-append (take (i + c.tokens) tokens) (drop (i + c.tokens) tokens) in
    let whole = ap total_len (take-append-drop (i + c.tokens) tokens) in
    record {
      children = children_first t law ls filled
          ∙ ap (λ (d : ChildValue). d ∷ children_from t 0 (drop d.tokens ls)) (sym child)
          ∙ ap (λ xs. c ∷ children_from t 0 xs) left;
      index = offset;
      within = omega arith;
      past = omega arith;
      inside = omega (arith, tokens_total t law true text tokens utf8 (sym is), all, whole);
    }

-- the test with one more child
all_closed_push : (xs : List ChildValue) (c : ChildValue)
    → all_closed (xs ++ c ∷ []) ≡ (all_closed xs && c.closed)
all_closed_push [] c = by c.closed
  where
    by : (b : Bool) → (b && true) ≡ b
    by true = refl
    by false = refl
all_closed_push (x ∷ xs) c = by x.closed (all_closed_push xs c)
  where
    by : (b : Bool) → all_closed (xs ++ c ∷ []) ≡ (all_closed xs && c.closed)
        → (b && all_closed (xs ++ c ∷ [])) ≡ ((b && all_closed xs) && c.closed)
    by true e = e
    by false e = refl

-- what the test says
pub closed_says : (xs : List ChildValue) → all_closed xs ≡ true → AllClosed xs
closed_says [] e = tt
closed_says (x ∷ xs) e = let (a, b) = and_parts x.closed (all_closed xs) e in (a, closed_says xs b)

-- the test passes on closed children
closed_is : (xs : List ChildValue) → AllClosed xs → all_closed xs ≡ true
closed_is [] c = refl
closed_is (x ∷ xs) c = rw c.0 (closed_is xs c.1)

-- no return at one more end
unmet_more : (q : ℕ → Bool) (first : ℕ) (fresh_children : List ChildValue) (c : ChildValue) (at : ℕ)
    (only_closed : Bool) → at ≡ first + child_bytes fresh_children
    → only_closed ≡ (all_closed fresh_children && c.closed)
    → (only_closed && q (at + c.bytes)) ≡ false
    → list_any q (quiet_ends first fresh_children) ≡ false
    → list_any q (quiet_ends first (fresh_children ++ c ∷ [])) ≡ false
unmet_more q first fresh_children c at only_closed offset is fails none =
    none_by q (quiet_ends first (fresh_children ++ c ∷ [])) (λ e member.
    elim (quiet_parts first fresh_children (c ∷ []) e member) [
      | inl here ↦ member_fails q (quiet_ends first fresh_children) e none here
      | inr last ↦ at_last c.closed refl (closed_is fresh_children last.0) last.1
    ])
  where
    at_last : {e : ℕ} (b : Bool) → c.closed ≡ b → all_closed fresh_children ≡ true
        → is_among (cond b ((first + child_bytes fresh_children + c.bytes) ∷ []) []) e ≡ true
        → q e ≡ false
    at_last {e} true closed all m =
        elim (or_parts (eqb (first + child_bytes fresh_children + c.bytes) e) false m) [
          | inl here ↦
              let same : first + child_bytes fresh_children + c.bytes ≡ e =
              same_offset (first + child_bytes fresh_children + c.bytes) e here in
              let at_e : at + c.bytes ≡ e = omega arith in
              let on : only_closed ≡ true = is ∙ rw (all, closed) refl in
              ap q (sym at_e) ∙ rw on at fails
          | inr nothing ↦ absurd (cc)
        ]
    at_last {e} false closed all m = absurd (cc)

-- one more child, at whose end the children do not return
pub parsing_more : (t : Tells) → IsLawful t
    → (text : List ℕ) (tokens : List Token) (old : List ChildValue) (origin : Position)
    (new_end end : ℕ) (m : Option ℕ) (fresh_children more : List ChildValue) (at i : ℕ)
    (only_closed now : Bool) (c : ChildValue)
    → IsParsedSoFar t text tokens old origin new_end end m fresh_children at i only_closed
    → IsNextChild t text tokens at i c → more ≡ fresh_children ++ c ∷ []
    → now ≡ (only_closed && c.closed)
    → (now && is_new_return new_end end m old (at + c.bytes)) ≡ false
    → IsParsedSoFar t text tokens old origin
    new_end end m more (at + c.bytes) (i + c.tokens) now
parsing_more t law text tokens old origin
    new_end end m fresh_children more at i only_closed now c parsing n push now_is fails =
    let offset : at ≡ origin.offset + child_bytes fresh_children = parsing.offset in
    let now_closed : now ≡ (all_closed fresh_children && c.closed) = now_is
    ∙ ap (λ b. b && c.closed) parsing.only_closed_is in
    subst (λ cs. IsParsedSoFar t text tokens old origin
    new_end end m cs (at + c.bytes) (i + c.tokens) now) (sym push) (record {
      children = parsing.children ∙ ap (λ cs. fresh_children ++ cs) n.children
          ∙ sym (append_assoc fresh_children (c ∷ [])
          (children_at t text tokens (at + c.bytes) (i + c.tokens)));
      offset = omega (arith, bytes_push fresh_children c);
      index = n.index;
      within = n.within;
      only_closed_is = now_closed ∙ sym (all_closed_push fresh_children c);
      none_returns = unmet_more (is_new_return new_end end m old) origin.offset fresh_children c at
          now parsing.offset now_closed fails parsing.none_returns;
    })
  where
    bytes_push : (xs : List ChildValue) (c : ChildValue)
        → child_bytes (xs ++ c ∷ []) ≡ child_bytes xs + c.bytes
    bytes_push [] c = omega arith
    bytes_push (x ∷ xs) c = omega (arith, bytes_push xs c)

-- one more child, at whose end the children return
pub parsing_returns : (t : Tells) → IsLawful t
    → (text : List ℕ) (tokens : List Token) (old : List ChildValue) (origin : Position)
    (new_end end : ℕ) (m : Option ℕ) (fresh_children more : List ChildValue) (at i next : ℕ)
    (only_closed now : Bool) (c : ChildValue)
    → IsParsedSoFar t text tokens old origin new_end end m fresh_children at i only_closed
    → IsNextChild t text tokens at i c → more ≡ fresh_children ++ c ∷ []
    → now ≡ (only_closed && c.closed) → now ≡ true
    → is_new_return new_end end m old (at + c.bytes) ≡ true → next ≤ length old
    → AllClosed (take next old) → child_bytes (take next old) ≡ at + c.bytes - new_end + end
    → EndsAtReturn t text tokens old origin new_end end m more next
parsing_returns t law text tokens old origin
    new_end end m fresh_children more at i next only_closed now c parsing n push now_is on at_return
    within old_closed here =
    let offset : at ≡ origin.offset + child_bytes fresh_children = parsing.offset in
    let now_closed : now ≡ (all_closed fresh_children && c.closed) = now_is
    ∙ ap (λ b. b && c.closed) parsing.only_closed_is in
    let offset_more : at + c.bytes ≡ origin.offset + child_bytes (fresh_children ++ c ∷ []) =
    omega (arith, bytes_push fresh_children c) in
    subst (λ cs. EndsAtReturn t text tokens old origin new_end end m cs next) (sym push) (record {
      before = fresh_children;
      last = c;
      parts = refl;
      none_returns = parsing.none_returns;
      rest = children_at t text tokens (at + c.bytes) (i + c.tokens);
      children = parsing.children ∙ ap (λ cs. fresh_children ++ cs) n.children
          ∙ sym (append_assoc fresh_children (c ∷ [])
          (children_at t text tokens (at + c.bytes) (i + c.tokens)));
      closed = closed_says (fresh_children ++ c ∷ [])
          (all_closed_push fresh_children c ∙ sym now_closed ∙ on);
      at_return = ap (is_new_return new_end end m old) (sym offset_more) ∙ at_return;
      within = within;
      old_closed = old_closed;
      offset = here ∙ ap (λ k. k - new_end + end) offset_more;
    })
  where
    bytes_push : (xs : List ChildValue) (c : ChildValue)
        → child_bytes (xs ++ c ∷ []) ≡ child_bytes xs + c.bytes
    bytes_push [] c = omega arith
    bytes_push (x ∷ xs) c = omega (arith, bytes_push xs c)

pub parsing_ends : (t : Tells) (text : List ℕ) (tokens : List Token) (old : List ChildValue)
    (origin : Position) (new_end end : ℕ) (m : Option ℕ) (fresh_children : List ChildValue)
    (at i : ℕ) (only_closed : Bool)
    → IsParsedSoFar t text tokens old origin new_end end m fresh_children at i only_closed
    → length tokens ≤ i → ReturnsNowhere t text tokens old origin new_end end m fresh_children
parsing_ends t text tokens old origin new_end end m fresh_children at i only_closed parsing past =
    record {
      children = parsing.children
          ∙ ap (λ ts. fresh_children ++ children_from t 0 (text_tokens (drop at text) ts))
          (drop_all i tokens past) ∙ append-nil fresh_children;
      none_returns = parsing.none_returns;
    }

-- the test for a return, by where the skipped children end
pub is_new_return_at : (old : List ChildValue) (next p new_end end m q : ℕ) → m ≤ p
    → q ≡ p - new_end + end → 0 < q → AllClosed (take next old) → child_bytes (take next old) ≤ q
    → StopsBefore (drop next old) (q - child_bytes (take next old))
    → eqb (child_bytes (take next old)) q ≡ is_new_return new_end end (Some m) old p
is_new_return_at old next p new_end end m q low is some closed under stopped =
    let a : nat_lt p m ≡ false = grind (arith, nat_tests) in
    let b : is_quiet old (p - new_end + end) ≡ eqb (child_bytes (take next old)) q =
    ap (is_quiet old) (sym is) ∙ ap (λ cs. is_quiet cs q) (sym (take-append-drop next old))
    ∙ quiet_at (take next old) (drop next old) q some closed under stopped in
    rw (a, b) refl

-- the same in the words of the code
pub new_return_here : (old : List ChildValue) (next offset p new_end end m : ℕ) (meeting : Option ℕ)
    → meeting ≡ Some m → IfSome meeting (λ m. (new_end ≤ m) × (0 < m - new_end + end)) → m ≤ p
    → offset ≡ child_bytes (take next old) → AllClosed (take next old)
    → offset ≤ p - new_end + end → StopsBefore (drop next old) (p - new_end + end - offset)
    → eqb offset (p - new_end + end) ≡ is_new_return new_end end meeting old p
new_return_here old next offset p new_end end m meeting is above low offset_is closed under stopped
    =
    let high : (new_end ≤ m) × (0 < m - new_end + end) = rw is at above in
    let first : new_end ≤ m = high.0 in
    let some : 0 < m - new_end + end = high.1 in
    ap (λ n. eqb n (p - new_end + end)) offset_is
    ∙ is_new_return_at old next p new_end end m (p - new_end + end) low refl (omega arith) closed
    (subst (λ n. n ≤ p - new_end + end) offset_is under)
    (subst (λ n. StopsBefore (drop next old) (p - new_end + end - n)) offset_is stopped)
    ∙ ap (λ o. is_new_return new_end end o old p) (sym is)

-- a token that is left lies in the text
pub inside_text : (t : Tells) → IsLawful t → (text : List ℕ) (tokens : List Token) (at i : ℕ)
    → IsUtf8 text → tokens ≡ tokens_of t text → at ≡ total_len (take i tokens) → i < length tokens
    → at < length text
inside_text t law text tokens at i utf8 is index h =
    let pos = tokens_positive t law true text tokens utf8 (sym is) in
    omega (arith, tokens_total t law true text tokens utf8 (sym is), below tokens i pos h)
  where
    below : (ts : List Token) (i : ℕ) → Positive ts → i < length ts
        → total_len (take i ts) < total_len ts
    below [] i p h = absurd (omega arith)
    below (x ∷ xs) zero p h = let some : 0 < x.len = p.0 in omega arith
    below (x ∷ xs) (suc i) p h = omega (arith, below xs i p.1 (omega arith))

-- the steps in the words of the code: b bytes and n tokens of the child
pub parsing_step : (t : Tells) → IsLawful t
    → (text : List ℕ) (tokens : List Token) (old : List ChildValue) (origin : Position)
    (new_end end : ℕ) (m : Option ℕ) (fresh_children more : List ChildValue) (at i b n : ℕ)
    (only_closed now matches both : Bool) (c : ChildValue)
    → IsParsedSoFar t text tokens old origin new_end end m fresh_children at i only_closed
    → IsNextChild t text tokens at i c → more ≡ fresh_children ++ c ∷ [] → b ≡ c.bytes
    → n ≡ c.tokens → now ≡ (only_closed && c.closed)
    → matches ≡ is_new_return new_end end m old (at + b) → both ≡ (now && matches) → both ≡ false
    → IsParsedSoFar t text tokens old origin new_end end m more (at + b) (i + n) now
parsing_step t law text tokens old origin
    new_end end m fresh_children more at i b n only_closed now matches both c parsing next push b_is
    n_is now_is matches_is both_is fails =
    let matches_c : matches ≡ is_new_return new_end end m old (at + c.bytes) = matches_is
    ∙ ap (λ k. is_new_return new_end end m old (at + k)) b_is in
    let no_both : (now && is_new_return new_end end m old (at + c.bytes)) ≡ false =
    ap (λ r. now && r) (sym matches_c) ∙ sym both_is ∙ fails in
    let done = parsing_more t law text tokens old origin
    new_end end m fresh_children more at i only_closed now c parsing next push now_is no_both in
    subst (λ k. IsParsedSoFar t text tokens old origin new_end end m more (at + k) (i + n) now)
    (sym b_is) (subst (λ k. IsParsedSoFar t text tokens old origin
    new_end end m more (at + c.bytes) (i + k) now) (sym n_is) done)

-- the last step in the words of the code
pub parsing_stop : (t : Tells) → IsLawful t
    → (text : List ℕ) (tokens : List Token) (old : List ChildValue) (origin : Position)
    (new_end end : ℕ) (m : Option ℕ) (fresh_children more : List ChildValue)
    (at i next b offset : ℕ) (only_closed now matches both : Bool) (c : ChildValue)
    → IsParsedSoFar t text tokens old origin new_end end m fresh_children at i only_closed
    → IsNextChild t text tokens at i c → more ≡ fresh_children ++ c ∷ [] → b ≡ c.bytes
    → now ≡ (only_closed && c.closed)
    → matches ≡ is_new_return new_end end m old (at + b) → both ≡ (now && matches) → both ≡ true
    → next ≤ length old → AllClosed (take next old) → offset ≡ child_bytes (take next old)
    → (matches ≡ true → offset ≡ at + b - new_end + end)
    → EndsAtReturn t text tokens old origin new_end end m more next
parsing_stop t law text tokens old origin
    new_end end m fresh_children more at i next b offset only_closed now matches both c parsing n
    push b_is now_is matches_is both_is on within closed offset_is same =
    let (now_on, matches_on) = and_parts now matches (sym both_is ∙ on) in
    parsing_returns t law text tokens old origin
    new_end end m fresh_children more at i next only_closed now c parsing n push now_is now_on
    (ap (λ k. is_new_return new_end end m old (at + k)) (sym b_is) ∙ sym matches_is
    ∙ matches_on) within closed
    (sym offset_is ∙ same matches_on ∙ ap (λ k. at + k - new_end + end) b_is)

-- tokens end between characters
ends_between : (t : Tells) → IsLawful t → (u : List ℕ) (xs ys : List Token) → IsUtf8 u
    → tokens_from t 0 true u ≡ xs ++ ys → IsCharBoundary u (total_len xs)
ends_between t law u [] ys utf8 e = IsCharBoundary-start u utf8
ends_between t law u (x ∷ xs) ys utf8 e = (restart t law true u x xs ys utf8 e).boundary

-- a token of a text begins at a character boundary
pub boundary_of : (t : Tells) → IsLawful t → (u : List ℕ) (ts : List Token) (at i : ℕ) → IsUtf8 u
    → ts ≡ tokens_of t u → at ≡ total_len (take i ts) → IsCharBoundary u at
boundary_of t law u ts at i utf8 is offset =
    subst (IsCharBoundary u) (sym offset)
    (ends_between t law u (take i ts) (drop i ts) utf8 (sym is ∙ sym (take-append-drop i ts)))
