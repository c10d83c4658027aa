-- Where the tokens of two texts meet, seen from the old text and from the new one.
use Rattle.std.proofs.Common.{inl, inr, ◌⊎◌, ◌≡◌, ℕ, zero, suc, ◌+◌, ◌-◌, ◌<◌, ◌≤◌, Bool, true, false, not, nat_lt, ◌||◌, ◌&&◌, eqb, List, [], ◌∷◌, ◌++◌, length, refl, sym, ◌∙◌, ap, subst, arith, append_assoc, length-append, Some, None}
use Rattle.std.proofs.lemmas.List.{append-nil}
use Rattle.std.proofs.lemmas.Bool.Decides.{nat_tests}
use Rattle.std.specs.List.{list_any, position_or_len, find}
use Rattle.squawk_document.specs.Boundaries.{is_among, is_boundary, new_offset, total_len}
use Rattle.squawk_document.specs.EditedTokens.{back_tokens, is_meeting, meeting}
use Rattle.squawk_document.specs.Recut.{is_new_meeting}
use Rattle.squawk_lexer.specs.Cut.{token_ends}
use Rattle.squawk_lexer.specs.declared.token.Token.{Token}
use Rattle.squawk_document.proofs.OffsetTests.{not_true, Positive, Positive-right, total_len-append, token_ends-append, length-token_ends, any-append, and_parts, or_parts, is_false, same_offset, none_by, member_fails, first_at, first_none, or_none, end_above, end_within, end_of_all}

-- what a meeting says
pub record AtMeeting (start end : ℕ) (new : List ℕ) (cut : List Token) (p : ℕ) : Type 0 where
  pub past : end ≤ p
  pub some : 0 < p
  pub new_some : 0 < new_offset start end new p
  pub boundary : is_among (token_ends 0 cut) (new_offset start end new p) ≡ true

-- what the test for a meeting says
pub is_meeting_says : (start end : ℕ) (new : List ℕ) (cut : List Token) (p : ℕ)
    → is_meeting start end new cut p ≡ true → AtMeeting start end new cut p
is_meeting_says start end new cut p e =
    let (low, high) = and_parts (not (nat_lt p end) && nat_lt 0 p)
    (nat_lt 0 (new_offset start end new p) && is_boundary cut (new_offset start end new p)) e in
    let (a, b) = and_parts (not (nat_lt p end)) (nat_lt 0 p) low in
    let (c, d) = and_parts (nat_lt 0 (new_offset start end new p))
    (is_boundary cut (new_offset start end new p)) high in
    let a_is = not_true (nat_lt p end) a in
    let some : 0 < new_offset start end new p = grind (arith, nat_tests) in
    record {
      past = grind (arith, nat_tests);
      some = grind (arith, nat_tests);
      new_some = some;
      boundary = elim (or_parts (eqb (new_offset start end new p) 0)
          (is_among (token_ends 0 cut) (new_offset start end new p)) d) [
            | inl z ↦
                absurd (let same = same_offset (new_offset start end new p) 0 z in omega arith)
            | inr m ↦ m
          ];
    }

-- the test for a meeting passes where its facts hold
pub is_meeting_from : (start end : ℕ) (new : List ℕ) (cut : List Token) (p : ℕ)
    → AtMeeting start end new cut p → is_meeting start end new cut p ≡ true
is_meeting_from start end new cut p m =
    let past : end ≤ p = m.past in
    let some : 0 < p = m.some in
    let new_some : 0 < new_offset start end new p = m.new_some in
    let a : nat_lt p end ≡ false = grind (arith, nat_tests) in
    let b : nat_lt 0 p ≡ true = grind (arith, nat_tests) in
    let c : nat_lt 0 (new_offset start end new p) ≡ true = grind (arith, nat_tests) in
    let d : eqb (new_offset start end new p) 0 ≡ false = grind (arith, nat_tests) in
    rw (a, b, c, d) m.boundary

-- the same test from the other side
is_new_meeting_from : (new_end end : ℕ) (old : List Token) (x p : ℕ) → new_end ≤ x
    → p ≡ x - new_end + end → 0 < p → is_among (token_ends 0 old) p ≡ true
    → is_new_meeting new_end end old x ≡ true
is_new_meeting_from new_end end old x p low is some m =
    let a : nat_lt x new_end ≡ false = grind (arith, nat_tests) in
    let b : nat_lt 0 (x - new_end + end) ≡ true = grind (arith, nat_tests) in
    let c : eqb (x - new_end + end) 0 ≡ false = grind (arith, nat_tests) in
    let d : is_among (token_ends 0 old) (x - new_end + end) ≡ true =
    ap (is_among (token_ends 0 old)) (sym is) ∙ m in
    rw (a, b, c, d) refl

-- an end of the new tokens past the front ones is one of the others
past_front : (fr rest : List Token) (x : ℕ) → total_len fr < x
    → is_among (token_ends 0 (fr ++ rest)) x ≡ true
    → is_among (token_ends (total_len fr) rest) x ≡ true
past_front fr rest x past m =
    let split = ap (λ es. is_among es x) (token_ends-append 0 fr rest)
    ∙ any-append (λ q. eqb q x) (token_ends 0 fr) (token_ends (0 + total_len fr) rest) in
    let zero_in : 0 + total_len fr ≡ total_len fr = omega arith in
    elim (or_parts (is_among (token_ends 0 fr) x) (is_among (token_ends (0 + total_len fr) rest) x)
    (sym split ∙ m)) [
      | inl e ↦ absurd (let within = end_within 0 fr x e in omega arith)
      | inr e ↦ ap (λ n. is_among (token_ends n rest) x) (sym zero_in) ∙ e
    ]

-- the front tokens end below start, or there are none
abbrev pub IsLow : List Token → ℕ → Type 0
IsLow fr start = 0 < total_len fr → total_len fr < start

-- no old end meets, where no new end does
no_meeting : (start end : ℕ) (new : List ℕ) (old cut fr fresh_tokens back : List Token) (p : ℕ)
    → cut ≡ fr ++ (fresh_tokens ++ back) → IsLow fr start
    → list_any (is_new_meeting (start + length new) end old)
    (token_ends (total_len fr) fresh_tokens) ≡ false
    → is_among (token_ends 0 old) p ≡ true
    → (is_among (token_ends (total_len fr + total_len fresh_tokens) back)
    (new_offset start end new p) ≡ true → end ≤ p → ⊥) → is_meeting start end new cut p ≡ false
no_meeting start end new old cut fr fresh_tokens back p cut_is low none_meets member none_after =
    is_false (is_meeting start end new cut p) (λ e.
    let m = is_meeting_says start end new cut p e in
    let past : end ≤ p = m.past in
    let new_some : 0 < new_offset start end new p = m.new_some in
    let above : total_len fr < new_offset start end new p =
    elim (cases (total_len fr)) [
      | inl z ↦ omega arith
      | inr some ↦ let l = low some in
          omega arith
    ] in
    let inside = past_front fr (fresh_tokens ++ back) (new_offset start end new p) above
    (ap (λ ts. is_among (token_ends 0 ts) (new_offset start end new p)) (sym cut_is)
    ∙ m.boundary) in
    let split = ap (λ es. is_among es (new_offset start end new p))
    (token_ends-append (total_len fr) fresh_tokens back)
    ∙ any-append (λ q. eqb q (new_offset start end new p))
    (token_ends (total_len fr) fresh_tokens)
    (token_ends (total_len fr + total_len fresh_tokens) back) in
    elim (or_parts _ _ (sym split ∙ inside)) [
      | inl here ↦
          let fails = member_fails (is_new_meeting (start + length new) end old)
          (token_ends (total_len fr) fresh_tokens) (new_offset start end new p) none_meets here
          in
          let passes = is_new_meeting_from (start + length new) end old (new_offset start end new p)
          p (omega arith) (omega arith) m.some member in
          absurd (let same : true ≡ false = sym passes ∙ fails in cc)
      | inr there ↦ none_after there past
    ])
  where
    cases : (n : ℕ) → (n ≡ 0) ⊎ (0 < n)
    cases zero = inl refl
    cases (suc n) = inr (omega arith)

-- no meeting at all
pub no_back_tokens : (start end : ℕ) (new : List ℕ) (old cut fr fresh_tokens : List Token)
    → cut ≡ fr ++ fresh_tokens → IsLow fr start
    → list_any (is_new_meeting (start + length new) end old)
    (token_ends (total_len fr) fresh_tokens) ≡ false → back_tokens start end new old cut ≡ 0
no_back_tokens start end new old cut fr fresh_tokens cut_is low none_meets =
    let all : cut ≡ fr ++ (fresh_tokens ++ []) = cut_is
    ∙ ap (λ ts. fr ++ ts) (sym (append-nil fresh_tokens)) in
    let none = none_by (is_meeting start end new cut) (token_ends 0 old)
    (λ p m. no_meeting start end new old cut fr fresh_tokens [] p all low none_meets m
    (λ e l. absurd (cc))) in
    omega (
      arith,
      first_none (is_meeting start end new cut)
          (token_ends 0 old) none,
      length-token_ends 0 old,
    )

-- the first old end that meets
pub record FirstMeeting (start end : ℕ) (new : List ℕ) (old cut : List Token)
    (p n : ℕ) : Type 0 where
  pub earlier_ends : List ℕ
  pub later_ends : List ℕ
  pub ends_is : token_ends 0 old ≡ earlier_ends ++ (p ∷ later_ends)
  pub none : list_any (is_meeting start end new cut) earlier_ends ≡ false
  pub passes : is_meeting start end new cut p ≡ true
  pub len : length earlier_ends + 1 + n ≡ length old

-- a meeting at the end of the last cut token
pub first_meeting : (start end : ℕ) (new : List ℕ) (old cut fr before back earlier : List Token)
    (last old_last : Token)
    → cut ≡ fr ++ ((before ++ last ∷ []) ++ back) → old ≡ (earlier ++ old_last ∷ []) ++ back
    → IsLow fr start → start ≤ end → Positive cut → Positive old
    → list_any (is_new_meeting (start + length new) end old)
    (token_ends (total_len fr) before) ≡ false
    → start + length new ≤ total_len fr + total_len (before ++ last ∷ [])
    → total_len (earlier ++ old_last ∷ []) ≡ total_len fr + total_len (before ++ last ∷ []) -
    (start + length new) + end
    → FirstMeeting start end new old cut (total_len (earlier ++ old_last ∷ [])) (length back)
first_meeting start end new old cut fr before back earlier last old_last cut_is old_is low ordered
    cut_some old_some none_meets past here =
    let p = total_len (earlier ++ old_last ∷ []) in
    let r = total_len fr + total_len (before ++ last ∷ []) in
    let cut_parts : cut ≡ fr ++ (before ++ (last ∷ back)) = cut_is
    ∙ ap (λ ts. fr ++ ts) (append_assoc before (last ∷ []) back) in
    let old_parts : old ≡ earlier ++ (old_last ∷ back) = old_is
    ∙ append_assoc earlier (old_last ∷ []) back in
    let last_some : Positive (last ∷ back) =
    Positive-right before (last ∷ back)
    (Positive-right fr (before ++ (last ∷ back)) (subst Positive cut_parts cut_some)) in
    let old_last_some : Positive (old_last ∷ back) =
    Positive-right earlier (old_last ∷ back) (subst Positive old_parts old_some) in
    let old_last_len : 0 < old_last.len = old_last_some.0 in
    let last_len : 0 < last.len = last_some.0 in
    let p_is : p ≡ total_len earlier + old_last.len = total_len-append earlier (old_last ∷ [])
    ∙ omega arith in
    let r_is : r ≡ total_len fr + total_len before + last.len =
    omega (arith, total_len-append before (last ∷ [])) in
    let offset : new_offset start end new p ≡ r = omega arith in
    let r_member : is_among (token_ends 0 cut) r ≡ true =
    ap (λ ts. is_among (token_ends 0 ts) r) cut_is
    ∙ ap (λ ts. is_among (token_ends 0 ts) r) (sym (append_assoc fr (before ++ last ∷ []) back))
    ∙ ap (λ es. is_among es r) (token_ends-append 0 (fr ++ (before ++ last ∷ [])) back)
    ∙ any-append (λ q. eqb q r) (token_ends 0 (fr ++ (before ++ last ∷ []))) _
    ∙ or_true _ _ (ap (λ ts. is_among (token_ends 0 ts) r)
    (sym (append_assoc fr before (last ∷ [])))
    ∙ end_of_last (fr ++ before) last r (omega (arith, total_len-append fr before))) in
    let passes : is_meeting start end new cut p ≡ true =
    is_meeting_from start end new cut p
    (record {
      past = omega arith;
      some = omega arith;
      new_some = omega arith;
      boundary =
          ap (is_among (token_ends 0 cut)) offset ∙ r_member;
    }) in
    let none : list_any (is_meeting start end new cut) (token_ends 0 earlier) ≡ false =
    none_by (is_meeting start end new cut) (token_ends 0 earlier) (λ e m.
    let under = end_within 0 earlier e m in
    let member : is_among (token_ends 0 old) e ≡ true =
    ap (λ ts. is_among (token_ends 0 ts) e) old_parts
    ∙ ap (λ es. is_among es e) (token_ends-append 0 earlier (old_last ∷ back))
    ∙ any-append (λ q. eqb q e) (token_ends 0 earlier) _ ∙ or_true _ _ m in
    no_meeting start end new old cut fr before (last ∷ back) e cut_parts low none_meets member
    (λ there late.
    elim (or_parts (eqb (total_len fr + total_len before + last.len) (new_offset start end new e))
    (is_among (token_ends (total_len fr + total_len before + last.len) back)
    (new_offset start end new e)) there) [
      | inl at_r ↦ absurd (let same =
          same_offset (total_len fr + total_len before + last.len) (new_offset start end new e)
          at_r in omega arith)
      | inr later ↦ absurd
          (let above = end_above (total_len fr + total_len before + last.len) back
          (new_offset start end new e) last_some.1 later in omega arith)
    ])) in
    let p_end : 0 + total_len earlier + old_last.len ≡ p = omega arith in
    let ends_is : token_ends 0 old ≡ token_ends 0 earlier ++ (p ∷ token_ends p back) =
    ap (token_ends 0) old_parts ∙ token_ends-append 0 earlier (old_last ∷ back)
    ∙ ap (λ n. token_ends 0 earlier ++ (n ∷ token_ends n back)) p_end in
    record {
      earlier_ends = token_ends 0 earlier;
      later_ends = token_ends p back;
      ends_is = ends_is;
      none = none;
      passes = passes;
      len = omega (
        arith,
        length-token_ends 0 earlier,
        ap length old_parts,
        length-append earlier
            (old_last ∷ back),
      );
    }
  where
    or_true : (a b : Bool) → a ≡ true → (a || b) ≡ true
    or_true true b e = refl
    or_true false b e = absurd (cc)

    end_of_last : (xs : List Token) (x : Token) (p : ℕ) → p ≡ total_len xs + x.len
        → is_among (token_ends 0 (xs ++ x ∷ [])) p ≡ true
    end_of_last [] x p e = end_of_all 0 x [] p (omega arith)
    end_of_last (y ∷ ys) x p e =
        end_of_all 0 y (ys ++ x ∷ []) p (omega (arith, total_len-append ys (x ∷ [])))

-- the number of back tokens, where the first meeting is known
pub meeting_back : (start end : ℕ) (new : List ℕ) (old cut : List Token) (p n : ℕ)
    → FirstMeeting start end new old cut p n → back_tokens start end new old cut ≡ n
meeting_back start end new old cut p n f =
    let first = ap (position_or_len (is_meeting start end new cut)) f.ends_is
    ∙ first_at (is_meeting start end new cut) f.earlier_ends p f.later_ends f.none f.passes in
    omega (arith, first, f.len)

-- the first that passes is found
find_at : (q : ℕ → Bool) (xs : List ℕ) (y : ℕ) (ys : List ℕ) → list_any q xs ≡ false → q y ≡ true
    → find q (xs ++ y ∷ ys) ≡ Some y
find_at q [] y ys none passes = rw passes refl
find_at q (x ∷ xs) y ys none passes = let (first, rest) = or_none (q x) (list_any q xs) none in
    rw first (find_at q xs y ys rest passes)

-- nothing is found if none passes
find_none : (q : ℕ → Bool) (xs : List ℕ) → list_any q xs ≡ false → find q xs ≡ None
find_none q [] none = refl
find_none q (x ∷ xs) none = let (first, rest) = or_none (q x) (list_any q xs) none in
    rw first (find_none q xs rest)

-- the meeting, where the first old end that meets is known
pub meeting_found : (start end : ℕ) (new : List ℕ) (old cut : List Token) (p n : ℕ)
    → FirstMeeting start end new old cut p n → meeting start end new old cut ≡ Some p
meeting_found start end new old cut p n f = ap (find (is_meeting start end new cut)) f.ends_is
    ∙ find_at (is_meeting start end new cut) f.earlier_ends p f.later_ends f.none f.passes

-- there is no meeting where no new end meets
pub no_meeting_found : (start end : ℕ) (new : List ℕ) (old cut fr fresh_tokens : List Token)
    → cut ≡ fr ++ fresh_tokens → IsLow fr start
    → list_any (is_new_meeting (start + length new) end old)
    (token_ends (total_len fr) fresh_tokens) ≡ false → meeting start end new old cut ≡ None
no_meeting_found start end new old cut fr fresh_tokens cut_is low none_meets =
    let all : cut ≡ fr ++ (fresh_tokens ++ []) = cut_is
    ∙ ap (λ ts. fr ++ ts) (sym (append-nil fresh_tokens)) in
    find_none (is_meeting start end new cut) (token_ends 0 old)
    (none_by (is_meeting start end new cut) (token_ends 0 old)
    (λ p m. no_meeting start end new old cut fr fresh_tokens [] p all low none_meets m
    (λ e l. absurd (cc))))
