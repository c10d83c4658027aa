-- Where the children of two texts meet again, seen from the old text and from the new one.
use Rattle.std.proofs.Common.{inl, inr, ◌⊎◌, ◌≡◌, ℕ, zero, suc, ◌+◌, ◌-◌, ◌<◌, ◌≤◌, Bool, true, false, not, nat_lt, ◌||◌, ◌&&◌, eqb, cond, List, [], ◌∷◌, ◌++◌, length, take, refl, sym, ◌∙◌, ap, subst, arith, append_assoc, length-append, Some}
use Rattle.std.proofs.lemmas.List.{append-nil}
use Rattle.std.proofs.lemmas.List.Sums.{sum_by-append}
use Rattle.std.proofs.lemmas.Bool.Decides.{nat_tests}
use Rattle.std.specs.List.{list_any, position_or_len, count_by}
use Rattle.squawk_cut.specs.ChildValue.{ChildValue}
use Rattle.squawk_lexer.specs.declared.token.Token.{Token}
use Rattle.squawk_document.specs.Boundaries.{is_among, new_offset, total_len}
use Rattle.squawk_document.specs.ChildEdit.{is_new_return}
use Rattle.squawk_document.specs.ChildEnds.{child_ends, is_quiet, quiet_ends}
use Rattle.squawk_document.specs.EditedChildren.{back_children, front_children, is_return}
use Rattle.squawk_document.specs.FrontPart.{AllClosed, StopsBefore}
use Rattle.squawk_cut.specs.Join.{child_bytes}
use Rattle.squawk_document.proofs.OffsetTests.{not_true, any-append, and_parts, or_parts, is_false, same_offset, none_by, member_fails, first_at, first_none}
use Rattle.squawk_document.proofs.FrontSteps.{count_all, count_none, member_later}

-- the bytes of appended children
pub child_bytes-append : (xs ys : List ChildValue)
    → child_bytes (xs ++ ys) ≡ child_bytes xs + child_bytes ys
child_bytes-append [] ys = omega arith
child_bytes-append (x ∷ xs) ys = omega (arith, child_bytes-append xs ys)

-- the ends of appended children
pub child_ends-append : (at : ℕ) (xs ys : List ChildValue)
    → child_ends at (xs ++ ys) ≡ child_ends at xs ++ child_ends (at + child_bytes xs) ys
child_ends-append at [] ys = ap (λ n. child_ends n ys) (omega arith)
child_ends-append at (x ∷ xs) ys =
    ap (λ es. (at + x.bytes) ∷ es)
    (child_ends-append (at + x.bytes) xs ys
    ∙ ap (λ n. child_ends (at + x.bytes) xs ++ child_ends n ys) (omega arith))

-- there are as many ends as children
pub length-child_ends : (at : ℕ) (xs : List ChildValue) → length (child_ends at xs) ≡ length xs
length-child_ends at [] = refl
length-child_ends at (x ∷ xs) = ap suc (length-child_ends (at + x.bytes) xs)

-- after closed children the quiet ends go on
pub quiet-append : (at : ℕ) (xs ys : List ChildValue) → AllClosed xs
    → quiet_ends at (xs ++ ys) ≡ child_ends at xs ++ quiet_ends (at + child_bytes xs) ys
quiet-append at [] ys closed = ap (λ n. quiet_ends n ys) (omega arith)
quiet-append at (x ∷ xs) ys closed =
    rw closed.0 (ap (λ es. (at + x.bytes) ∷ es) (quiet-append (at + x.bytes) xs ys closed.1
    ∙ ap (λ n. child_ends (at + x.bytes) xs ++ quiet_ends n ys) (omega arith)))

-- a quiet end of some children and others is one of the first, or these are closed and it is one
-- of the others
pub quiet_parts : (at : ℕ) (xs ys : List ChildValue) (e : ℕ)
    → is_among (quiet_ends at (xs ++ ys)) e ≡ true
    → (is_among (quiet_ends at xs) e ≡ true) ⊎
    (AllClosed xs × (is_among (quiet_ends (at + child_bytes xs) ys) e ≡ true))
quiet_parts at [] ys e m = inr (tt, ap (λ n. is_among (quiet_ends n ys) e) (omega arith) ∙ m)
quiet_parts at (x ∷ xs) ys e m = by x.closed refl (quiet_parts (at + x.bytes) xs ys e) m
  where
    by : (b : Bool) → x.closed ≡ b
        → (is_among (quiet_ends (at + x.bytes) (xs ++ ys)) e ≡ true
        → (is_among (quiet_ends (at + x.bytes) xs) e ≡ true) ⊎
        (AllClosed xs × (is_among (quiet_ends (at + x.bytes + child_bytes xs) ys) e ≡ true)))
        → is_among (cond b ((at + x.bytes) ∷ quiet_ends (at + x.bytes) (xs ++ ys)) []) e ≡ true
        → (is_among (quiet_ends at (x ∷ xs)) e ≡ true) ⊎
        (AllClosed (x ∷ xs) × (is_among (quiet_ends (at + child_bytes (x ∷ xs)) ys) e ≡ true))
    by true c more m = elim
        (or_parts (eqb (at + x.bytes) e) (is_among (quiet_ends (at + x.bytes) (xs ++ ys)) e) m) [
          | inl here ↦ inl (rw (c, here) refl)
          | inr later ↦ elim (more later) [
            | inl first ↦ inl (rw c
                (member_later e (at + x.bytes) (quiet_ends (at + x.bytes) xs) first))
            | inr r ↦ inr ((c, r.0), ap (λ n. is_among (quiet_ends n ys) e) (omega arith) ∙ r.1)
          ]
        ]
    by false c more m = absurd (cc)

-- a quiet end is at or past the start
pub quiet_from : (at : ℕ) (xs : List ChildValue) (e : ℕ) → is_among (quiet_ends at xs) e ≡ true
    → at ≤ e
quiet_from at [] e m = absurd (cc)
quiet_from at (x ∷ xs) e m = by x.closed (quiet_from (at + x.bytes) xs e) m
  where
    by : (b : Bool) → (is_among (quiet_ends (at + x.bytes) xs) e ≡ true → at + x.bytes ≤ e)
        → is_among (cond b ((at + x.bytes) ∷ quiet_ends (at + x.bytes) xs) []) e ≡ true → at ≤ e
    by true more m = elim
        (or_parts (eqb (at + x.bytes) e) (is_among (quiet_ends (at + x.bytes) xs) e) m) [
          | inl here ↦ let same = same_offset (at + x.bytes) e here in omega arith
          | inr later ↦
              let rest = more later in omega arith
        ]
    by false more m = absurd (cc)

-- a quiet end is at or before the end of all
pub quiet_within : (at : ℕ) (xs : List ChildValue) (e : ℕ) → is_among (quiet_ends at xs) e ≡ true
    → e ≤ at + child_bytes xs
quiet_within at [] e m = absurd (cc)
quiet_within at (x ∷ xs) e m = by x.closed (quiet_within (at + x.bytes) xs e) m
  where
    by : (b : Bool) → (is_among (quiet_ends (at + x.bytes) xs) e ≡ true
        → e ≤ at + x.bytes + child_bytes xs)
        → is_among (cond b ((at + x.bytes) ∷ quiet_ends (at + x.bytes) xs) []) e ≡ true
        → e ≤ at + child_bytes (x ∷ xs)
    by true more m = elim
        (or_parts (eqb (at + x.bytes) e) (is_among (quiet_ends (at + x.bytes) xs) e) m) [
          | inl here ↦ let same = same_offset (at + x.bytes) e here in omega arith
          | inr later ↦
              let rest = more later in omega arith
        ]
    by false more m = absurd (cc)

-- an end of a child is at or before the end of all
pub child_end_within : (at : ℕ) (xs : List ChildValue) (e : ℕ)
    → is_among (child_ends at xs) e ≡ true → e ≤ at + child_bytes xs
child_end_within at [] e m = absurd (cc)
child_end_within at (x ∷ xs) e m =
    elim (or_parts (eqb (at + x.bytes) e) (is_among (child_ends (at + x.bytes) xs) e) m) [
      | inl here ↦ let same = same_offset (at + x.bytes) e here in omega arith
      | inr later ↦
          let rest = child_end_within (at + x.bytes) xs e later in omega arith
    ]

-- the last of closed children ends at a quiet offset
pub last_quiet : (at : ℕ) (x : ChildValue) (xs ys : List ChildValue) (e : ℕ) → AllClosed (x ∷ xs)
    → e ≡ at + child_bytes (x ∷ xs) → is_among (quiet_ends at ((x ∷ xs) ++ ys)) e ≡ true
last_quiet at x [] ys e closed is = let same : eqb (at + x.bytes) e ≡ true =
    grind (arith, nat_tests) in rw (closed.0, same) refl
last_quiet at x (y ∷ xs) ys e closed is =
    rw closed.0 (member_later e (at + x.bytes) (quiet_ends (at + x.bytes) ((y ∷ xs) ++ ys))
    (last_quiet (at + x.bytes) y xs ys e closed.1 (omega arith)))

-- a quiet offset above 0 is a quiet end
quiet_says : (xs : List ChildValue) (p : ℕ) → 0 < p → is_quiet xs p ≡ true
    → is_among (quiet_ends 0 xs) p ≡ true
quiet_says xs p some e =
    elim (or_parts (eqb p 0) (is_among (quiet_ends 0 xs) p) e)
    [ inl z ↦ absurd (let same = same_offset p 0 z in omega arith) | inr m ↦ m ]

-- a quiet end is a quiet offset
quiet_is : (xs : List ChildValue) (p : ℕ) → is_among (quiet_ends 0 xs) p ≡ true
    → is_quiet xs p ≡ true
quiet_is xs p m = by (eqb p 0)
  where
    by : (b : Bool) → (b || is_among (quiet_ends 0 xs) p) ≡ true
    by true = refl
    by false = m

-- what a return says
pub record AtReturn (start end : ℕ) (new : List ℕ) (m : ℕ) (old new_children : List ChildValue)
    (p : ℕ) : Type 0 where
  pub past : m ≤ p
  pub quiet : is_among (quiet_ends 0 old) p ≡ true
  pub new_quiet : is_among (quiet_ends 0 new_children) (new_offset start end new p) ≡ true

-- the meeting is at or past the range and above 0, and its new offset is above 0
pub record IsMeetingOffset (start end : ℕ) (new : List ℕ) (m : ℕ) : Type 0 where
  pub past : end ≤ m
  pub some : 0 < m
  pub new_some : 0 < new_offset start end new m

-- what the test for a return says
is_return_says : (start end : ℕ) (new : List ℕ) (m : ℕ) (old new_children : List ChildValue) (p : ℕ)
    → IsMeetingOffset start end new m → is_return start end new m old new_children p ≡ true
    → AtReturn start end new m old new_children p
is_return_says start end new m old new_children p at e =
    let some : 0 < m = at.some in
    let past_end : end ≤ m = at.past in
    let new_some : 0 < new_offset start end new m = at.new_some in
    let (low, high) = and_parts (not (nat_lt p m) && is_quiet old p)
    (is_quiet new_children (new_offset start end new p)) e in
    let (a, b) = and_parts (not (nat_lt p m)) (is_quiet old p) low in
    let a_is = not_true (nat_lt p m) a in
    let past : m ≤ p = grind (arith, nat_tests) in
    record {
      past = past;
      quiet = quiet_says old p (omega arith) b;
      new_quiet =
          quiet_says new_children (new_offset start end new p) (omega arith) high;
    }

-- the test for a return passes where its facts hold
is_return_from : (start end : ℕ) (new : List ℕ) (m : ℕ) (old new_children : List ChildValue) (p : ℕ)
    → AtReturn start end new m old new_children p
    → is_return start end new m old new_children p ≡ true
is_return_from start end new m old new_children p r =
    let past : m ≤ p = r.past in
    let a : nat_lt p m ≡ false = grind (arith, nat_tests) in
    rw (a, quiet_is old p r.quiet, quiet_is new_children (new_offset start end new p) r.new_quiet)
    refl

-- the test from the new text passes where the old offset is quiet
is_new_return_from : (new_end end m : ℕ) (old : List ChildValue) (x p : ℕ) → m ≤ x
    → p ≡ x - new_end + end → is_among (quiet_ends 0 old) p ≡ true
    → is_new_return new_end end (Some m) old x ≡ true
is_new_return_from new_end end m old x p low is quiet =
    let a : nat_lt x m ≡ false = grind (arith, nat_tests) in
    rw (a, ap (is_quiet old) (sym is) ∙ quiet_is old p quiet) refl

-- no old end returns, where no new end does
no_return : (start end : ℕ) (new : List ℕ) (m : ℕ)
    (old new_children fr fresh_children back : List ChildValue) (p : ℕ)
    → IsMeetingOffset start end new m → new_children ≡ fr ++ (fresh_children ++ back)
    → (0 < child_bytes fr → child_bytes fr < start)
    → list_any (is_new_return (start + length new) end (Some (new_offset start end new m)) old)
    (quiet_ends (child_bytes fr) fresh_children) ≡ false
    → (is_among (quiet_ends (child_bytes fr + child_bytes fresh_children) back)
    (new_offset start end new p) ≡ true → end ≤ p → ⊥)
    → is_return start end new m old new_children p ≡ false
no_return start end new m old new_children fr fresh_children back p at new_children_are low
    none_returns none_after = is_false (is_return start end new m old new_children p) (λ e.
    let r = is_return_says start end new m old new_children p at e in
    let past : m ≤ p = r.past in
    let past_end : end ≤ m = at.past in
    let new_some : 0 < new_offset start end new m = at.new_some in
    let x = new_offset start end new p in
    let zero_in : 0 + child_bytes fr ≡ child_bytes fr = omega arith in
    elim (quiet_parts 0 fr (fresh_children ++ back) x
    (ap (λ cs. is_among (quiet_ends 0 cs) x) (sym new_children_are) ∙ r.new_quiet)) [
      | inl front ↦
          let within = quiet_within 0 fr x front in
          absurd (elim (cases (child_bytes fr)) [
            | inl z ↦ omega arith
            | inr some ↦ let l =
                low some in omega arith
          ])
      | inr after ↦ elim (quiet_parts (child_bytes fr) fresh_children back x
          (ap (λ n. is_among (quiet_ends n (fresh_children ++ back)) x) (sym zero_in) ∙ after.1)) [
            | inl here ↦
                let fails = member_fails
                (is_new_return (start + length new) end (Some (new_offset start end new m)) old)
                (quiet_ends (child_bytes fr) fresh_children) x none_returns here in
                let passes =
                is_new_return_from (start + length new) end (new_offset start end new m)
                old x p (omega arith) (omega arith) r.quiet in
                absurd (let same : true ≡ false = sym passes ∙ fails in cc)
            | inr later ↦ none_after later.1 (omega arith)
          ]
    ])
  where
    cases : (n : ℕ) → (n ≡ 0) ⊎ (0 < n)
    cases zero = inl refl
    cases (suc n) = inr (omega arith)

-- no return at all
pub back_children_none : (start end : ℕ) (new : List ℕ) (m : ℕ)
    (old new_children fr fresh_children : List ChildValue) → IsMeetingOffset start end new m
    → new_children ≡ fr ++ fresh_children → (0 < child_bytes fr → child_bytes fr < start)
    → list_any (is_new_return (start + length new) end (Some (new_offset start end new m)) old)
    (quiet_ends (child_bytes fr) fresh_children) ≡ false
    → back_children start end new (Some m) old new_children ≡ 0
back_children_none start end new m old new_children fr fresh_children at new_children_are low
    none_returns =
    let all : new_children ≡ fr ++ (fresh_children ++ []) = new_children_are
    ∙ ap (λ cs. fr ++ cs) (sym (append-nil fresh_children)) in
    let none = none_by (is_return start end new m old new_children) (child_ends 0 old)
    (λ p member. no_return start end new m old new_children fr fresh_children [] p at all low
    none_returns (λ e l. absurd (cc))) in
    omega (
      arith,
      first_none (is_return start end new m old new_children)
          (child_ends 0 old) none,
      length-child_ends 0 old,
    )

-- a return at the end of the last parsed child
pub back_children_some : (start end : ℕ) (new : List ℕ) (m : ℕ)
    (old new_children fr before back old_back earlier : List ChildValue)
    (last old_last : ChildValue) → IsMeetingOffset start end new m
    → new_children ≡ fr ++ ((before ++ last ∷ []) ++ back)
    → old ≡ (earlier ++ old_last ∷ []) ++ old_back
    → (0 < child_bytes fr → child_bytes fr < start) → 0 < old_last.bytes
    → AllClosed (fr ++ (before ++ last ∷ [])) → AllClosed (earlier ++ old_last ∷ [])
    → list_any (is_new_return (start + length new) end (Some (new_offset start end new m)) old)
    (quiet_ends (child_bytes fr) before) ≡ false
    → new_offset start end new m ≤ child_bytes fr + child_bytes (before ++ last ∷ [])
    → child_bytes (earlier ++ old_last ∷ []) ≡ child_bytes fr + child_bytes (before ++ last ∷ []) -
    (start + length new) + end
    → back_children start end new (Some m) old new_children ≡ length old_back
back_children_some start end new m old new_children fr before back old_back earlier last old_last at
    new_children_are old_is low some closed old_closed none_returns past here =
    let p = child_bytes (earlier ++ old_last ∷ []) in
    let r = child_bytes fr + child_bytes (before ++ last ∷ []) in
    let past_end : end ≤ m = at.past in
    let new_parts : new_children ≡ fr ++ (before ++ (last ∷ back)) = new_children_are
    ∙ ap (λ cs. fr ++ cs) (append_assoc before (last ∷ []) back) in
    let old_parts : old ≡ earlier ++ (old_last ∷ old_back) = old_is
    ∙ append_assoc earlier (old_last ∷ []) old_back in
    let p_is : p ≡ child_bytes earlier + old_last.bytes = child_bytes-append earlier (old_last ∷ [])
    ∙ omega arith in
    let r_is : r ≡ child_bytes fr + child_bytes before + last.bytes =
    omega (arith, child_bytes-append before (last ∷ [])) in
    let offset : new_offset start end new p ≡ r = omega arith in
    let quiet : is_among (quiet_ends 0 old) p ≡ true =
    ap (λ cs. is_among (quiet_ends 0 cs) p) old_is
    ∙ end_quiet earlier old_last old_back p old_closed (omega arith) in
    let new_all : new_children ≡ ((fr ++ before) ++ last ∷ []) ++ back = new_children_are
    ∙ sym (append_assoc fr (before ++ last ∷ []) back)
    ∙ ap (λ cs. cs ++ back) (sym (append_assoc fr before (last ∷ []))) in
    let new_quiet : is_among (quiet_ends 0 new_children) r ≡ true =
    ap (λ cs. is_among (quiet_ends 0 cs) r) new_all
    ∙ end_quiet (fr ++ before) last back r
    (subst AllClosed (sym (append_assoc fr before (last ∷ []))) closed)
    (omega (arith, child_bytes-append (fr ++ before) (last ∷ []), child_bytes-append fr before))
    in
    let passes = is_return_from start end new m old new_children p
    (record {
      past = omega arith;
      quiet = quiet;
      new_quiet =
          ap (is_among (quiet_ends 0 new_children)) offset ∙ new_quiet;
    }) in
    let none = none_by (is_return start end new m old new_children) (child_ends 0 earlier)
    (λ e member.
    let under = child_end_within 0 earlier e member in
    no_return start end new m old new_children fr before (last ∷ back) e at new_parts low
    none_returns (λ there late.
    let from_last = after_last (child_bytes fr + child_bytes before) last back
    (new_offset start end new e) there in omega arith)) in
    let p_end : 0 + child_bytes earlier + old_last.bytes ≡ p = omega arith in
    let ends_is : child_ends 0 old ≡ child_ends 0 earlier ++ (p ∷ child_ends p old_back) =
    ap (child_ends 0) old_parts ∙ child_ends-append 0 earlier (old_last ∷ old_back)
    ∙ ap (λ n. child_ends 0 earlier ++ (n ∷ child_ends n old_back)) p_end in
    let first = ap (position_or_len (is_return start end new m old new_children)) ends_is
    ∙ first_at (is_return start end new m old new_children) (child_ends 0 earlier) p
    (child_ends p old_back) none passes in
    omega (
      arith,
      first,
      length-child_ends 0 earlier,
      ap length old_parts,
      length-append earlier
          (old_last ∷ old_back),
    )
  where
    end_quiet : (xs : List ChildValue) (x : ChildValue) (ys : List ChildValue) (e : ℕ)
        → AllClosed (xs ++ x ∷ []) → e ≡ child_bytes (xs ++ x ∷ [])
        → is_among (quiet_ends 0 ((xs ++ x ∷ []) ++ ys)) e ≡ true
    end_quiet [] x ys e closed is = last_quiet 0 x [] ys e closed (omega arith)
    end_quiet (y ∷ xs) x ys e closed is = last_quiet 0 y (xs ++ x ∷ []) ys e closed (omega arith)

    after_last : (at : ℕ) (x : ChildValue) (xs : List ChildValue) (e : ℕ)
        → is_among (quiet_ends at (x ∷ xs)) e ≡ true → at + x.bytes ≤ e
    after_last at x xs e m = by x.closed m
      where
        by : (b : Bool) → is_among (cond b ((at + x.bytes) ∷ quiet_ends (at + x.bytes) xs) [])
            e ≡ true → at + x.bytes ≤ e
        by true m = elim (or_parts (eqb (at + x.bytes) e)
            (is_among (quiet_ends (at + x.bytes) xs) e) m) [
              | inl here ↦ let same = same_offset (at + x.bytes) e here in omega arith
              | inr later ↦
                  quiet_from (at + x.bytes) xs e later
            ]
        by false m = absurd (cc)

-- quiet ends after a stop lie past its offset
past_stop : (at used : ℕ) (ds : List ChildValue) (e limit : ℕ) → at ≡ used
    → StopsBefore ds (limit - used) → is_among (quiet_ends at ds) e ≡ true → limit < e
past_stop at used [] e limit is stopped m = absurd (cc)
past_stop at used (d ∷ ds) e limit is stopped m = by d.closed refl m
  where
    by : (b : Bool) → d.closed ≡ b
        → is_among (cond b ((at + d.bytes) ∷ quiet_ends (at + d.bytes) ds) []) e ≡ true → limit < e
    by true c m =
        let long = stopped c in
        elim (or_parts (eqb (at + d.bytes) e) (is_among (quiet_ends (at + d.bytes) ds) e) m) [
          | inl here ↦ let same = same_offset (at + d.bytes) e here in omega arith
          | inr later ↦
              let rest = quiet_from (at + d.bytes) ds e later in omega arith
        ]
    by false c m = absurd (cc)

-- the number of front children: closed ones up to an offset, after which the next is open or too
-- long
pub front_children_are : (front_tokens : ℕ) (old : List Token) (cs ds : List ChildValue)
    → AllClosed cs → child_bytes cs ≤ total_len (take front_tokens old)
    → StopsBefore ds (total_len (take front_tokens old) - child_bytes cs)
    → front_children front_tokens old (cs ++ ds) ≡ length cs
front_children_are front_tokens old cs ds closed low stopped =
    let limit = total_len (take front_tokens old) in
    let q : ℕ → Bool = λ e. not (nat_lt limit e) in
    let all = count_all q (child_ends 0 cs)
    (λ e member. let within = child_end_within 0 cs e member in let f : nat_lt limit e ≡ false =
    grind (arith, nat_tests) in ap not f) in
    let none = count_none q (quiet_ends (0 + child_bytes cs) ds)
    (λ e member. let past = past_stop (0 + child_bytes cs) (child_bytes cs) ds e limit
    (omega arith) stopped member in let f : nat_lt limit e ≡ true = grind (arith, nat_tests) in
    ap not f) in
    ap (count_by q) (quiet-append 0 cs ds closed)
    ∙ sum_by-append _ (child_ends 0 cs) (quiet_ends (0 + child_bytes cs) ds)
    ∙ omega (arith, all, none, length-child_ends 0 cs)

-- if closed children end at or before an offset, and then stop, the offset is quiet exactly if they
-- end at it
pub quiet_at : (cs ds : List ChildValue) (p : ℕ) → 0 < p → AllClosed cs → child_bytes cs ≤ p
    → StopsBefore ds (p - child_bytes cs) → is_quiet (cs ++ ds) p ≡ eqb (child_bytes cs) p
quiet_at cs ds p some closed low stopped = by (eqb (child_bytes cs) p) refl
  where
    some_is : eqb p 0 ≡ false
    some_is = grind (arith, nat_tests)

    split : is_among (quiet_ends 0 (cs ++ ds))
        p ≡ (is_among (child_ends 0 cs) p || is_among (quiet_ends (0 + child_bytes cs) ds) p)
    split = ap (λ es. is_among es p) (quiet-append 0 cs ds closed)
        ∙ any-append (λ q. eqb q p) (child_ends 0 cs) (quiet_ends (0 + child_bytes cs) ds)

    none_after : is_among (quiet_ends (0 + child_bytes cs) ds) p ≡ false
    none_after = is_false (is_among (quiet_ends (0 + child_bytes cs) ds) p)
        (λ m. let past = past_stop (0 + child_bytes cs) (child_bytes cs) ds p p
        (omega arith) stopped m in omega arith)

    at_end : (at : ℕ) (c : ChildValue) (xs : List ChildValue) → p ≡ at + child_bytes (c ∷ xs)
        → is_among (child_ends at (c ∷ xs)) p ≡ true
    at_end at c [] e = let same : eqb (at + c.bytes) p ≡ true = grind (arith, nat_tests) in
        rw same refl
    at_end at c (d ∷ xs) e = member_later p (at + c.bytes) (child_ends (at + c.bytes) (d ∷ xs))
        (at_end (at + c.bytes) d xs (omega arith))

    there : (xs : List ChildValue) → child_bytes xs ≡ p → is_among (child_ends 0 xs) p ≡ true
    there [] e = absurd (omega arith)
    there (x ∷ xs) e = at_end 0 x xs (omega arith)

    by : (b : Bool) → eqb (child_bytes cs) p ≡ b → is_quiet (cs ++ ds) p ≡ b
    by true e = rw (some_is, split, there cs (same_offset (child_bytes cs) p e)) refl
    by false e =
        let under : child_bytes cs < p = grind (arith, nat_tests) in
        let fails = is_false (is_among (child_ends 0 cs) p)
        (λ m. let within = child_end_within 0 cs p m in omega arith) in
        rw (some_is, split, fails, none_after) refl
