-- One pass over a value sets the flags of its tags.
use Rattle.std.proofs.Common.{◌≡◌, ◌⊎◌, inl, inr, ℕ, zero, suc, ◌+◌, ◌-◌, ◌<◌, ◌≤◌, Bool, true, false, List, [], ◌∷◌, ◌++◌, length, replicate, slice_set, Some, None, length-append, chars, IsUtf8, subst, refl, sym, ap, ◌∙◌, not, ◌&&◌, ◌||◌, eqb, cond, arith}
use Rattle.std.proofs.lemmas.Bool.{cases_eq, cases_lt, false≢true}
use Rattle.std.proofs.lemmas.Bool.Decides.{nat_tests}
use Rattle.std.proofs.lemmas.Str.{length-encode, len_utf8_bounds, length-le-encodes, encodes-chars}
use Rattle.std.specs.Char.{encode_utf8}
use Rattle.std.specs.Prelude.{IfSome}
use Rattle.squawk_lexer.specs.Classes.{dollar_sign}
use Rattle.squawk_quote.specs.Tags.{mark_run, mark_at, mark_tags, first_unset, IsFirstToFit}
use Rattle.squawk_quote.specs.Values.{letter_q, TagRun, extend_tag_run, is_run_of, has_tag, delimiter_fits, shortest_tag}
use Rattle.squawk_quote.proofs.DollarLaws.{tag_fits, tag_least, long_tag_fits}
use Rattle.squawk_quote.proofs.QuoteBytes.{chars_none}
use Rattle.squawk_quote.proofs.TagLaws.{fits_unless_tag_occurs}

-- ---- the flag of a run

or_false : (a : Bool) → (a || false) ≡ a
or_false true = refl
or_false false = refl

or_true : (a : Bool) → (a || true) ≡ true
or_true true = refl
or_true false = refl

pub no_run_marks_none : (n : ℕ) (bs : List Bool) → mark_run n None bs ≡ bs
no_run_marks_none n [] = refl
no_run_marks_none n (b ∷ bs) = ap (λ x. x ∷ mark_run (suc n) None bs) (or_false b)
    ∙ ap (λ w. b ∷ w) (no_run_marks_none (suc n) bs)

pub short_run_marks_none : (n m : ℕ) (bs : List Bool) → m < n → mark_run n (Some m) bs ≡ bs
short_run_marks_none n m [] h = refl
short_run_marks_none n m (b ∷ bs) h =
    let other : eqb n m ≡ false = grind (arith, nat_tests) in
    ap (λ x. (b || x) ∷ mark_run (suc n) (Some m) bs) other
    ∙ ap (λ x. x ∷ mark_run (suc n) (Some m) bs) (or_false b)
    ∙ ap (λ w. b ∷ w) (short_run_marks_none (suc n) m bs (omega arith))

pub long_run_marks_none : (n m : ℕ) (bs : List Bool) → n + length bs ≤ m
    → mark_run n (Some m) bs ≡ bs
long_run_marks_none n m [] h = refl
long_run_marks_none n m (b ∷ bs) h =
    let more : n < m = omega arith in
    let other : eqb n m ≡ false = grind (arith, nat_tests) in
    ap (λ x. (b || x) ∷ mark_run (suc n) (Some m) bs) other
    ∙ ap (λ x. x ∷ mark_run (suc n) (Some m) bs) (or_false b)
    ∙ ap (λ w. b ∷ w) (long_run_marks_none (suc n) m bs (omega arith))

run_marks_one : (n m k : ℕ) (bs : List Bool) → m ≡ n + k
    → mark_run n (Some m) bs ≡ slice_set bs k true
run_marks_one n m k [] e = refl
run_marks_one n m zero (b ∷ bs) e =
    let same : eqb n m ≡ true = grind (arith, nat_tests) in
    ap (λ x. (b || x) ∷ mark_run (suc n) (Some m) bs) same
    ∙ ap (λ x. x ∷ mark_run (suc n) (Some m) bs) (or_true b)
    ∙ ap (λ w. true ∷ w) (short_run_marks_none (suc n) m bs (omega arith))
run_marks_one n m (suc k) (b ∷ bs) e =
    let more : n < m = omega arith in
    let other : eqb n m ≡ false = grind (arith, nat_tests) in
    ap (λ x. (b || x) ∷ mark_run (suc n) (Some m) bs) other
    ∙ ap (λ x. x ∷ mark_run (suc n) (Some m) bs) (or_false b)
    ∙ ap (λ w. b ∷ w) (run_marks_one (suc n) m k bs (omega arith))

pub run_sets_flag : (n m : ℕ) (bs : List Bool) → n ≤ m
    → slice_set bs (m - n) true ≡ mark_run n (Some m) bs
run_sets_flag n m bs h = sym (run_marks_one n m (m - n) bs (omega arith))

-- ---- the flags of a value

or_or : (a b d : Bool) → ((a || b) || d) ≡ (a || (b || d))
or_or true b d = refl
or_or false b d = refl

-- one step of the pass, at a `$` and at another character
step_at_dollar : (n : ℕ) (run : TagRun) (c : ℕ) (cs : List ℕ) (bs : List Bool)
    → eqb c dollar_sign ≡ true
    → mark_tags n (extend_tag_run run c) cs (mark_run n run bs) ≡ mark_tags n run (c ∷ cs) bs
step_at_dollar n run c cs [] t = refl
step_at_dollar n run c cs (b ∷ bs) t =
    let later = has_tag n (extend_tag_run run c) cs in
    ap (λ x. x ∷ mark_tags (suc n) (extend_tag_run run c) cs (mark_run (suc n) run bs))
    (or_or b (is_run_of n run) later)
    ∙ ap (λ x. (b || ((x && is_run_of n run) || later))
    ∷ mark_tags (suc n) (extend_tag_run run c) cs (mark_run (suc n) run bs)) (sym t)
    ∙ ap (λ w. (b || has_tag n run (c ∷ cs)) ∷ w) (step_at_dollar (suc n) run c cs bs t)

step_at_other : (n : ℕ) (run : TagRun) (c : ℕ) (cs : List ℕ) (bs : List Bool)
    → eqb c dollar_sign ≡ false
    → mark_tags n (extend_tag_run run c) cs bs ≡ mark_tags n run (c ∷ cs) bs
step_at_other n run c cs [] t = refl
step_at_other n run c cs (b ∷ bs) t =
    let later = has_tag n (extend_tag_run run c) cs in
    ap (λ x. (b || ((x && is_run_of n run) || later))
    ∷ mark_tags (suc n) (extend_tag_run run c) cs bs) (sym t)
    ∙ ap (λ w. (b || has_tag n run (c ∷ cs)) ∷ w) (step_at_other (suc n) run c cs bs t)

step_at : (n : ℕ) (run : TagRun) (c : ℕ) (cs : List ℕ) (bs : List Bool)
    → mark_tags n (extend_tag_run run c) cs (mark_at n run c bs) ≡ mark_tags n run (c ∷ cs) bs
step_at n run c cs bs = by (eqb c dollar_sign) refl
  where
    by : (t : Bool) → eqb c dollar_sign ≡ t
        → mark_tags n (extend_tag_run run c) cs (cond t (mark_run n run bs) bs)
        ≡ mark_tags n run (c ∷ cs) bs
    by true t = step_at_dollar n run c cs bs t
    by false t = step_at_other n run c cs bs t

pub mark_more : (n : ℕ) (run next : TagRun) (c : ℕ) (cs : List ℕ) (old new whole : List Bool)
    → new ≡ mark_at n run c old → next ≡ extend_tag_run run c
    → mark_tags n run (c ∷ cs) old ≡ whole → mark_tags n next cs new ≡ whole
mark_more n run next c cs old new whole new_is next_is inv =
    ap (λ r. mark_tags n r cs new) next_is
    ∙ ap (mark_tags n (extend_tag_run run c) cs) new_is ∙ step_at n run c cs old ∙ inv

-- the run after one more character, by its tests
abbrev after : TagRun → (is_dollar is_letter : Bool) → TagRun
after None d q = cond d (Some 0) None
after (Some n) d q = cond d (Some 0) (cond q (Some (n + 1)) None)

-- a run is no longer than what was read
pub run_is_short : (run next : TagRun) (c : ℕ) (bs rest : List ℕ) (len : ℕ)
    → bs ≡ encode_utf8 c ++ rest → length bs ≤ len
    → IfSome run (λ n. n + length bs ≤ len) → next ≡ extend_tag_run run c
    → IfSome next (λ n. n + length rest ≤ len)
run_is_short run next c bs rest len is within short next_is =
    subst (λ r. IfSome r (λ n. n + length rest ≤ len)) (sym (next_is ∙ sym (after_is run)))
    (by run (eqb c dollar_sign) (eqb c letter_q) short)
  where
    after_is : (run : TagRun) → after run (eqb c dollar_sign) (eqb c letter_q)
        ≡ extend_tag_run run c
    after_is None = refl
    after_is (Some n) = refl

    shorter : length rest + 1 ≤ length bs
    shorter = omega (
      arith,
      ap (λ (w : List ℕ). length w) is,
      length-append (encode_utf8 c) rest,
      length-encode c,
      (len_utf8_bounds c).0,
    )

    by : (run : TagRun) (d q : Bool) → IfSome run (λ n. n + length bs ≤ len)
        → IfSome (after run d q) (λ n. n + length rest ≤ len)
    by None true q h = omega (arith, shorter, within)
    by None false q h = tt
    by (Some n) true q h = omega (arith, shorter, within)
    by (Some n) false true h = omega (arith, shorter, h)
    by (Some n) false false h = tt

pub shorter_rest : (c : ℕ) (bs rest : List ℕ) (len : ℕ) → bs ≡ encode_utf8 c ++ rest
    → length bs ≤ len → length rest ≤ len
shorter_rest c bs rest len is within =
    omega (arith, ap (λ (w : List ℕ). length w) is, length-append (encode_utf8 c) rest, within)

-- the run at the end of the value
mark_last : (n : ℕ) (run : TagRun) (bs : List Bool)
    → mark_run n run bs ≡ mark_tags n run [] bs
mark_last n run [] = refl
mark_last n run (b ∷ bs) = ap (λ w. (b || is_run_of n run) ∷ w) (mark_last (suc n) run bs)

pub mark_end : (n : ℕ) (run : TagRun) (rest : List ℕ) (old new whole : List Bool)
    → length rest ≡ 0 → new ≡ mark_run n run old → mark_tags n run (chars rest) old ≡ whole
    → new ≡ whole
mark_end n run rest old new whole none new_is inv =
    new_is ∙ mark_last n run old
    ∙ ap (λ u. mark_tags n run u old) (sym (chars_none rest none)) ∙ inv

-- there are as many flags as before
pub marks_len : (n : ℕ) (run : TagRun) (v : List ℕ) (bs : List Bool)
    → length (mark_tags n run v bs) ≡ length bs
marks_len n run v [] = refl
marks_len n run v (b ∷ bs) = let e = marks_len (suc n) run v bs in omega (arith, e)

-- ---- the first flag that is not set

pub first_to_fit : (v : List ℕ) (n count : ℕ)
    → IsFirstToFit v n (n + count)
    (n + first_unset (mark_tags n None v (replicate count false)))
first_to_fit v n zero = record {
  within = omega arith;
  fits = λ h. absurd (omega arith);
  others = λ k low high. absurd (omega arith);
}
first_to_fit v n (suc count) = by (has_tag n None v) refl (first_to_fit v (suc n) count)
  where
    later : ℕ
    later = first_unset (mark_tags (suc n) None v (replicate count false))

    by : (b : Bool) → has_tag n None v ≡ b
        → IsFirstToFit v (suc n) (suc n + count) (suc n + later)
        → IsFirstToFit v n (n + suc count) (n + cond b (suc later) 0)
    by true t next = record {
      within = let w : suc n + later ≤ suc n + count = next.within in omega arith;
      fits = λ h. ap (delimiter_fits v) (let e : n + suc later ≡ suc n + later = omega arith in e)
          ∙ next.fits (omega arith);
      others = λ k low high. elim (cases_eq k n) [
        | inl is ↦ ap (delimiter_fits v) is ∙ fits_unless_tag_occurs v n ∙ ap not t
        | inr is_not ↦ next.others k (let more : suc n ≤ k = grind (arith) in more)
            (omega arith)
      ];
    }
    by false t next = record {
      within = omega arith;
      fits = λ h. ap (delimiter_fits v) (let e : n + 0 ≡ n = omega arith in e)
          ∙ fits_unless_tag_occurs v n ∙ ap not t;
      others = λ k low high. absurd (omega arith);
    }

-- ---- the shortest tag

-- a tag that fits, where no shorter one does, is the shortest
pub is_shortest : (v : List ℕ) (n : ℕ) → delimiter_fits v n ≡ true
    → ((k : ℕ) → k < n → delimiter_fits v k ≡ false) → n ≡ shortest_tag v
is_shortest v n fits others = by (cases_lt n (shortest_tag v)) (cases_lt (shortest_tag v) n)
  where
    by : (n < shortest_tag v) ⊎ (shortest_tag v ≤ n) → (shortest_tag v < n) ⊎ (n ≤ shortest_tag v)
        → n ≡ shortest_tag v
    by (inl less) right = absurd (false≢true (sym (tag_least v n less) ∙ fits))
    by (inr more) (inl less) =
        absurd (false≢true (sym (others (shortest_tag v) less) ∙ tag_fits v))
    by (inr more) (inr less) = omega arith

pub found_shortest : (v : List ℕ) (base to n : ℕ) → IsFirstToFit v base to n → n < to
    → ((k : ℕ) → k < base → delimiter_fits v k ≡ false) → n ≡ shortest_tag v
found_shortest v base to n first less none = is_shortest v n (first.fits less) others
  where
    others : (k : ℕ) → k < n → delimiter_fits v k ≡ false
    others k h = elim (cases_lt k base) [
      | inl below ↦ none k below
      | inr above ↦ first.others k above h
    ]

-- a tag longer than the value is the shortest if no shorter one fits
pub long_is_shortest : (bytes : List ℕ) (n : ℕ) → IsUtf8 bytes → length bytes < n
    → ((k : ℕ) → k < n → delimiter_fits (chars bytes) k ≡ false) → n ≡ shortest_tag (chars bytes)
long_is_shortest bytes n utf8 long none =
    is_shortest (chars bytes) n (long_tag_fits (chars bytes) n
    (let len = length-le-encodes (chars bytes) in
    let same = ap (λ (w : List ℕ). length w) (encodes-chars bytes utf8) in
    omega (arith, len, same, long))) none
