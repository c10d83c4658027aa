-- The errors of a parse by token are those by step, where the steps cover the tokens in order.
use Rattle.std.proofs.Common.{◌≡◌, ℕ, zero, suc, ◌+◌, ◌==◌, ◌<◌, ◌≤◌, Bool, true, false, ◌&&◌, cond, List, [], ◌∷◌, ◌++◌, drop, map, append_assoc, refl, ap, sym, ◌∙◌, arith, nat_lt}
use Rattle.std.proofs.lemmas.Bool.Decides.{nat_tests}
use Rattle.squawk_events.specs.Kinds.{is_trivia_kind}
use Rattle.squawk_events.specs.Lawful.{token_kinds, closes, is_balanced}
use Rattle.squawk_events.specs.declared.steps.Step.{Step}
use Rattle.squawk_events.specs.declared.steps.Step.TheVariants.{Enter, Token, Exit, Error}
use Rattle.squawk_events.specs.declared.steps.StrStep.{StrStep}
use Rattle.squawk_events.specs.declared.steps.StrStep.TheVariants as out
use Rattle.squawk_lexed.specs.Weave.{kinds_without_trivia, leading_trivia, leading_trivia_end, after_leading_trivia, next_len, weave_from, weave}
use Rattle.squawk_lexed.specs.LexedText.{are_sound}
use Rattle.squawk_lexed.specs.Faults.{faults_within}
use Rattle.squawk_lexed.specs.LexedToken.{LexedToken}
use Rattle.squawk_tree.specs.Errors.{error, numbers_at, errors_by_token, errors}
use Rattle.squawk_tree.specs.Walk.{covers, errors_by_step}
use Rattle.squawk_lexed.specs.Stored.{errors_at}
use Rattle.squawk_tree.proofs.LeavesLemmas.{next_of, none_after_trivia, kinds_after_trivia, never_closed}

-- Reading leading trivia, before other steps and before one more step that is woven with it: for
-- each function of tokens and steps that reads a token at a `Token`.
module _ (reads : ℕ → List LexedToken → List StrStep → Bool)
    (token : (at : ℕ) (t : LexedToken) (ts : List LexedToken) (ys : List StrStep)
    → reads at (t ∷ ts) (out.Token t.kind at (at + t.len) ∷ ys) ≡ reads (at + t.len) ts ys) where
  read_leading_trivia : (at : ℕ) (ts : List LexedToken) (ys : List StrStep)
      → reads at ts (leading_trivia at ts ++ ys)
      ≡ reads (leading_trivia_end at ts) (after_leading_trivia ts) ys
  read_leading_trivia at [] ys = refl
  read_leading_trivia at (t ∷ ts) ys =
      by (is_trivia_kind t.kind) (read_leading_trivia (at + t.len) ts ys)
    where
      by : (b : Bool) → reads (at + t.len) ts (leading_trivia (at + t.len) ts ++ ys)
          ≡ reads (leading_trivia_end (at + t.len) ts) (after_leading_trivia ts) ys
          → reads at (t ∷ ts) (cond b (out.Token t.kind at (at + t.len)
          ∷ leading_trivia (at + t.len) ts) [] ++ ys)
          ≡ reads (cond b (leading_trivia_end (at + t.len) ts) at)
          (cond b (after_leading_trivia ts) (t ∷ ts)) ys
      by true rest = token at t ts (leading_trivia (at + t.len) ts ++ ys) ∙ rest
      by false rest = refl

  pub read_trivia_step : (at : ℕ) (ts : List LexedToken) (y : StrStep) (ys : List StrStep)
      → reads at ts ((leading_trivia at ts ++ y ∷ []) ++ ys)
      ≡ reads (leading_trivia_end at ts) (after_leading_trivia ts) (y ∷ ys)
  read_trivia_step at ts y ys = ap (reads at ts) (append_assoc (leading_trivia at ts) (y ∷ []) ys)
      ∙ read_leading_trivia at ts (y ∷ ys)

covers_trivia_step : (at : ℕ) (ts : List LexedToken) (y : StrStep) (ys : List StrStep)
    → covers at ts ((leading_trivia at ts ++ y ∷ []) ++ ys)
    ≡ covers (leading_trivia_end at ts) (after_leading_trivia ts) (y ∷ ys)
covers_trivia_step at ts y ys = read_trivia_step covers (λ at t ts ys. refl) at ts y ys

-- an offset is equal to itself
pub same_offset : (at : ℕ) (b : Bool) → (at == at && b) ≡ b
same_offset at b = grind (arith, nat_tests)

-- woven steps of a balanced output contain all of the tokens
covers_woven : (d at : ℕ) (ts : List LexedToken) (xs : List Step) → closes (suc d) xs ≡ true
    → kinds_without_trivia ts ≡ token_kinds xs → covers at ts (weave_from at ts xs) ≡ true
covers_woven d at ts [] h e = never_closed d h
covers_woven d at ts (Enter kind ∷ xs) h e =
    covers_trivia_step at ts (out.Enter kind) (weave_from (leading_trivia_end at ts)
    (after_leading_trivia ts) xs)
    ∙ covers_woven (suc d) (leading_trivia_end at ts) (after_leading_trivia ts) xs h
    (kinds_after_trivia ts ∙ e)
covers_woven d at ts (Token kind ∷ xs) h e =
    let next = next_of ts kind (token_kinds xs) e in
    let kinds : kinds_without_trivia (drop 1 (after_leading_trivia ts)) ≡ token_kinds xs =
    rw next.is next.kinds_are in
    let end : ℕ = leading_trivia_end at ts + next_len (after_leading_trivia ts) in
    let rest : List StrStep =
    weave_from (leading_trivia_end at ts + next_len (after_leading_trivia ts))
    (drop 1 (after_leading_trivia ts)) xs in
    let more = covers_woven d (leading_trivia_end at ts + next_len (after_leading_trivia ts))
    (drop 1 (after_leading_trivia ts)) xs h kinds in
    let here : covers (leading_trivia_end at ts) (after_leading_trivia ts)
    (out.Token kind (leading_trivia_end at ts) end ∷ rest)
    ≡ covers end (drop 1 (after_leading_trivia ts)) rest =
    first_token (leading_trivia_end at ts) (after_leading_trivia ts) next.token next.rest kind
    (leading_trivia_end at ts) end rest next.is in
    covers_trivia_step at ts (out.Token kind (leading_trivia_end at ts) end) rest ∙ here ∙ more
  where
    first_token : (at : ℕ) (us : List LexedToken) (t : LexedToken) (vs : List LexedToken)
        (kind start end : ℕ) (ys : List StrStep) → us ≡ t ∷ vs
        → covers at us (out.Token kind start end ∷ ys) ≡ covers (at + next_len us) (drop 1 us) ys
    first_token at [] t vs kind start end ys e = absurd (cc)
    first_token at (u ∷ us) t vs kind start end ys e = refl
covers_woven d at ts (Exit ∷ []) h e =
    let none = none_after_trivia ts e in
    covers_trivia_step at ts out.Exit []
    ∙ ap (λ u. covers (leading_trivia_end at ts) u (out.Exit ∷ [])) none
covers_woven zero at ts (Exit ∷ x ∷ xs) h e = absurd (cc)
covers_woven (suc d) at ts (Exit ∷ x ∷ xs) h e = covers_woven d at ts (x ∷ xs) h e
covers_woven d at ts (Error number ∷ xs) h e = same_offset at (covers at ts (weave_from at ts xs))
    ∙ covers_woven d at ts xs h e

-- the parts of a conjunction
pub split : (a b : Bool) → (a && b) ≡ true → (a ≡ true) × (b ≡ true)
split true b h = (refl, h)
split false b h = absurd (cc)

-- equality of offsets as a truth value
is_offset : (p at : ℕ) → (p == at) ≡ true → p ≡ at
is_offset p at h = grind (arith, nat_tests)

not_offset_before : (p q : ℕ) → p < q → (p == q) ≡ false
not_offset_before p q h = grind (arith, nat_tests)

not_offset_after : (p q : ℕ) → q < p → (p == q) ≡ false
not_offset_after p q h = grind (arith, nat_tests)

-- a nonempty token has a length above 0
some_len : (n : ℕ) → nat_lt 0 n ≡ true → 0 < n
some_len n h = grind (arith, nat_tests)

-- no `Error` step is before the offset at which the steps begin
none_before : (q at : ℕ) (ts : List LexedToken) (xs : List StrStep) → q < at → covers at ts xs ≡ true
    → numbers_at q xs ≡ []
none_before q at ts [] h r = refl
none_before q at ts (out.Enter kind ∷ xs) h r = none_before q at ts xs h r
none_before q at ts (out.Exit ∷ xs) h r = none_before q at ts xs h r
none_before q at ts (out.Error number offset ∷ xs) h r =
    let s = split (offset == at) (covers at ts xs) r in
    let is = is_offset offset at s.0 in
    rw (not_offset_after offset q (omega arith)) (none_before q at ts xs h s.1)
none_before q at [] (out.Token kind start end ∷ xs) h r = absurd (cc)
none_before q at (t ∷ ts) (out.Token kind start end ∷ xs) h r =
    none_before q (at + t.len) ts xs (omega arith) r

-- the errors from an offset on depend only on the `Error` steps from there on
same_errors : (p : ℕ) (ts : List LexedToken) (xs ys : List StrStep)
    → ((q : ℕ) → p ≤ q → numbers_at q xs ≡ numbers_at q ys)
    → errors_by_token p ts xs ≡ errors_by_token p ts ys
same_errors p [] xs ys h = ap (map (error p p)) (h p (omega arith))
same_errors p (t ∷ ts) xs ys h =
    ap (λ ns. map (error p (p + t.len)) ns ++ errors_at p t.faults
    ++ errors_by_token (p + t.len) ts xs) (h p (omega arith))
    ∙ ap (λ es. map (error p (p + t.len)) (numbers_at p ys) ++ errors_at p t.faults
    ++ es) (same_errors (p + t.len) ts xs ys (λ q le. h q (omega arith)))

-- the errors by token are those by step
pub by_token_is_by_step : (at : ℕ) (ts : List LexedToken) (xs : List StrStep) → covers at ts xs ≡ true
    → are_sound ts ≡ true → errors_by_token at ts xs ≡ errors_by_step at ts xs
by_token_is_by_step at [] [] r s = refl
by_token_is_by_step at (t ∷ ts) [] r s = absurd (cc)
by_token_is_by_step at ts (out.Enter kind ∷ xs) r s =
    same_errors at ts (out.Enter kind ∷ xs) xs (λ q le. refl) ∙ by_token_is_by_step at ts xs r s
by_token_is_by_step at ts (out.Exit ∷ xs) r s = same_errors at ts (out.Exit ∷ xs) xs (λ q le. refl)
    ∙ by_token_is_by_step at ts xs r s
by_token_is_by_step at [] (out.Error number offset ∷ xs) r s =
    let p = split (offset == at) (covers at [] xs) r in
    let end : at ≡ at + 0 = omega arith in
    rw p.0 (ap (λ m. error at m number ∷ map (error at at) (numbers_at at xs)) end
    ∙ ap (λ es. error at (at + 0) number ∷ es) (by_token_is_by_step at [] xs p.1 s))
by_token_is_by_step at (t ∷ ts) (out.Error number offset ∷ xs) r s =
    let p = split (offset == at) (covers at (t ∷ ts) xs) r in
    let is = is_offset offset at p.0 in
    let some = some_len t.len (split (nat_lt 0 t.len) (faults_within t.len t.faults
    && are_sound ts) s).0 in
    let rest = same_errors (at + t.len) ts (out.Error number offset ∷ xs) xs (λ q le. let e =
    not_offset_before offset q (omega arith) in rw e refl) in
    rw (p.0, rest) (ap (λ es. error at (at + t.len) number
    ∷ es) (by_token_is_by_step at (t ∷ ts) xs p.1 s))
by_token_is_by_step at [] (out.Token kind start end ∷ xs) r s = absurd (cc)
by_token_is_by_step at (t ∷ ts) (out.Token kind start end ∷ xs) r s =
    let s1 = split (nat_lt 0 t.len) (faults_within t.len t.faults && are_sound ts) s in
    let s2 = split (faults_within t.len t.faults) (are_sound ts) s1.1 in
    let some = some_len t.len s1.0 in
    let none = none_before at (at + t.len) ts xs (omega arith) r in
    let rest = same_errors (at + t.len) ts (out.Token kind start end ∷ xs) xs (λ q le. refl) in
    rw (none, rest) (ap (λ es. errors_at at t.faults
    ++ es) (by_token_is_by_step (at + t.len) ts xs r s2.1))

-- the woven steps of a balanced output contain all of the tokens, from the root on
pub covers_whole : (ts : List LexedToken) (xs : List Step) → is_balanced xs ≡ true
    → token_kinds xs ≡ kinds_without_trivia ts → covers 0 ts (weave ts xs) ≡ true
covers_whole ts [] h e = absurd (cc)
covers_whole ts (Enter kind ∷ xs) h e = covers_woven 0 0 ts xs h (sym e)
covers_whole ts (Token kind ∷ xs) h e = absurd (cc)
covers_whole ts (Exit ∷ xs) h e = absurd (cc)
covers_whole ts (Error number ∷ xs) h e = absurd (cc)

-- so their errors by token are those by step
pub errors_whole : (ts : List LexedToken) (xs : List Step) → is_balanced xs ≡ true
    → token_kinds xs ≡ kinds_without_trivia ts → are_sound ts ≡ true
    → errors ts (weave ts xs) ≡ errors_by_step 0 ts (weave ts xs)
errors_whole ts xs h e s = by_token_is_by_step 0 ts (weave ts xs) (covers_whole ts xs h e) s
