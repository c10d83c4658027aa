-- The errors that a walk over the steps merges are the errors by step.
use Rattle.std.proofs.Common.{◌≡◌, ℕ, zero, suc, ◌+◌, ◌==◌, ◌<◌, ◌≤◌, Bool, true, false, ◌&&◌, nat_lt, nat_le, List, [], ◌∷◌, ◌++◌, length, take, drop, append_assoc, refl, ap, sym, ◌∙◌, arith}
use mathlib.Core.Logic.{◌⊎◌, inl, inr}
use Rattle.std.proofs.lemmas.Bool.{and_parts, leb-true, ltb-true}
use Rattle.std.proofs.lemmas.Bool.Decides.{nat_tests}
use Rattle.std.proofs.lemmas.List.{append-nil, drop-drop, length-drop, take_all}
use Rattle.std.proofs.lemmas.List.Elements.{All-nil, All-cons, All-append}
use Rattle.std.specs.Prelude.{All}
use Rattle.squawk_events.specs.declared.steps.ParseError.{ParseError}
use Rattle.squawk_events.specs.declared.steps.StrStep.{StrStep}
use Rattle.squawk_events.specs.declared.steps.StrStep.TheVariants.{Enter, Token, Exit, Error}
use Rattle.squawk_lexed.specs.Faults.{fault_within, faults_within}
use Rattle.squawk_lexed.specs.LexedText.{are_sound, total_len}
use Rattle.squawk_lexed.specs.LexedToken.{LexedToken}
use Rattle.squawk_lexed.specs.Stored.{errors_at, errors_of, errors_from}
use Rattle.squawk_lexed.specs.Weave.{next_len}
use Rattle.squawk_lexed.specs.declared.fault.Fault.{Fault}
use Rattle.squawk_tree.specs.Errors.{error}
use Rattle.squawk_tree.specs.Steps.{has_no_errors}
use Rattle.squawk_tree.specs.Walk.{step_error, errors_before, errors_by_step, covers, merged_errors, EndsBelow}

-- a fault of a sound token begins before the end of the token and ends by it
pub record InToken (len : ℕ) (f : Fault) : Type 0 where
  pub starts : f.start < len
  pub ends : f.end ≤ len

in_token : (len : ℕ) (f : Fault) → fault_within len f ≡ true → InToken len f
in_token len f h =
    let a = and_parts (nat_le 1 f.number) (nat_le f.number 9 && (nat_lt f.start f.end
    && nat_le f.end len)) h in
    let b = and_parts (nat_le f.number 9) (nat_lt f.start f.end && nat_le f.end len) a.1 in
    let c = and_parts (nat_lt f.start f.end) (nat_le f.end len) b.1 in
    let order = ltb-true f.start f.end c.0 in
    let inside = leb-true f.end len c.1 in
    record { starts = omega arith; ends = inside }

-- what holds of a sound token and of the tokens after it
pub record SoundParts (t : LexedToken) (ts : List LexedToken) : Type 0 where
  pub some : 0 < t.len
  pub faults : faults_within t.len t.faults ≡ true
  pub rest : are_sound ts ≡ true

pub sound_parts : (t : LexedToken) (ts : List LexedToken) → are_sound (t ∷ ts) ≡ true
    → SoundParts t ts
sound_parts t ts s =
    let a = and_parts (nat_lt 0 t.len) (faults_within t.len t.faults && are_sound ts) s in
    let b = and_parts (faults_within t.len t.faults) (are_sound ts) a.1 in
    record { some = ltb-true 0 t.len a.0; faults = b.0; rest = b.1 }

-- an offset before another, and one that is not
starts_before : (m n : ℕ) → m < n → nat_lt m n ≡ true
starts_before m n h = grind (arith, nat_tests)

starts_after : (m n : ℕ) → n ≤ m → nat_lt m n ≡ false
starts_after m n h = grind (arith, nat_tests)

-- no error of tokens begins before the first of them
none_before : (end at : ℕ) (ts : List LexedToken) → end ≤ at
    → errors_before end (errors_of at ts) ≡ []
none_before end at [] le = refl
none_before end at (t ∷ ts) le = by t.faults (none_before end (at + t.len) ts (omega arith))
  where
    by : (fs : List Fault) → errors_before end (errors_of (at + t.len) ts) ≡ []
        → errors_before end (errors_at at fs ++ errors_of (at + t.len) ts) ≡ []
    by [] rest = rest
    by (f ∷ fs) rest = let e = starts_after (at + f.start) end (omega arith) in rw e refl

-- all errors of tokens begin at the first of them or after it
all_from : (end at : ℕ) (ts : List LexedToken) → end ≤ at
    → errors_from end (errors_of at ts) ≡ errors_of at ts
all_from end at [] le = refl
all_from end at (t ∷ ts) le = by t.faults (all_from end (at + t.len) ts (omega arith))
  where
    by : (fs : List Fault)
        → errors_from end (errors_of (at + t.len) ts) ≡ errors_of (at + t.len) ts
        → errors_from end (errors_at at fs ++ errors_of (at + t.len) ts)
        ≡ errors_at at fs ++ errors_of (at + t.len) ts
    by [] rest = rest
    by (f ∷ fs) rest = let e = starts_after (at + f.start) end (omega arith) in rw e refl

-- whether all of these errors begin before an offset
abbrev all_before : ℕ → List ParseError → Bool
all_before n [] = true
all_before n (e ∷ es) = nat_lt e.start n && all_before n es

-- they then begin before any later offset
all_before_le : (m n : ℕ) (es : List ParseError) → m ≤ n → all_before m es ≡ true
    → all_before n es ≡ true
all_before_le m n [] le h = refl
all_before_le m n (e ∷ es) le h =
    let parts = and_parts (nat_lt e.start m) (all_before m es) h in
    let first = ltb-true e.start m parts.0 in
    rw (starts_before e.start n (omega (arith, first, le))) (all_before_le m n es le parts.1)

-- the same of two lists together, and of the errors from an index on
all_before_append : (n : ℕ) (xs ys : List ParseError) → all_before n xs ≡ true
    → all_before n ys ≡ true → all_before n (xs ++ ys) ≡ true
all_before_append n [] ys first second = second
all_before_append n (e ∷ es) ys first second =
    let parts = and_parts (nat_lt e.start n) (all_before n es) first in
    rw parts.0 (all_before_append n es ys parts.1 second)

all_before_drop : (n i : ℕ) (es : List ParseError) → all_before n es ≡ true
    → all_before n (drop i es) ≡ true
all_before_drop n zero es h = h
all_before_drop n (suc i) [] h = h
all_before_drop n (suc i) (e ∷ es) h =
    all_before_drop n i es (and_parts (nat_lt e.start n) (all_before n es) h).1

-- errors that begin before an offset go before it, with those of the others that do
errors_before_append : (n : ℕ) (xs ys : List ParseError) → all_before n xs ≡ true
    → errors_before n (xs ++ ys) ≡ xs ++ errors_before n ys
errors_before_append n [] ys h = refl
errors_before_append n (e ∷ es) ys h =
    let parts = and_parts (nat_lt e.start n) (all_before n es) h in
    rw parts.0 (ap (λ zs. e ∷ zs) (errors_before_append n es ys parts.1))

-- errors that begin before an offset are none of those from it on
errors_from_append : (n : ℕ) (xs ys : List ParseError) → all_before n xs ≡ true
    → errors_from n (xs ++ ys) ≡ errors_from n ys
errors_from_append n [] ys h = refl
errors_from_append n (e ∷ es) ys h =
    let parts = and_parts (nat_lt e.start n) (all_before n es) h in
    rw parts.0 (errors_from_append n es ys parts.1)

-- the faults of a sound token begin before its end
faults_all_before : (at len : ℕ) (fs : List Fault) → faults_within len fs ≡ true
    → all_before (at + len) (errors_at at fs) ≡ true
faults_all_before at len [] h = refl
faults_all_before at len (f ∷ fs) h =
    let parts = and_parts (fault_within len f) (faults_within len fs) h in
    let within = in_token len f parts.0 in
    let starts = within.starts in
    rw (starts_before (at + f.start) (at + len) (omega arith)) (faults_all_before at len fs parts.1)

-- the errors of sound tokens begin before the end of the tokens
errors_all_before : (n at : ℕ) (ts : List LexedToken) → at + total_len ts ≤ n
    → are_sound ts ≡ true → all_before n (errors_of at ts) ≡ true
errors_all_before n at [] le s = refl
errors_all_before n at (t ∷ ts) le s =
    let parts = sound_parts t ts s in
    all_before_append n (errors_at at t.faults) (errors_of (at + t.len) ts)
    (all_before_le (at + t.len) n (errors_at at t.faults) (omega (arith, le))
    (faults_all_before at t.len t.faults parts.faults))
    (errors_all_before n (at + t.len) ts (omega (arith, le)) parts.rest)

-- so those that remain are all before that end
pub rest_before : (n i : ℕ) (ts : List LexedToken) → total_len ts ≤ n → are_sound ts ≡ true
    → errors_before n (drop i (errors_of 0 ts)) ≡ drop i (errors_of 0 ts)
rest_before n i ts le s =
    let all = all_before_drop n i (errors_of 0 ts)
    (errors_all_before n 0 ts (omega (arith, le)) s) in
    let rest = drop i (errors_of 0 ts) in
    ap (errors_before n) (sym (append-nil rest)) ∙ errors_before_append n rest [] all
    ∙ append-nil rest

-- the merged errors of steps that contain all of the tokens are the lexical errors that were not
-- appended before, and then the errors by step
merged_with : (pending : List ParseError) (at : ℕ) (ts : List LexedToken) (xs : List StrStep)
    → all_before at pending ≡ true → covers at ts xs ≡ true → are_sound ts ≡ true
    → merged_errors at ts (pending ++ errors_of at ts) xs ≡ pending ++ errors_by_step at ts xs
merged_with pending at [] [] before h s = refl
merged_with pending at (t ∷ ts) [] before h s = absurd (cc)
merged_with pending at ts (Enter kind ∷ xs) before h s = merged_with pending at ts xs before h s
merged_with pending at ts (Exit ∷ xs) before h s = merged_with pending at ts xs before h s
merged_with pending at [] (Token kind start end ∷ xs) before h s = absurd (cc)
merged_with pending at (t ∷ ts) (Token kind start end ∷ xs) before h s =
    let parts = sound_parts t ts s in
    let own = errors_at at t.faults in
    let all = all_before_append (at + t.len) pending own
    (all_before_le at (at + t.len) pending (omega arith) before)
    (faults_all_before at t.len t.faults parts.faults) in
    ap (λ es. merged_errors (at + t.len) ts es xs)
    (sym (append_assoc pending own (errors_of (at + t.len) ts)))
    ∙ merged_with (pending ++ own) (at + t.len) ts xs all h parts.rest
    ∙ append_assoc pending own (errors_by_step (at + t.len) ts xs)
merged_with pending at ts (Error number offset ∷ xs) before h s =
    let rest = (and_parts (offset == at) (covers at ts xs) h).1 in
    let appended : errors_before at (pending ++ errors_of at ts) ≡ pending =
    errors_before_append at pending (errors_of at ts) before
    ∙ ap (λ es. pending ++ es) (none_before at at ts (omega arith)) ∙ append-nil pending in
    let left : errors_from at (pending ++ errors_of at ts) ≡ errors_of at ts =
    errors_from_append at pending (errors_of at ts) before
    ∙ all_from at at ts (omega arith) in
    rw (appended, left) (ap (λ es. pending ++ (step_error at ts number ++ es))
    (merged_with [] at ts xs refl rest s))

pub merged_is : (ts : List LexedToken) (xs : List StrStep) → covers 0 ts xs ≡ true
    → are_sound ts ≡ true → merged_errors 0 ts (errors_of 0 ts) xs ≡ errors_by_step 0 ts xs
merged_is ts xs h s = merged_with [] 0 ts xs refl h s

-- the merged errors of steps without an `Error` are the lexical errors
pub merged_lexical : (at : ℕ) (ts : List LexedToken) (es : List ParseError) (xs : List StrStep)
    → has_no_errors xs ≡ true → merged_errors at ts es xs ≡ es
merged_lexical at ts es [] none = refl
merged_lexical at ts es (Enter kind ∷ xs) none = merged_lexical at ts es xs none
merged_lexical at ts es (Token kind start end ∷ xs) none =
    merged_lexical (at + next_len ts) (drop 1 ts) es xs none
merged_lexical at ts es (Exit ∷ xs) none = merged_lexical at ts es xs none
merged_lexical at ts es (Error number offset ∷ xs) none = absurd (cc)

-- the next index
next : (i : ℕ) → suc i ≡ i + 1
next i = omega arith

-- the end of the token at an index, or the end of the text
end_before : (ts : List LexedToken) (i : ℕ)
    → total_len (take (suc i) ts) ≡ total_len (take i ts) + next_len (drop i ts)
end_before [] zero = refl
end_before [] (suc i) = refl
end_before (t ∷ ts) zero = omega arith
end_before (t ∷ ts) (suc i) = let rest = end_before ts i in omega arith

pub token_end : (ts : List LexedToken) (i : ℕ)
    → total_len (take (i + 1) ts) ≡ total_len (take i ts) + next_len (drop i ts)
token_end ts i = ap (λ n. total_len (take n ts)) (sym (next i)) ∙ end_before ts i

-- no token is at an index past the last
pub no_token : (ts : List LexedToken) (i : ℕ) → length ts ≤ i → drop i ts ≡ []
no_token [] zero h = refl
no_token [] (suc i) h = refl
no_token (t ∷ ts) zero h = absurd (omega arith)
no_token (t ∷ ts) (suc i) h = no_token ts i (omega arith)

-- the errors of tokens end by the end of the tokens
pub ends_below : (n at : ℕ) (ts : List LexedToken) → at + total_len ts < n
    → are_sound ts ≡ true → All (EndsBelow n) (errors_of at ts)
ends_below n at [] h s = All-nil (EndsBelow n)
ends_below n at (t ∷ ts) h s =
    let parts = sound_parts t ts s in
    All-append (EndsBelow n) (errors_at at t.faults) (errors_of (at + t.len) ts)
    (by t.faults parts.faults) (ends_below n (at + t.len) ts (omega arith) parts.rest)
  where
    by : (fs : List Fault) → faults_within t.len fs ≡ true
        → All (EndsBelow n) (errors_at at fs)
    by [] h = All-nil (EndsBelow n)
    by (f ∷ fs) w =
        let both = and_parts (fault_within t.len f) (faults_within t.len fs) w in
        let within = in_token t.len f both.0 in
        let ends = within.ends in
        All-cons (EndsBelow n) (error (at + f.start) (at + f.end) f.number) (errors_at at fs)
        (omega arith) (by fs both.1)

-- a prefix is no longer than the whole
pub take_within : (i : ℕ) (ts : List LexedToken) → total_len (take i ts) ≤ total_len ts
take_within zero ts = omega arith
take_within (suc i) [] = omega arith
take_within (suc i) (t ∷ ts) = let rest = take_within i ts in omega arith

-- so the errors by step are the lexical errors, where no step is an `Error`
pub by_step_lexical : (ts : List LexedToken) (xs : List StrStep) → covers 0 ts xs ≡ true
    → are_sound ts ≡ true → has_no_errors xs ≡ true → errors_of 0 ts ≡ errors_by_step 0 ts xs
by_step_lexical ts xs h s none =
    sym (merged_lexical 0 ts (errors_of 0 ts) xs none) ∙ merged_is ts xs h s

-- The walk before the steps `left`: the errors that were appended and those that remain are all;
-- and the remaining steps contain the remaining tokens.
pub record WalkSoFar (made : List ParseError) (ts : List LexedToken) (token error : ℕ)
    (left : List StrStep) (all : List ParseError) : Type 0 where
  pub merged : made ++ merged_errors (total_len (take token ts)) (drop token ts)
      (drop error (errors_of 0 ts)) left ≡ all
  pub covered : covers (total_len (take token ts)) (drop token ts) left ≡ true
  pub token_within : token ≤ length ts
  pub error_within : error ≤ length (errors_of 0 ts)

-- at the start
pub so_far_start : (ts : List LexedToken) (xs : List StrStep) → covers 0 ts xs ≡ true
    → WalkSoFar [] ts 0 0 xs (merged_errors 0 ts (errors_of 0 ts) xs)
so_far_start ts xs h = record {
  merged = refl;
  covered = h;
  token_within = omega arith;
  error_within = omega arith;
}

-- what the steps that contain tokens say of a `Token`: there is a token for it, and those after it
-- are contained in the steps after it
covered_token : (at : ℕ) (us : List LexedToken) (kind start end : ℕ) (xs : List StrStep)
    → covers at us (Token kind start end ∷ xs) ≡ true
    → (1 ≤ length us) × (covers (at + next_len us) (drop 1 us) xs ≡ true)
covered_token at [] kind start end xs h = absurd (cc)
covered_token at (u ∷ us) kind start end xs h = (omega arith, h)

-- after a `Token`
pub so_far_token : (made : List ParseError) (ts : List LexedToken) (token error : ℕ)
    (kind start end : ℕ) (xs left : List StrStep) (all : List ParseError)
    → WalkSoFar made ts token error left all → left ≡ Token kind start end ∷ xs
    → WalkSoFar made ts (token + 1) error xs all
so_far_token made ts token error kind start end xs left all walk is =
    let within = walk.token_within in
    let here = covered_token (total_len (take token ts)) (drop token ts) kind start end xs
    (ap (covers (total_len (take token ts)) (drop token ts)) (sym is) ∙ walk.covered) in
    let some = here.0 in
    let len = length-drop token ts in
    let at_is = token_end ts token in
    let after : drop (token + 1) ts ≡ drop 1 (drop token ts) = sym (drop-drop 1 token ts) in
    record {
      merged = rw (at_is, after) (ap (λ ys. made ++ merged_errors (total_len (take token ts))
          (drop token ts) (drop error (errors_of 0 ts)) ys) (sym is) ∙ walk.merged);
      covered = rw (at_is, after) here.1;
      token_within = omega (arith, some, len, within);
      error_within = walk.error_within;
    }

-- after a step that has neither tokens nor errors, and so after an `Enter` or an `Exit`
so_far_same : (made : List ParseError) (ts : List LexedToken) (token errors : ℕ)
    (y : StrStep) (xs left : List StrStep) (all : List ParseError)
    → ((at : ℕ) (us : List LexedToken) (es : List ParseError)
    → merged_errors at us es (y ∷ xs) ≡ merged_errors at us es xs)
    → ((at : ℕ) (us : List LexedToken) → covers at us (y ∷ xs) ≡ covers at us xs)
    → WalkSoFar made ts token errors left all → left ≡ y ∷ xs
    → WalkSoFar made ts token errors xs all
so_far_same made ts token errors y xs left all merged_same covers_same walk is =
    let at = total_len (take token ts) in
    let us = drop token ts in
    record {
      merged = ap (λ es. made ++ es) (sym (merged_same at us (drop errors (errors_of 0 ts)))
          ∙ ap (merged_errors at us (drop errors (errors_of 0 ts))) (sym is)) ∙ walk.merged;
      covered = sym (covers_same at us) ∙ ap (covers at us) (sym is) ∙ walk.covered;
      token_within = walk.token_within;
      error_within = walk.error_within;
    }

pub so_far_node : (made : List ParseError) (ts : List LexedToken) (token errors : ℕ)
    (x : StrStep) (xs left : List StrStep) (all : List ParseError)
    → WalkSoFar made ts token errors left all → left ≡ x ∷ xs
    → ((kind : ℕ) × (x ≡ Enter kind)) ⊎ (x ≡ Exit) → WalkSoFar made ts token errors xs all
so_far_node made ts token errors x xs left all walk is (inl enter) =
    so_far_same made ts token errors (Enter enter.0) xs left all (λ at us es. refl) (λ at us. refl)
    walk (is ∙ ap (λ y. y ∷ xs) enter.1)
so_far_node made ts token errors x xs left all walk is (inr leave) =
    so_far_same made ts token errors Exit xs left all (λ at us es. refl) (λ at us. refl)
    walk (is ∙ ap (λ y. y ∷ xs) leave)

-- after an `Error`
pub so_far_error : (made : List ParseError) (ts : List LexedToken) (token error number at : ℕ)
    (xs left : List StrStep) (all made' : List ParseError) (error' : ℕ)
    → WalkSoFar made ts token error left all → left ≡ Error number at ∷ xs
    → made' ≡ made ++ (errors_before (total_len (take token ts)) (drop error (errors_of 0 ts))
    ++ step_error (total_len (take token ts)) (drop token ts) number)
    → drop error' (errors_of 0 ts)
    ≡ errors_from (total_len (take token ts)) (drop error (errors_of 0 ts))
    → error' ≤ length (errors_of 0 ts) → WalkSoFar made' ts token error' xs all
so_far_error made ts token error number at xs left all made' error' walk is made_is rest within =
    let start = total_len (take token ts) in
    let us = drop token ts in
    let lexical = drop error (errors_of 0 ts) in
    let more = merged_errors start us (errors_from start lexical) xs in
    record {
      merged = rw (made_is, rest) (append_assoc made (errors_before start lexical
          ++ step_error start us number) more
          ∙ ap (λ es. made ++ es) (append_assoc (errors_before start lexical)
          (step_error start us number) more)
          ∙ (ap (λ ys. made ++ merged_errors start us lexical ys) (sym is) ∙ walk.merged));
      covered = (and_parts (at == start) (covers start us xs)
          (ap (covers start us) (sym is) ∙ walk.covered)).1;
      token_within = walk.token_within;
      error_within = within;
    }

-- at the end: the remaining lexical errors are all before the end of the text
pub so_far_end : (made : List ParseError) (ts : List LexedToken) (token error n : ℕ)
    (steps left : List StrStep) (made' : List ParseError)
    → WalkSoFar made ts token error left (merged_errors 0 ts (errors_of 0 ts) steps)
    → left ≡ [] → covers 0 ts steps ≡ true → are_sound ts ≡ true
    → n ≡ total_len (take (length ts) ts)
    → made' ≡ made ++ errors_before n (drop error (errors_of 0 ts))
    → made' ≡ errors_by_step 0 ts steps
so_far_end made ts token error n steps left made' walk none h s n_is made_is =
    let whole = n_is ∙ ap total_len (take_all (length ts) ts (omega arith)) in
    made_is ∙ ap (λ es. made ++ es) (rest_before n error ts (omega (arith, whole)) s)
    ∙ ap (λ ys. made ++ merged_errors (total_len (take token ts)) (drop token ts)
    (drop error (errors_of 0 ts)) ys) (sym none) ∙ walk.merged ∙ merged_is ts steps h s

-- the lexical errors that begin before the end of the text are all
pub all_appended : (made : List ParseError) (ts : List LexedToken) (n : ℕ)
    (made' : List ParseError) → made ≡ [] → are_sound ts ≡ true
    → n ≡ total_len (take (length ts) ts)
    → made' ≡ made ++ errors_before n (drop 0 (errors_of 0 ts)) → made' ≡ errors_of 0 ts
all_appended made ts n made' none s n_is made_is =
    let whole = n_is ∙ ap total_len (take_all (length ts) ts (omega arith)) in
    made_is ∙ ap (λ es. es ++ errors_before n (errors_of 0 ts)) none
    ∙ rest_before n 0 ts (omega (arith, whole)) s
