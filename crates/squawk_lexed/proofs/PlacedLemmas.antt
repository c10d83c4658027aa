-- The weave keeps steps and tokens, and puts trivia and errors where they belong.
use Rattle.std.proofs.Common.{◌≡◌, ℕ, ◌+◌, ◌==◌, ◌&&◌, ◌||◌, not, Bool, true, false, cond, List, [], ◌∷◌, ◌++◌, drop, append_assoc, refl, ap, sym, subst, ◌∙◌}
use Rattle.std.specs.Prelude.{⊤}
use Rattle.std.proofs.lemmas.Bool.{eqb-true}
use Rattle.squawk_events.specs.Kinds.{is_trivia_kind, has_no_trivia}
use Rattle.squawk_events.specs.Lawful.{token_kinds}
use Rattle.squawk_events.specs.declared.steps.Step.{Step}
use Rattle.squawk_events.specs.declared.steps.Step.TheVariants.{Enter, Token, Exit, Error}
use Rattle.squawk_events.specs.declared.steps.StrStep.{StrStep}
use Rattle.squawk_events.specs.declared.steps.StrStep.TheVariants as out
use Rattle.squawk_lexed.specs.LexedToken.{LexedToken}
use Rattle.squawk_lexed.specs.Weave.{begins_with, leading_trivia, leading_trivia_end, after_leading_trivia, next_len, weave_from}
use Rattle.squawk_lexed.specs.WeaveLaws.{steps_of, begins_with_trivia, last_is_token, takes_trivia, last_token_end}

-- what a test says of its parts
pub split : (a b : Bool) → (a && b) ≡ true → (a ≡ true) × (b ≡ true)
split true b h = (refl, h)
split false b h = absurd (cc)

not_true : (b : Bool) → not b ≡ true → b ≡ false
not_true true h = absurd (cc)
not_true false h = refl

clash : {P : Type 0} (b : Bool) → b ≡ false → b ≡ true → P
clash b h k = absurd (let e : true ≡ false = sym k ∙ h in cc)

-- ---- steps

-- a prefix of kinds without trivia has no trivia
pub prefix_no_trivia : (ks js : List ℕ) → begins_with ks js ≡ true → has_no_trivia ks ≡ true
    → has_no_trivia js ≡ true
prefix_no_trivia ks [] h none = refl
prefix_no_trivia [] (j ∷ js) h none = absurd (cc)
prefix_no_trivia (k ∷ ks) (j ∷ js) h none =
    let a = split (k == j) (begins_with ks js) h in
    let b = split (not (is_trivia_kind k)) (has_no_trivia ks) none in
    let first : not (is_trivia_kind j) ≡ true =
    ap (λ i. not (is_trivia_kind i)) (sym (eqb-true k j a.0)) ∙ b.0 in
    rw first (prefix_no_trivia ks js a.1 b.1)

-- leading trivia adds no step
steps_lead : (at : ℕ) (ts : List LexedToken) (ys : List StrStep)
    → steps_of (leading_trivia at ts ++ ys) ≡ steps_of ys
steps_lead at [] ys = refl
steps_lead at (t ∷ ts) ys = by (is_trivia_kind t.kind) refl (steps_lead (at + t.len) ts ys)
  where
    by : (b : Bool) → is_trivia_kind t.kind ≡ b
        → steps_of (leading_trivia (at + t.len) ts ++ ys) ≡ steps_of ys
        → steps_of (cond b (out.Token t.kind at (at + t.len) ∷ leading_trivia (at + t.len) ts) []
        ++ ys) ≡ steps_of ys
    by true is rest = rw is rest
    by false is rest = refl

-- leading trivia and one more step
steps_after_lead : (at : ℕ) (ts : List LexedToken) (y : StrStep) (ys : List StrStep)
    → steps_of ((leading_trivia at ts ++ y ∷ []) ++ ys) ≡ steps_of (y ∷ ys)
steps_after_lead at ts y ys =
    ap steps_of (append_assoc (leading_trivia at ts) (y ∷ []) ys) ∙ steps_lead at ts (y ∷ ys)

-- the steps of a weave are those that it was made of
pub steps_kept_from : (at : ℕ) (ts : List LexedToken) (xs : List Step)
    → has_no_trivia (token_kinds xs) ≡ true → steps_of (weave_from at ts xs) ≡ xs
steps_kept_from at ts [] none = refl
steps_kept_from at ts (Enter kind ∷ xs) none =
    steps_after_lead at ts (out.Enter kind)
    (weave_from (leading_trivia_end at ts) (after_leading_trivia ts) xs)
    ∙ ap (λ ys. Enter kind ∷ ys)
    (steps_kept_from (leading_trivia_end at ts) (after_leading_trivia ts) xs none)
steps_kept_from at ts (Token kind ∷ xs) none =
    let a = split (not (is_trivia_kind kind)) (has_no_trivia (token_kinds xs)) none in
    let end = leading_trivia_end at ts + next_len (after_leading_trivia ts) in
    steps_after_lead at ts (out.Token kind (leading_trivia_end at ts) end)
    (weave_from end (drop 1 (after_leading_trivia ts)) xs)
    ∙ rw (not_true (is_trivia_kind kind) a.0) (ap (λ ys. Token kind ∷ ys)
    (steps_kept_from end (drop 1 (after_leading_trivia ts)) xs a.1))
steps_kept_from at ts (Exit ∷ []) none = steps_after_lead at ts out.Exit []
steps_kept_from at ts (Exit ∷ x ∷ xs) none =
    ap (λ ys. Exit ∷ ys) (steps_kept_from at ts (x ∷ xs) none)
steps_kept_from at ts (Error number ∷ xs) none =
    ap (λ ys. Error number ∷ ys) (steps_kept_from at ts xs none)

-- ---- trivia

-- each trivia token stands after its anchor and before a step that takes trivia; `anchored` says
-- whether the last Enter or Token before these steps is an anchor
TriviaPlaced : (anchored : Bool) → List StrStep → Type 0
TriviaPlaced anchored [] = ⊤
TriviaPlaced anchored (out.Enter kind ∷ xs) = TriviaPlaced false xs
TriviaPlaced anchored (out.Token kind start end ∷ xs) =
    (is_trivia_kind kind ≡ true → (anchored ≡ true) × (takes_trivia xs ≡ true))
    × TriviaPlaced true xs
TriviaPlaced anchored (out.Exit ∷ xs) = TriviaPlaced anchored xs
TriviaPlaced anchored (out.Error number at ∷ xs) = TriviaPlaced anchored xs

-- the same said of one trivia token
trivia_of : (anchored : Bool) (before after : List StrStep) (kind start end : ℕ)
    → TriviaPlaced anchored (before ++ out.Token kind start end ∷ after)
    → is_trivia_kind kind ≡ true
    → (last_is_token anchored before ≡ true) × (takes_trivia after ≡ true)
unfolding TriviaPlaced
trivia_of anchored [] after kind start end (h, rest) is = h is
trivia_of anchored (out.Enter k ∷ xs) after kind start end h is =
    trivia_of false xs after kind start end h is
trivia_of anchored (out.Token k s e ∷ xs) after kind start end (first, h) is =
    trivia_of true xs after kind start end h is
trivia_of anchored (out.Exit ∷ xs) after kind start end h is =
    trivia_of anchored xs after kind start end h is
trivia_of anchored (out.Error n at ∷ xs) after kind start end h is =
    trivia_of anchored xs after kind start end h is

-- before what takes trivia, leading trivia does too
takes_lead : (at : ℕ) (ts : List LexedToken) (ys : List StrStep) → takes_trivia ys ≡ true
    → takes_trivia (leading_trivia at ts ++ ys) ≡ true
takes_lead at [] ys h = h
takes_lead at (t ∷ ts) ys h = by (is_trivia_kind t.kind)
  where
    by : (b : Bool) → takes_trivia (cond b (out.Token t.kind at (at + t.len)
        ∷ leading_trivia (at + t.len) ts) [] ++ ys) ≡ true
    by true = refl
    by false = h

-- leading trivia is placed before steps that take it, where what stands before is an anchor or
-- there is no trivia
trivia_lead : (anchored : Bool) (at : ℕ) (ts : List LexedToken) (ys : List StrStep)
    → (anchored || not (begins_with_trivia ts)) ≡ true → takes_trivia ys ≡ true
    → ((a : Bool) → TriviaPlaced a ys) → TriviaPlaced anchored (leading_trivia at ts ++ ys)
unfolding TriviaPlaced
trivia_lead anchored at [] ys ready takes h = h anchored
trivia_lead anchored at (t ∷ ts) ys ready takes h =
    by (is_trivia_kind t.kind) ready (trivia_lead true (at + t.len) ts ys refl takes h)
  where
    anchor : (a : Bool) → (a || false) ≡ true → a ≡ true
    anchor true h = refl
    anchor false h = h

    by : (b : Bool) → (anchored || not b) ≡ true
        → TriviaPlaced true (leading_trivia (at + t.len) ts ++ ys)
        → TriviaPlaced anchored (cond b (out.Token t.kind at (at + t.len)
        ∷ leading_trivia (at + t.len) ts) [] ++ ys)
    by true ready rest = (λ is. (anchor anchored ready, takes_lead (at + t.len) ts ys takes), rest)
    by false ready rest = h anchored

-- leading trivia and one more step
trivia_after_lead : (anchored : Bool) (at : ℕ) (ts : List LexedToken) (y : StrStep)
    (ys : List StrStep) → (anchored || not (begins_with_trivia ts)) ≡ true
    → takes_trivia (y ∷ ys) ≡ true → ((a : Bool) → TriviaPlaced a (y ∷ ys))
    → TriviaPlaced anchored ((leading_trivia at ts ++ y ∷ []) ++ ys)
trivia_after_lead anchored at ts y ys ready takes h =
    subst (TriviaPlaced anchored) (sym (append_assoc (leading_trivia at ts) (y ∷ []) ys))
    (trivia_lead anchored at ts (y ∷ ys) ready takes h)

-- after leading trivia there is none
pub none_leads : (ts : List LexedToken) → begins_with_trivia (after_leading_trivia ts) ≡ false
none_leads [] = refl
none_leads (t ∷ ts) = by (is_trivia_kind t.kind) refl (none_leads ts)
  where
    by : (b : Bool) → is_trivia_kind t.kind ≡ b
        → begins_with_trivia (after_leading_trivia ts) ≡ false
        → begins_with_trivia (cond b (after_leading_trivia ts) (t ∷ ts)) ≡ false
    by true is rest = rest
    by false is rest = is

-- the trivia of a weave is placed
trivia_placed_from : (anchored : Bool) (at : ℕ) (ts : List LexedToken) (xs : List Step)
    → (anchored || not (begins_with_trivia ts)) ≡ true → has_no_trivia (token_kinds xs) ≡ true
    → TriviaPlaced anchored (weave_from at ts xs)
unfolding TriviaPlaced
trivia_placed_from anchored at ts [] ready none = tt
trivia_placed_from anchored at ts (Enter kind ∷ xs) ready none =
    trivia_after_lead anchored at ts (out.Enter kind)
    (weave_from (leading_trivia_end at ts) (after_leading_trivia ts) xs) ready refl
    (λ a. trivia_placed_from false (leading_trivia_end at ts) (after_leading_trivia ts) xs
    (rw (none_leads ts) refl) none)
trivia_placed_from anchored at ts (Token kind ∷ xs) ready none =
    let s = split (not (is_trivia_kind kind)) (has_no_trivia (token_kinds xs)) none in
    let end = leading_trivia_end at ts + next_len (after_leading_trivia ts) in
    trivia_after_lead anchored at ts (out.Token kind (leading_trivia_end at ts) end)
    (weave_from end (drop 1 (after_leading_trivia ts)) xs) ready refl
    (λ a. (
      λ is. clash (is_trivia_kind kind) (not_true (is_trivia_kind kind) s.0) is,
      trivia_placed_from true end (drop 1 (after_leading_trivia ts)) xs refl s.1,
    ))
trivia_placed_from anchored at ts (Exit ∷ []) ready none =
    trivia_after_lead anchored at ts out.Exit [] ready refl (λ a. tt)
trivia_placed_from anchored at ts (Exit ∷ x ∷ xs) ready none =
    trivia_placed_from anchored at ts (x ∷ xs) ready none
trivia_placed_from anchored at ts (Error number ∷ xs) ready none =
    trivia_placed_from anchored at ts xs ready none

-- ---- errors

-- each Error stands where the last Token before it ends
ErrorsPlaced : ℕ → List StrStep → Type 0
ErrorsPlaced last [] = ⊤
ErrorsPlaced last (out.Enter kind ∷ xs) = ErrorsPlaced last xs
ErrorsPlaced last (out.Token kind start end ∷ xs) = ErrorsPlaced end xs
ErrorsPlaced last (out.Exit ∷ xs) = ErrorsPlaced last xs
ErrorsPlaced last (out.Error number at ∷ xs) = (at ≡ last) × ErrorsPlaced last xs

-- the same said of one Error
error_of : (last : ℕ) (before after : List StrStep) (number at : ℕ)
    → ErrorsPlaced last (before ++ out.Error number at ∷ after) → at ≡ last_token_end last before
unfolding ErrorsPlaced
error_of last [] after number at (h, rest) = h
error_of last (out.Enter k ∷ xs) after number at h = error_of last xs after number at h
error_of last (out.Token k s e ∷ xs) after number at h = error_of e xs after number at h
error_of last (out.Exit ∷ xs) after number at h = error_of last xs after number at h
error_of last (out.Error n e ∷ xs) after number at (first, h) =
    error_of last xs after number at h

-- leading trivia, and one more step after it, before steps whose errors are placed
errors_lead : (at : ℕ) (ts : List LexedToken) (ys : List StrStep)
    → ErrorsPlaced (leading_trivia_end at ts) ys → ErrorsPlaced at (leading_trivia at ts ++ ys)
unfolding ErrorsPlaced
errors_lead at [] ys h = h
errors_lead at (t ∷ ts) ys h =
    by (is_trivia_kind t.kind) h (λ k. errors_lead (at + t.len) ts ys k)
  where
    by : (b : Bool) → ErrorsPlaced (cond b (leading_trivia_end (at + t.len) ts) at) ys
        → (ErrorsPlaced (leading_trivia_end (at + t.len) ts) ys
        → ErrorsPlaced (at + t.len) (leading_trivia (at + t.len) ts ++ ys))
        → ErrorsPlaced at (cond b (out.Token t.kind at (at + t.len)
        ∷ leading_trivia (at + t.len) ts) [] ++ ys)
    by true h rest = rest h
    by false h rest = h

errors_after_lead : (at : ℕ) (ts : List LexedToken) (y : StrStep) (ys : List StrStep)
    → ErrorsPlaced (leading_trivia_end at ts) (y ∷ ys)
    → ErrorsPlaced at ((leading_trivia at ts ++ y ∷ []) ++ ys)
errors_after_lead at ts y ys h =
    subst (ErrorsPlaced at) (sym (append_assoc (leading_trivia at ts) (y ∷ []) ys))
    (errors_lead at ts (y ∷ ys) h)

-- the errors of a weave are placed
errors_placed_from : (at : ℕ) (ts : List LexedToken) (xs : List Step)
    → ErrorsPlaced at (weave_from at ts xs)
unfolding ErrorsPlaced
errors_placed_from at ts [] = tt
errors_placed_from at ts (Enter kind ∷ xs) =
    errors_after_lead at ts (out.Enter kind)
    (weave_from (leading_trivia_end at ts) (after_leading_trivia ts) xs)
    (errors_placed_from (leading_trivia_end at ts) (after_leading_trivia ts) xs)
errors_placed_from at ts (Token kind ∷ xs) =
    let end = leading_trivia_end at ts + next_len (after_leading_trivia ts) in
    errors_after_lead at ts (out.Token kind (leading_trivia_end at ts) end)
    (weave_from end (drop 1 (after_leading_trivia ts)) xs)
    (errors_placed_from end (drop 1 (after_leading_trivia ts)) xs)
errors_placed_from at ts (Exit ∷ []) = errors_after_lead at ts out.Exit [] tt
errors_placed_from at ts (Exit ∷ x ∷ xs) = errors_placed_from at ts (x ∷ xs)
errors_placed_from at ts (Error number ∷ xs) = (refl, errors_placed_from at ts xs)

-- a trivia token of a weave stands after its anchor, directly before a step that takes trivia
pub trivia_in : (ts : List LexedToken) (xs : List Step) → has_no_trivia (token_kinds xs) ≡ true
    → (before after : List StrStep) (kind start end : ℕ)
    → weave_from 0 ts xs ≡ before ++ out.Token kind start end ∷ after
    → is_trivia_kind kind ≡ true
    → (last_is_token true before ≡ true) × (takes_trivia after ≡ true)
trivia_in ts xs none before after kind start end is trivia =
    trivia_of true before after kind start end
    (subst (TriviaPlaced true) is (trivia_placed_from true 0 ts xs refl none)) trivia

-- an Error of a weave stands where the last Token before it ends
pub error_in : (ts : List LexedToken) (xs : List Step) (before after : List StrStep)
    (number at : ℕ) → weave_from 0 ts xs ≡ before ++ out.Error number at ∷ after
    → at ≡ last_token_end 0 before
error_in ts xs before after number at is =
    error_of 0 before after number at (subst (ErrorsPlaced 0) is (errors_placed_from 0 ts xs))
