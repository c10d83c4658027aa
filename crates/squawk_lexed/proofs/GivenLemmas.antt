-- The tokens that a weave emits, and those that are left.
use Rattle.std.proofs.Common.{◌≡◌, ℕ, zero, suc, ◌+◌, ◌==◌, ◌&&◌, Bool, true, false, cond, List, [], ◌∷◌, ◌++◌, drop, append_assoc, refl, ap, sym, ◌∙◌, arith}
use Rattle.std.proofs.lemmas.Bool.{eqb-true}
use Rattle.squawk_events.specs.Kinds.{is_trivia_kind}
use Rattle.squawk_events.specs.Lawful.{closes, is_balanced, token_kinds}
use Rattle.squawk_events.specs.declared.steps.Step.{Step}
use Rattle.squawk_events.specs.declared.steps.Step.TheVariants.{Enter, Token, Exit, Error}
use Rattle.squawk_events.specs.declared.steps.StrStep.{StrStep}
use Rattle.squawk_events.specs.declared.steps.StrStep.TheVariants as out
use Rattle.squawk_lexed.specs.LexedText.{total_len}
use Rattle.squawk_lexed.specs.LexedToken.{LexedToken}
use Rattle.squawk_lexed.specs.Weave.{kinds_without_trivia, begins_with, leading_trivia, leading_trivia_end, after_leading_trivia, next_len, weave_from, weave, remaining_from}
use Rattle.squawk_lexed.specs.WeaveLaws.{token_steps_of, token_steps, begins_with_trivia, IsWeave}
use Rattle.squawk_lexed.proofs.KeptLemmas.{has_no_trivia_kept}
use Rattle.squawk_lexed.proofs.PlacedLemmas.{prefix_no_trivia, steps_kept_from, trivia_in, error_in, none_leads, split}
use Rattle.squawk_lexed.proofs.WeaveLemmas.{kinds_after_leading_trivia}

-- steps of tokens, Token steps and lengths of two lists add up
token_steps_append : (at : ℕ) (ts us : List LexedToken)
    → token_steps at (ts ++ us) ≡ token_steps at ts ++ token_steps (at + total_len ts) us
token_steps_append at [] us = ap (λ n. token_steps n us) (omega arith)
token_steps_append at (t ∷ ts) us = ap (λ xs. out.Token t.kind at (at + t.len) ∷ xs)
    (token_steps_append (at + t.len) ts us
    ∙ ap (λ n. token_steps (at + t.len) ts ++ token_steps n us) (omega arith))

token_steps_of_append : (xs ys : List StrStep)
    → token_steps_of (xs ++ ys) ≡ token_steps_of xs ++ token_steps_of ys
token_steps_of_append [] ys = refl
token_steps_of_append (out.Enter kind ∷ xs) ys = token_steps_of_append xs ys
token_steps_of_append (out.Token kind start end ∷ xs) ys =
    ap (λ zs. out.Token kind start end ∷ zs) (token_steps_of_append xs ys)
token_steps_of_append (out.Exit ∷ xs) ys = token_steps_of_append xs ys
token_steps_of_append (out.Error number at ∷ xs) ys = token_steps_of_append xs ys

-- some steps emit these tokens, from one offset up to another, and leave the others
record Emits (at : ℕ) (ts : List LexedToken) (xs : List StrStep) (end : ℕ)
    (left given : List LexedToken) : Type 0 where
  pub whole : ts ≡ given ++ left
  pub steps : token_steps_of xs ≡ token_steps at given
  pub reaches : end ≡ at + total_len given

total_len_append : (ts us : List LexedToken) → total_len (ts ++ us) ≡ total_len ts + total_len us
total_len_append [] us = omega arith
total_len_append (t ∷ ts) us = omega (arith, total_len_append ts us)

-- steps after steps
emits_then : (at mid end : ℕ) (ts left rest g h : List LexedToken) (xs ys : List StrStep)
    → Emits at ts xs mid left g → Emits mid left ys end rest h
    → Emits at ts (xs ++ ys) end rest (g ++ h)
emits_then at mid end ts left rest g h xs ys first second = record {
  whole = first.whole ∙ ap (λ us. g ++ us) second.whole ∙ sym (append_assoc g h rest);
  steps = token_steps_of_append xs ys
      ∙ ap (λ zs. zs ++ token_steps_of ys) first.steps
      ∙ ap (λ zs. token_steps at g ++ zs) (second.steps
      ∙ ap (λ n. token_steps n h) first.reaches)
      ∙ sym (token_steps_append at g h);
  reaches = omega (arith, total_len_append g h, first.reaches, second.reaches);
}

-- the leading trivia as tokens
lead : List LexedToken → List LexedToken
lead [] = []
lead (t ∷ ts) = cond (is_trivia_kind t.kind) (t ∷ lead ts) []

-- leading trivia emits these tokens
emits_lead : (at : ℕ) (ts : List LexedToken)
    → Emits at ts (leading_trivia at ts) (leading_trivia_end at ts) (after_leading_trivia ts)
    (lead ts)
unfolding lead
emits_lead at [] = record { whole = refl; steps = refl; reaches = omega arith }
emits_lead at (t ∷ ts) = by (is_trivia_kind t.kind) (emits_lead (at + t.len) ts)
  where
    by : (b : Bool) → Emits (at + t.len) ts (leading_trivia (at + t.len) ts)
        (leading_trivia_end (at + t.len) ts) (after_leading_trivia ts) (lead ts)
        → Emits at (t ∷ ts)
        (cond b (out.Token t.kind at (at + t.len) ∷ leading_trivia (at + t.len) ts) [])
        (cond b (leading_trivia_end (at + t.len) ts) at)
        (cond b (after_leading_trivia ts) (t ∷ ts)) (cond b (t ∷ lead ts) [])
    by true h = record {
      whole = ap (λ us. t ∷ us) h.whole;
      steps = ap (λ xs. out.Token t.kind at (at + t.len) ∷ xs) h.steps;
      reaches = omega (arith, h.reaches);
    }
    by false h = record { whole = refl; steps = refl; reaches = omega arith }

-- steps without a token
emits_none : (at : ℕ) (ts : List LexedToken) (xs : List StrStep) → token_steps_of xs ≡ []
    → Emits at ts xs at ts []
emits_none at ts xs none = record { whole = refl; steps = none; reaches = omega arith }

-- the next token, which is of the step's kind
emits_next : (at kind : ℕ) (ts : List LexedToken) (kinds : List ℕ)
    → begins_with_trivia ts ≡ false
    → begins_with (kinds_without_trivia ts) (kind ∷ kinds) ≡ true
    → (g : List LexedToken) × Emits at ts (out.Token kind at (at + next_len ts) ∷ [])
    (at + next_len ts) (drop 1 ts) g
emits_next at kind [] kinds none h = absurd (cc)
emits_next at kind (t ∷ ts) kinds none h =
    let begins : (t.kind == kind && begins_with (kinds_without_trivia ts) kinds) ≡ true =
    rw none at h in
    let same = eqb-true t.kind kind
    (split (t.kind == kind) (begins_with (kinds_without_trivia ts) kinds) begins).0 in (
      t ∷ [],
      record {
        whole = refl;
        steps = ap (λ k. out.Token k at (at + t.len) ∷ []) (sym same);
        reaches = omega arith;
      },
    )

-- what is left after a token of the step's kind begins with the kinds that are left
begins_after : (ts : List LexedToken) (kind : ℕ) (kinds : List ℕ)
    → begins_with_trivia ts ≡ false
    → begins_with (kinds_without_trivia ts) (kind ∷ kinds) ≡ true
    → begins_with (kinds_without_trivia (drop 1 ts)) kinds ≡ true
begins_after [] kind kinds none h = absurd (cc)
begins_after (t ∷ ts) kind kinds none h =
    let begins : (t.kind == kind && begins_with (kinds_without_trivia ts) kinds) ≡ true =
    rw none at h in
    (split (t.kind == kind) (begins_with (kinds_without_trivia ts) kinds) begins).1

-- the tokens that a weave emits, with those that are left, are all
given_from : (at : ℕ) (ts : List LexedToken) (xs : List Step)
    → begins_with (kinds_without_trivia ts) (token_kinds xs) ≡ true
    → (g : List LexedToken) × (end : ℕ) × Emits at ts (weave_from at ts xs) end
    (remaining_from ts xs) g
given_from at ts [] h = ([], at, emits_none at ts [] refl)
given_from at ts (Enter kind ∷ xs) h =
    let mid = leading_trivia_end at ts in
    let left = after_leading_trivia ts in
    let rest = given_from mid left xs
    (ap (λ ks. begins_with ks (token_kinds xs)) (kinds_after_leading_trivia ts) ∙ h) in (
      (lead ts ++ []) ++ rest.0,
      rest.1,
      emits_then at mid rest.1 ts left (remaining_from left xs) (lead ts ++ []) rest.0
          (leading_trivia at ts ++ out.Enter kind ∷ []) (weave_from mid left xs)
          (emits_then at mid mid ts left left (lead ts) [] (leading_trivia at ts)
          (out.Enter kind ∷ []) (emits_lead at ts)
          (emits_none mid left (out.Enter kind ∷ []) refl)) rest.2,
    )
given_from at ts (Token kind ∷ xs) h =
    let mid = leading_trivia_end at ts in
    let left = after_leading_trivia ts in
    let here : begins_with (kinds_without_trivia left) (kind ∷ token_kinds xs) ≡ true =
    ap (λ ks. begins_with ks (kind ∷ token_kinds xs)) (kinds_after_leading_trivia ts) ∙ h in
    let next = emits_next mid kind left (token_kinds xs) (none_leads ts) here in
    let end = mid + next_len left in
    let rest = given_from end (drop 1 left) xs
    (begins_after left kind (token_kinds xs) (none_leads ts) here) in (
      (lead ts ++ next.0) ++ rest.0,
      rest.1,
      emits_then at end rest.1 ts (drop 1 left) (remaining_from (drop 1 left) xs)
          (lead ts ++ next.0) rest.0
          (leading_trivia at ts ++ out.Token kind mid end ∷ []) (weave_from end (drop 1 left) xs)
          (emits_then at mid end ts left (drop 1 left) (lead ts) next.0 (leading_trivia at ts)
          (out.Token kind mid end ∷ []) (emits_lead at ts) next.1) rest.2,
    )
given_from at ts (Exit ∷ []) h =
    let mid = leading_trivia_end at ts in
    let left = after_leading_trivia ts in (
      (lead ts ++ []) ++ [],
      mid,
      emits_then at mid mid ts left left (lead ts ++ []) []
          (leading_trivia at ts ++ out.Exit ∷ []) []
          (emits_then at mid mid ts left left (lead ts) [] (leading_trivia at ts) (out.Exit ∷ [])
          (emits_lead at ts) (emits_none mid left (out.Exit ∷ []) refl))
          (emits_none mid left [] refl),
    )
given_from at ts (Exit ∷ x ∷ xs) h =
    let rest = given_from at ts (x ∷ xs) h in (
      rest.0,
      rest.1,
      emits_then at at rest.1 ts ts (remaining_from ts (x ∷ xs)) [] rest.0
          (out.Exit ∷ []) (weave_from at ts (x ∷ xs)) (emits_none at ts (out.Exit ∷ []) refl)
          rest.2,
    )
given_from at ts (Error number ∷ xs) h =
    let rest = given_from at ts xs h in (
      rest.0,
      rest.1,
      emits_then at at rest.1 ts ts (remaining_from ts xs) [] rest.0
          (out.Error number at ∷ []) (weave_from at ts xs)
          (emits_none at ts (out.Error number at ∷ []) refl) rest.2,
    )

-- what is left by balanced steps begins with no trivia
none_left : (d : ℕ) (ts : List LexedToken) (xs : List Step) → closes (suc d) xs ≡ true
    → begins_with_trivia (remaining_from ts xs) ≡ false
none_left d ts [] h = absurd (omega (arith, eqb-true (suc d) 0 h))
none_left d ts (Enter kind ∷ xs) h = none_left (suc d) (after_leading_trivia ts) xs h
none_left d ts (Token kind ∷ xs) h = none_left d (drop 1 (after_leading_trivia ts)) xs h
none_left d ts (Exit ∷ []) h = none_leads ts
none_left zero ts (Exit ∷ x ∷ xs) h = absurd (cc)
none_left (suc d) ts (Exit ∷ x ∷ xs) h = none_left d ts (x ∷ xs) h
none_left d ts (Error number ∷ xs) h = none_left d ts xs h

-- two lists with a first element have the same rest
tails : {A : Type 0} (x y : A) (xs ys : List A) → x ∷ xs ≡ y ∷ ys → xs ≡ ys
tails x y xs ys is = ap (drop 1) is

-- the weave of balanced steps is one
pub weave_is : (ts : List LexedToken) (steps : List Step) → is_balanced steps ≡ true
    → begins_with (kinds_without_trivia ts) (token_kinds steps) ≡ true
    → IsWeave ts steps (weave ts steps)
weave_is ts [] balanced h = absurd (cc)
weave_is ts (Token kind ∷ xs) balanced h = absurd (cc)
weave_is ts (Exit ∷ xs) balanced h = absurd (cc)
weave_is ts (Error number ∷ xs) balanced h = absurd (cc)
weave_is ts (Enter kind ∷ xs) balanced h =
    let none = prefix_no_trivia (kinds_without_trivia ts) (token_kinds xs) h
    (has_no_trivia_kept ts) in
    let given = given_from 0 ts xs h in
    record {
      steps_kept = ap (λ ys. Enter kind ∷ ys) (steps_kept_from 0 ts xs none);
      tokens_kept = (given.0, given.2.whole, given.2.steps);
      trivia_given = none_left 0 ts xs balanced;
      trivia_placed = λ root k start end before after is trivia.
          trivia_in ts xs none before after k start end
          (tails (out.Enter kind) (out.Enter root) (weave_from 0 ts xs)
          (before ++ out.Token k start end ∷ after) is) trivia;
      errors_placed = λ root number at before after is.
          error_in ts xs before after number at
          (tails (out.Enter kind) (out.Enter root) (weave_from 0 ts xs)
          (before ++ out.Error number at ∷ after) is);
    }
