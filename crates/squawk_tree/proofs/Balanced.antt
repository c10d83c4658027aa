-- The woven steps of a balanced output are balanced.
use Rattle.std.proofs.Common.{◌≡◌, ℕ, zero, suc, ◌+◌, Bool, true, false, cond, List, [], ◌∷◌, ◌++◌, append_assoc, ap, refl, ◌∙◌}
use Rattle.squawk_events.specs.Kinds.{is_trivia_kind}
use Rattle.squawk_events.specs.Lawful as given
use Rattle.squawk_events.specs.declared.steps.Step.{Step}
use Rattle.squawk_events.specs.declared.steps.Step.TheVariants.{Enter, Token, Exit, Error}
use Rattle.squawk_events.specs.declared.steps.StrStep.{StrStep}
use Rattle.squawk_events.specs.declared.steps.StrStep.TheVariants as out
use Rattle.squawk_tree.specs.Steps.{closes, is_balanced, has_no_errors, without_errors}
use Rattle.squawk_lexed.specs.Weave.{leading_trivia, leading_trivia_end, after_leading_trivia, next_len, weave_from, weave}
use Rattle.squawk_lexed.specs.LexedToken.{LexedToken}
use Rattle.squawk_tree.proofs.LeavesLemmas.{never_closed}

-- Trivia change no balance: before other steps, and before one more step that is woven with it.
closes_leading_trivia : (d at : ℕ) (ts : List LexedToken) (ys : List StrStep)
    → closes (suc d) (without_errors (leading_trivia at ts ++ ys))
    ≡ closes (suc d) (without_errors ys)
closes_leading_trivia d at [] ys = refl
closes_leading_trivia d at (t ∷ ts) ys =
    by (is_trivia_kind t.kind) (closes_leading_trivia d (at + t.len) ts ys)
  where
    by : (b : Bool) → closes (suc d) (without_errors (leading_trivia (at + t.len) ts ++ ys))
        ≡ closes (suc d) (without_errors ys)
        → closes (suc d) (without_errors (cond b (out.Token t.kind at (at + t.len)
        ∷ leading_trivia (at + t.len) ts) [] ++ ys)) ≡ closes (suc d) (without_errors ys)
    by true h = h
    by false h = refl

closes_trivia_step : (d at : ℕ) (ts : List LexedToken) (y : StrStep) (ys : List StrStep)
    → closes (suc d) (without_errors ((leading_trivia at ts ++ y ∷ []) ++ ys))
    ≡ closes (suc d) (without_errors (y ∷ ys))
closes_trivia_step d at ts y ys =
    ap (λ zs. closes (suc d) (without_errors zs)) (append_assoc (leading_trivia at ts) (y ∷ []) ys)
    ∙ closes_leading_trivia d at ts (y ∷ ys)

-- woven steps are balanced where the steps of the grammar are: inside a node, and as a whole
pub closes_woven : (d at : ℕ) (ts : List LexedToken) (xs : List Step)
    → given.closes (suc d) xs ≡ true → closes (suc d) (without_errors (weave_from at ts xs)) ≡ true
closes_woven d at ts [] h = never_closed d h
closes_woven d at ts (Enter kind ∷ xs) h =
    closes_trivia_step d at ts (out.Enter kind) (weave_from (leading_trivia_end at ts)
    (after_leading_trivia ts) xs)
    ∙ closes_woven (suc d) (leading_trivia_end at ts) (after_leading_trivia ts) xs h
closes_woven d at ts (Token kind ∷ xs) h =
    closes_trivia_step d at ts (out.Token kind (leading_trivia_end at ts) (leading_trivia_end at ts
    + next_len (after_leading_trivia ts))) _
    ∙ closes_woven d (leading_trivia_end at ts + next_len (after_leading_trivia ts)) _ xs h
closes_woven d at ts (Exit ∷ []) h = closes_trivia_step d at ts out.Exit [] ∙ h
closes_woven zero at ts (Exit ∷ x ∷ xs) h = absurd (cc)
closes_woven (suc d) at ts (Exit ∷ x ∷ xs) h = closes_woven d at ts (x ∷ xs) h
closes_woven d at ts (Error number ∷ xs) h = closes_woven d at ts xs h

pub balanced_woven : (ts : List LexedToken) (xs : List Step) → given.is_balanced xs ≡ true
    → is_balanced (without_errors (weave ts xs)) ≡ true
balanced_woven ts [] h = cc
balanced_woven ts (Enter kind ∷ xs) h = closes_woven 0 0 ts xs h
balanced_woven ts (Token kind ∷ xs) h = cc
balanced_woven ts (Exit ∷ xs) h = cc
balanced_woven ts (Error number ∷ xs) h = cc

-- steps without `Error` steps have none
pub without_errors_has_none : (xs : List StrStep) → has_no_errors (without_errors xs) ≡ true
without_errors_has_none [] = refl
without_errors_has_none (out.Enter kind ∷ xs) = without_errors_has_none xs
without_errors_has_none (out.Token kind start end ∷ xs) = without_errors_has_none xs
without_errors_has_none (out.Exit ∷ xs) = without_errors_has_none xs
without_errors_has_none (out.Error number at ∷ xs) = without_errors_has_none xs
