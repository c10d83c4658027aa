-- The weave from one position to the next, at an `Enter`.
use Rattle.std.proofs.Common.{◌≡◌, ◌++◌, ℕ, ◌+◌, ◌<◌, true, List, [], ◌∷◌, length, drop, get_or, ap, refl, ◌∙◌, arith, IfOk}
use Rattle.std.specs.Prelude.{Result, Ok, Err, OnErr}
use Rattle.std.proofs.lemmas.List.{drop_more}
use Rattle.squawk_events.specs.Lawful.{token_kinds}
use Rattle.squawk_events.specs.declared.error.FrontError.{FrontError}
use Rattle.squawk_events.specs.declared.steps.Step.{Step}
use Rattle.squawk_events.specs.declared.steps.Step.TheVariants.{Enter}
use Rattle.squawk_events.specs.declared.steps.StrStep.{StrStep}
use Rattle.squawk_events.specs.declared.steps.StrStep.TheVariants as out
use Rattle.squawk_lexed.specs.LexedToken.{LexedToken}
use Rattle.squawk_lexed.specs.Prefixes.{AppendsPrefix}
use Rattle.squawk_lexed.specs.Weave.{kinds_without_trivia, leading_trivia, leading_trivia_end, after_leading_trivia, weave_from, begins_with}
use Rattle.squawk_lexed.specs.WeavePosition.{weave_left, IsPosition, IsAfterTrivia, IsAfter}
use Rattle.squawk_lexed.specs.declared.weave.Position.{Position}
use Rattle.squawk_lexed.proofs.PrefixLemmas.{prefix_part}
use Rattle.squawk_lexed.proofs.WeaveLemmas.{kinds_after_leading_trivia}

-- the steps from an index on begin with the step at it
pub next_step : (xs : List Step) (k : ℕ) (default x : Step) → k < length xs
    → get_or xs k default ≡ x → drop k xs ≡ x ∷ drop (k + 1) xs
next_step xs k default x within is = drop_more xs k default within
    ∙ ap (λ y. y ∷ drop (k + 1) xs) is

module _ (ts : List LexedToken) (xs : List Step) (from : Position) (kind : ℕ)
    (next : drop from.step xs ≡ Enter kind ∷ drop (from.step + 1) xs) where
  -- the kinds that are left agree after leading trivia
  agree_after : (us : List LexedToken) (later : List Step) (now : List LexedToken)
      → now ≡ after_leading_trivia us
      → begins_with (kinds_without_trivia us) (token_kinds (Enter kind ∷ later)) ≡ true
      → begins_with (kinds_without_trivia now) (token_kinds later) ≡ true
  agree_after us later now is h = rw (is, kinds_after_leading_trivia us) h

  enter_to : (to : Position) → IsPosition ts xs from → IsAfterTrivia ts from to
      → to.step ≡ from.step + 1
      → IsAfter ts xs from to
  enter_to to position after step = record {
    position = record {
      within = after.within;
      offset = after.same_end ∙ position.offset;
      agree = rw step (agree_after (drop from.token ts) (drop (from.step + 1) xs) (drop to.token ts)
          after.left (rw next at position.agree));
    };
    steps = omega (arith, step);
    tokens = after.forward;
    forward = omega (arith, step, after.forward);
    remaining = rw (step, after.left, next) refl;
  }

  -- an `Enter` with the trivia before it leads to the next position
  pub enter_after : (r : Result Position FrontError) → IsPosition ts xs from
      → IfOk r (IsAfterTrivia ts from) → IfOk r (λ to. to.step ≡ from.step + 1)
      → IfOk r (IsAfter ts xs from)
  enter_after (Ok to) position after step = enter_to to position after step
  enter_after (Err error) position after step = tt

  -- where it fails, a prefix of the weave that is left was emitted
  pub enter_prefix : (r : Result Position FrontError) (old now : List StrStep)
      → OnErr r (AppendsPrefix old now
      (leading_trivia from.at (drop from.token ts) ++ out.Enter kind ∷ []))
      → OnErr r (AppendsPrefix old now (weave_left ts xs from))
  enter_prefix (Ok to) old now part = tt
  enter_prefix (Err error) old now part =
      rw next (prefix_part old now _ (weave_from (leading_trivia_end from.at (drop from.token ts))
      (after_leading_trivia (drop from.token ts)) (drop (from.step + 1) xs)) part)
