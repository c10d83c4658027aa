use Rattle.std.proofs.Common.{rules, ◌≡◌, ◌∙◌, ap, refl, Bool, List, [], ◌∷◌}
use Rattle.std.specs.List.{filter}
use Rattle.std.proofs.lemmas.List.Elements.{filter_from_retain}
use Rattle.squawk_events.specs.declared.steps.StrStep.{StrStep}
use Rattle.squawk_events.specs.declared.steps.StrStep.TheVariants.{Enter, Token, Exit, Error}
use Rattle.squawk_tree.specs.Steps.{has_no_errors, without_errors}
use Rattle.squawk_tree.proofs.sink.remove_errors.Goals as goal

-- whether a step is no `Error`
abbrev is_kept : StrStep → Bool
is_kept x = has_no_errors (x ∷ [])

-- the steps other than `Error` steps are a filter
kept_steps : (xs : List StrStep) → filter is_kept xs ≡ without_errors xs
kept_steps [] = refl
kept_steps (Enter kind ∷ xs) = ap (λ ys. Enter kind ∷ ys) (kept_steps xs)
kept_steps (Token kind start end ∷ xs) = ap (λ ys. Token kind start end ∷ ys) (kept_steps xs)
kept_steps (Exit ∷ xs) = ap (λ ys. Exit ∷ ys) (kept_steps xs)
kept_steps (Error number at ∷ xs) = kept_steps xs

pub returns : goal.returns
returns c = filter_from_retain _ is_kept (λ p x b q called. search rules) _ _ _
    c.retain.ensures.filtered ∙ kept_steps c.args.steps.now.items
