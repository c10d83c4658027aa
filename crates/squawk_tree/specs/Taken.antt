-- The value of a `TreeSink`.
use Rattle.std.specs.Prelude.{◌≡◌, ℕ, ◌≤◌, Bool, All, List, [], ◌∷◌}
use Rattle.squawk_events.specs.declared.steps.ParseError.{ParseError}
use Rattle.squawk_events.specs.declared.steps.StrStep.{StrStep}
use Rattle.squawk_events.specs.declared.steps.StrStep.TheVariants.{Enter, Token, Exit, Error}
use Rattle.squawk_tree.specs.Steps.{has_no_errors}

-- the steps that a sink has received, `Error` steps among them, and the errors pushed to it
pub record Taken : Type 0 where
  pub steps : List StrStep
  pub errors : List ParseError

-- an error has one of the ten messages, and does not end before its start
pub record IsError (e : ParseError) : Type 0 where
  pub first_number : 1 ≤ e.number
  pub last_number : e.number ≤ 10
  pub ordered : e.start ≤ e.end

-- the end of the last token, or the offset itself where there is none
abbrev pub end_after : ℕ → List StrStep → ℕ
end_after at [] = at
end_after at (Enter kind ∷ xs) = end_after at xs
end_after at (Token kind start end ∷ xs) = end_after end xs
end_after at (Exit ∷ xs) = end_after at xs
end_after at (Error number offset ∷ xs) = end_after at xs

-- the end of the last token, or 0 where there is none
abbrev pub tokens_end : List StrStep → ℕ
tokens_end steps = end_after 0 steps

-- the error ends at an offset or before it
abbrev pub EndsBy : ℕ → ParseError → Type 0
EndsBy len e = e.end ≤ len

-- the flag says whether no `Error` is among the steps, and the errors are lawful
pub record IsSinkState (steps : List StrStep) (no_errors : Bool) (errors : List ParseError)
    : Type 0 where
  pub flag : no_errors ≡ has_no_errors steps
  pub errors_are : All IsError errors
