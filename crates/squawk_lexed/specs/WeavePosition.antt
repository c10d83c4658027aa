-- Positions in a weave: how many steps and tokens were emitted.
use Rattle.std.specs.Prelude.{◌≡◌, ℕ, ◌+◌, ◌<◌, ◌≤◌, List, ◌∷◌, length, drop}
use Rattle.squawk_events.specs.declared.steps.Step.{Step}
use Rattle.squawk_events.specs.declared.steps.Step.TheVariants.{Token}
use Rattle.squawk_events.specs.declared.steps.StrStep.{StrStep}
use Rattle.squawk_lexed.specs.LexedText.{total_len}
use Rattle.squawk_lexed.specs.LexedToken.{LexedToken}
use Rattle.squawk_lexed.specs.Weave.{KindsAgree, after_leading_trivia, leading_trivia_end, weave_from, remaining_from}
use Rattle.squawk_lexed.specs.declared.weave.Position.{Position}

-- the weave that is left: of the steps and the tokens from the position on
abbrev pub weave_left : List LexedToken → List Step → Position → List StrStep
weave_left ts xs p = weave_from p.at (drop p.token ts) (drop p.step xs)

-- the tokens to which the steps from the position on give no step
abbrev pub remaining_left : List LexedToken → List Step → Position → List LexedToken
remaining_left ts xs p = remaining_from (drop p.token ts) (drop p.step xs)

-- the next step is a `Token`
abbrev pub IsTokenNext : List Step → Position → Type 0
IsTokenNext xs p = (kind : ℕ) × (drop p.step xs ≡ Token kind ∷ drop (p.step + 1) xs)

-- the tokens that are left begin at `at`, and have the kinds of the steps that are left
pub record IsPosition (ts : List LexedToken) (xs : List Step) (p : Position) : Type 0 where
  pub within : p.token ≤ length ts
  pub offset : p.at + total_len (drop p.token ts) ≡ total_len ts
  pub agree : KindsAgree (drop p.token ts) (drop p.step xs)

-- the second position is after the trivia that follows the first
pub record IsAfterTrivia (ts : List LexedToken) (from to : Position) : Type 0 where
  pub left : drop to.token ts ≡ after_leading_trivia (drop from.token ts)
  pub at : to.at ≡ leading_trivia_end from.at (drop from.token ts)
  pub same_end : to.at + total_len (drop to.token ts) ≡ from.at + total_len (drop from.token ts)
  pub forward : from.token ≤ to.token
  pub within : to.token ≤ length ts

-- the second position is after the first, and leaves out no token
pub record IsAfter (ts : List LexedToken) (xs : List Step) (from to : Position) : Type 0 where
  pub position : IsPosition ts xs to
  pub steps : from.step ≤ to.step
  pub tokens : from.token ≤ to.token
  pub forward : from.step + from.token < to.step + to.token
  pub remaining : remaining_left ts xs to ≡ remaining_left ts xs from
