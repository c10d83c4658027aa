-- What a weave is, in words of its result.
use Rattle.std.specs.Prelude.{◌≡◌, ℕ, ◌+◌, Bool, true, false, IsTrue, List, [], ◌∷◌, ◌++◌, if◌then◌else◌}
use Rattle.squawk_events.specs.Kinds.{is_trivia_kind}
use Rattle.squawk_events.specs.Lawful.{is_balanced}
use Rattle.squawk_events.specs.declared.steps.Step.{Step}
use Rattle.squawk_events.specs.declared.steps.Step.TheVariants.{Enter, Token, Exit, Error}
use Rattle.squawk_events.specs.declared.steps.StrStep.{StrStep}
use Rattle.squawk_events.specs.declared.steps.StrStep.TheVariants as out
use Rattle.squawk_lexed.specs.LexedToken.{LexedToken}
use Rattle.squawk_lexed.specs.Weave.{KindsAgree, is_empty, weave, remaining_tokens}

-- the steps without trivia tokens, offsets and ranges
abbrev pub steps_of : List StrStep → List Step
steps_of [] = []
steps_of (out.Enter kind ∷ xs) = Enter kind ∷ steps_of xs
steps_of (out.Token kind start end ∷ xs) = if is_trivia_kind kind then steps_of xs
    else Token kind ∷ steps_of xs
steps_of (out.Exit ∷ xs) = Exit ∷ steps_of xs
steps_of (out.Error number at ∷ xs) = Error number ∷ steps_of xs

-- the Token steps alone
abbrev pub token_steps_of : List StrStep → List StrStep
token_steps_of [] = []
token_steps_of (out.Enter kind ∷ xs) = token_steps_of xs
token_steps_of (out.Token kind start end ∷ xs) = out.Token kind start end ∷ token_steps_of xs
token_steps_of (out.Exit ∷ xs) = token_steps_of xs
token_steps_of (out.Error number at ∷ xs) = token_steps_of xs

-- tokens as steps, the first of which begins at this offset
abbrev pub token_steps : ℕ → List LexedToken → List StrStep
token_steps at [] = []
token_steps at (t ∷ ts) = out.Token t.kind at (at + t.len) ∷ token_steps (at + t.len) ts

-- whether the first token is trivia
abbrev pub begins_with_trivia : List LexedToken → Bool
begins_with_trivia [] = false
begins_with_trivia (t ∷ ts) = is_trivia_kind t.kind

-- whether the last Enter or Token among these steps is a Token; `otherwise` if there is neither
abbrev pub last_is_token : (otherwise : Bool) → List StrStep → Bool
last_is_token otherwise [] = otherwise
last_is_token otherwise (out.Enter kind ∷ xs) = last_is_token false xs
last_is_token otherwise (out.Token kind start end ∷ xs) = last_is_token true xs
last_is_token otherwise (out.Exit ∷ xs) = last_is_token otherwise xs
last_is_token otherwise (out.Error number at ∷ xs) = last_is_token otherwise xs

-- whether trivia may stand directly before these steps: the first of them is an Enter, a Token or
-- the last Exit
abbrev pub takes_trivia : List StrStep → Bool
takes_trivia [] = false
takes_trivia (out.Enter kind ∷ xs) = true
takes_trivia (out.Token kind start end ∷ xs) = true
takes_trivia (out.Exit ∷ xs) = is_empty xs
takes_trivia (out.Error number at ∷ xs) = false

-- where the last Token among these steps ends; `otherwise` if there is none
abbrev pub last_token_end : (otherwise : ℕ) → List StrStep → ℕ
last_token_end otherwise [] = otherwise
last_token_end otherwise (out.Enter kind ∷ xs) = last_token_end otherwise xs
last_token_end otherwise (out.Token kind start end ∷ xs) = last_token_end end xs
last_token_end otherwise (out.Exit ∷ xs) = last_token_end otherwise xs
last_token_end otherwise (out.Error number at ∷ xs) = last_token_end otherwise xs

-- A trivia token stands directly before the first Enter, Token or last Exit after its anchor, which
-- is the Token before it, or the root's Enter if there is none.
pub record IsWeave (ts : List LexedToken) (steps : List Step) (woven : List StrStep)
    : Type 0 where
  -- without the trivia tokens, these are the steps
  pub steps_kept : steps_of woven ≡ steps
  -- the Token steps are the tokens in their order, each with its range
  pub tokens_kept : (given : List LexedToken) × (ts ≡ given ++ remaining_tokens ts steps)
      × (token_steps_of woven ≡ token_steps 0 given)
  -- trivia remains only after a token that is not trivia
  pub trivia_given : begins_with_trivia (remaining_tokens ts steps) ≡ false
  -- each trivia token is placed as said above
  pub trivia_placed : (root kind start end : ℕ) (before after : List StrStep)
      → woven ≡ out.Enter root ∷ before ++ out.Token kind start end ∷ after
      → is_trivia_kind kind ≡ true
      → (last_is_token true before ≡ true) × (takes_trivia after ≡ true)
  -- an Error stands at the end of the token before it, which is the start of the next
  pub errors_placed : (root number at : ℕ) (before after : List StrStep)
      → woven ≡ out.Enter root ∷ before ++ out.Error number at ∷ after
      → at ≡ last_token_end 0 before

-- the weave of balanced steps, whose tokens the text begins with, is one
abbrev pub TriviaIsWoven : Type 0
TriviaIsWoven = (tokens : List LexedToken) (steps : List Step) → IsTrue (is_balanced steps)
    → KindsAgree tokens steps → IsWeave tokens steps (weave tokens steps)
