-- The weave: the steps of a grammar with the ranges of their tokens, and with trivia between them.
-- `WeaveLaws` says of the result what it is.
use Rattle.std.specs.Prelude.{ℕ, ◌+◌, ◌==◌, Bool, true, false, IsTrue, ◌&&◌, List, [], ◌∷◌, ◌++◌, drop, if◌then◌else◌}
use Rattle.squawk_events.specs.Kinds.{is_trivia_kind}
use Rattle.squawk_events.specs.Lawful.{token_kinds}
use Rattle.squawk_events.specs.declared.steps.Step.{Step}
use Rattle.squawk_events.specs.declared.steps.Step.TheVariants.{Enter, Token, Exit, Error}
use Rattle.squawk_events.specs.declared.steps.StrStep.{StrStep}
use Rattle.squawk_events.specs.declared.steps.StrStep.TheVariants as out
use Rattle.squawk_lexed.specs.LexedToken.{LexedToken}

-- the kind, unless it is trivia
abbrev pub non_trivia_kind : ℕ → List ℕ
non_trivia_kind kind = if is_trivia_kind kind then [] else kind ∷ []

-- the kinds that are not trivia
abbrev pub kinds_without_trivia : List LexedToken → List ℕ
kinds_without_trivia [] = []
kinds_without_trivia (t ∷ ts) = non_trivia_kind t.kind ++ kinds_without_trivia ts

-- the steps of leading trivia, of tokens that begin at this byte
abbrev pub leading_trivia : ℕ → List LexedToken → List StrStep
leading_trivia at [] = []
leading_trivia at (t ∷ ts) = if is_trivia_kind t.kind
    then out.Token t.kind at (at + t.len) ∷ leading_trivia (at + t.len) ts else []

-- where leading trivia ends
abbrev pub leading_trivia_end : ℕ → List LexedToken → ℕ
leading_trivia_end at [] = at
leading_trivia_end at (t ∷ ts) = if is_trivia_kind t.kind then leading_trivia_end (at + t.len) ts
    else at

-- the tokens after leading trivia
abbrev pub after_leading_trivia : List LexedToken → List LexedToken
after_leading_trivia [] = []
after_leading_trivia (t ∷ ts) = if is_trivia_kind t.kind then after_leading_trivia ts else t ∷ ts

-- the length of the first token; 0 if there is none
abbrev pub next_len : List LexedToken → ℕ
next_len [] = 0
next_len (t ∷ ts) = t.len

-- whether a list has no element
abbrev pub is_empty : {A : Type 0} → List A → Bool
is_empty [] = true
is_empty (x ∷ xs) = false

-- a step with the pending trivia before it, by whether it is the last step, where the tokens that
-- are left begin at this byte; trivia waits for the next Enter, Token or last Exit
abbrev pub weave_step : Bool → ℕ → List LexedToken → Step → List StrStep
weave_step last at ts (Enter kind) = leading_trivia at ts ++ out.Enter kind ∷ []
weave_step last at ts (Token kind) = leading_trivia at ts
    ++ out.Token kind (leading_trivia_end at ts) (leading_trivia_end at ts
    + next_len (after_leading_trivia ts)) ∷ []
weave_step true at ts Exit = leading_trivia at ts ++ out.Exit ∷ []
weave_step false at ts Exit = out.Exit ∷ []
weave_step last at ts (Error number) = out.Error number at ∷ []

-- where the tokens that are left after a step begin
abbrev pub offset_after_step : Bool → ℕ → List LexedToken → Step → ℕ
offset_after_step last at ts (Enter kind) = leading_trivia_end at ts
offset_after_step last at ts (Token kind) =
    leading_trivia_end at ts + next_len (after_leading_trivia ts)
offset_after_step true at ts Exit = leading_trivia_end at ts
offset_after_step false at ts Exit = at
offset_after_step last at ts (Error number) = at

-- the tokens that are left after a step
abbrev pub tokens_after_step : Bool → List LexedToken → Step → List LexedToken
tokens_after_step last ts (Enter kind) = after_leading_trivia ts
tokens_after_step last ts (Token kind) = drop 1 (after_leading_trivia ts)
tokens_after_step true ts Exit = after_leading_trivia ts
tokens_after_step false ts Exit = ts
tokens_after_step last ts (Error number) = ts

-- the weave of all steps but the first
abbrev pub weave_from : ℕ → List LexedToken → List Step → List StrStep
weave_from at ts [] = []
weave_from at ts (x ∷ xs) = weave_step (is_empty xs) at ts x
    ++ weave_from (offset_after_step (is_empty xs) at ts x) (tokens_after_step (is_empty xs) ts x)
    xs

-- the weave of steps that begin with an Enter
abbrev pub weave : List LexedToken → List Step → List StrStep
weave ts (Enter kind ∷ xs) = out.Enter kind ∷ weave_from 0 ts xs
weave ts xs = []

-- the tokens that are left at the end, which get no step
abbrev pub remaining_from : List LexedToken → List Step → List LexedToken
remaining_from ts [] = ts
remaining_from ts (x ∷ xs) = remaining_from (tokens_after_step (is_empty xs) ts x) xs

-- the tokens that are left at the end of the whole weave
abbrev pub remaining_tokens : List LexedToken → List Step → List LexedToken
remaining_tokens ts (Enter kind ∷ xs) = remaining_from ts xs
remaining_tokens ts xs = ts

-- whether each token is emitted
abbrev pub all_emitted : List LexedToken → List Step → Bool
all_emitted ts steps = is_empty (remaining_tokens ts steps)

-- whether the first list begins with the second
abbrev pub begins_with : List ℕ → List ℕ → Bool
begins_with xs [] = true
begins_with [] (y ∷ ys) = false
begins_with (x ∷ xs) (y ∷ ys) = x == y && begins_with xs ys

-- the tokens of the steps have the first kinds of these tokens that are not trivia
abbrev pub KindsAgree : List LexedToken → List Step → Type 0
KindsAgree ts steps = IsTrue (begins_with (kinds_without_trivia ts) (token_kinds steps))
