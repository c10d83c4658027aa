-- The errors of a parse, collected in one walk over its steps.
use Rattle.std.specs.Prelude.{ℕ, ◌+◌, ◌==◌, ◌<◌, ◌&&◌, nat_lt, Bool, false, List, [], ◌∷◌, ◌++◌, drop, if◌then◌else◌}
use Rattle.squawk_events.specs.declared.steps.ParseError.{ParseError}
use Rattle.squawk_events.specs.declared.steps.StrStep.{StrStep}
use Rattle.squawk_events.specs.declared.steps.StrStep.TheVariants.{Enter, Token, Exit, Error}
use Rattle.squawk_lexed.specs.LexedToken.{LexedToken}
use Rattle.squawk_lexed.specs.LexedText.{token_start}
use Rattle.squawk_lexed.specs.Stored.{errors_at, errors_of, errors_from}
use Rattle.squawk_lexed.specs.Weave.{next_len, is_empty}
use Rattle.squawk_tree.specs.Errors.{error}

-- the error of an `Error` step: its range is that of the next token, and empty where none remains
abbrev pub step_error : ℕ → List LexedToken → ℕ → List ParseError
step_error at ts number = error at (at + next_len ts) number ∷ []

-- the errors of a step, where the first of the remaining tokens begins at an offset
abbrev pub step_errors : ℕ → List LexedToken → StrStep → List ParseError
step_errors at ts (Enter kind) = []
step_errors at [] (Token kind start end) = []
step_errors at (t ∷ ts) (Token kind start end) = errors_at at t.faults
step_errors at ts Exit = []
step_errors at ts (Error number offset) = step_error at ts number

-- the offset at which the tokens that remain after a step begin
abbrev pub next_start : ℕ → List LexedToken → StrStep → ℕ
next_start at ts (Enter kind) = at
next_start at ts (Token kind start end) = at + next_len ts
next_start at ts Exit = at
next_start at ts (Error number offset) = at

-- the tokens that remain after a step
abbrev pub tokens_after : List LexedToken → StrStep → List LexedToken
tokens_after ts (Enter kind) = ts
tokens_after ts (Token kind start end) = drop 1 ts
tokens_after ts Exit = ts
tokens_after ts (Error number offset) = ts

-- the errors of steps, where the first of the remaining tokens begins at an offset
abbrev pub errors_by_step : ℕ → List LexedToken → List StrStep → List ParseError
errors_by_step at ts [] = []
errors_by_step at ts (x ∷ xs) =
    step_errors at ts x ++ errors_by_step (next_start at ts x) (tokens_after ts x) xs

-- the errors before the first that does not begin before an offset
abbrev pub errors_before : ℕ → List ParseError → List ParseError
errors_before end [] = []
errors_before end (e ∷ es) = if nat_lt e.start end then e ∷ errors_before end es else []

-- whether steps contain all of the tokens from an offset, each `Error` at the start of the next one
abbrev pub covers : ℕ → List LexedToken → List StrStep → Bool
covers at ts [] = is_empty ts
covers at ts (Enter kind ∷ xs) = covers at ts xs
covers at ts (Exit ∷ xs) = covers at ts xs
covers at ts (Error number offset ∷ xs) = offset == at && covers at ts xs
covers at [] (Token kind start end ∷ xs) = false
covers at (t ∷ ts) (Token kind start end ∷ xs) = covers (at + t.len) ts xs

-- the error ends before a number
abbrev pub EndsBelow : ℕ → ParseError → Type 0
EndsBelow n e = e.end < n

-- The errors of `Error` steps merged with lexical errors in their order, where the first of the
-- remaining tokens begins at an offset: those that begin before the offset stand before the error
-- of an `Error` step.
abbrev pub merged_errors : ℕ → List LexedToken → List ParseError → List StrStep → List ParseError
merged_errors at ts lexical [] = lexical
merged_errors at ts lexical (Enter kind ∷ xs) = merged_errors at ts lexical xs
merged_errors at ts lexical (Token kind start end ∷ xs) =
    merged_errors (at + next_len ts) (drop 1 ts) lexical xs
merged_errors at ts lexical (Exit ∷ xs) = merged_errors at ts lexical xs
merged_errors at ts lexical (Error number offset ∷ xs) =
    errors_before at lexical
    ++ (step_error at ts number ++ merged_errors at ts (errors_from at lexical) xs)

-- the merged errors of the steps that remain, by the indices of the next token and of the next
-- lexical error
abbrev pub merged_from : List LexedToken → (token error : ℕ) → List StrStep → List ParseError
merged_from ts token error xs =
    merged_errors (token_start ts token) (drop token ts) (drop error (errors_of 0 ts)) xs
