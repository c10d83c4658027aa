-- The errors of a parse, in the order of its tokens: the faults of tokens, and the errors that a
-- grammar reports between them.
use Rattle.std.specs.Prelude.{ℕ, ◌+◌, ◌==◌, List, [], ◌∷◌, ◌++◌, map, if◌then◌else◌}
use Rattle.squawk_events.specs.declared.steps.ParseError.{ParseError}
use Rattle.squawk_events.specs.declared.steps.StrStep.{StrStep}
use Rattle.squawk_events.specs.declared.steps.StrStep.TheVariants.{Enter, Token, Exit, Error}
use Rattle.squawk_lexed.specs.LexedToken.{LexedToken}
use Rattle.squawk_lexed.specs.Stored.{errors_at}

-- an error with this range and number
abbrev pub error : (start end number : ℕ) → ParseError
error start end number = record { start = start; end = end; number = number }

-- the numbers of the `Error` steps at an offset, in order
abbrev pub numbers_at : ℕ → List StrStep → List ℕ
numbers_at at [] = []
numbers_at at (Enter kind ∷ xs) = numbers_at at xs
numbers_at at (Token kind start end ∷ xs) = numbers_at at xs
numbers_at at (Exit ∷ xs) = numbers_at at xs
numbers_at at (Error number offset ∷ xs) = if offset == at then number ∷ numbers_at at xs
    else numbers_at at xs

-- For each token, the errors of the `Error` steps at its start, in the order of these steps, and
-- then its faults; after the last token, the errors of the `Error` steps at the end of the text.
-- The range of an `Error` step is that of the token that begins at its offset, and empty at the
-- end.
abbrev pub errors_by_token : ℕ → List LexedToken → List StrStep → List ParseError
errors_by_token at [] xs = map (error at at) (numbers_at at xs)
errors_by_token at (t ∷ ts) xs =
    map (error at (at + t.len)) (numbers_at at xs) ++ errors_at at t.faults
    ++ errors_by_token (at + t.len) ts xs

-- the errors of a parse of these tokens
abbrev pub errors : List LexedToken → List StrStep → List ParseError
errors ts xs = errors_by_token 0 ts xs
