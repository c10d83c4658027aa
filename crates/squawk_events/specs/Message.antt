-- The messages of errors, by their numbers.
use Rattle.std.specs.Prelude.{ℕ, ◌-◌, List, [], ◌∷◌, codes, slice_index_or}

-- the messages, in the order of their numbers from 1 to 10
abbrev pub messages : List (List ℕ)
messages =
    codes "unknown character" ∷
    codes "unterminated block comment" ∷
    codes "unterminated string" ∷
    codes "unterminated quoted identifier" ∷
    codes "missing digits after base prefix" ∷
    codes "missing digits in exponent" ∷
    codes "trailing junk after number" ∷
    codes "missing digits in parameter" ∷
    codes "trailing junk after parameter" ∷
    codes "unknown statement" ∷ []

-- the message with a number
abbrev pub message_of : ℕ → List ℕ
message_of number = slice_index_or messages (number - 1) []
