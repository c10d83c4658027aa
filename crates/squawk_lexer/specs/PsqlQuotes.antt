-- Indexes and characters in a quote of psql's arguments, for the functions that skip one.
use Rattle.std.specs.Prelude.{ℕ, ◌+◌, List, drop, Option, option_map}
use Rattle.squawk_lexer.specs.PsqlParts.{close_len, quote_len, mark_after}

-- The index after the quote q that closes a quote, where index i of u is inside it. `None` where it
-- is not closed.
abbrev pub close_end : ℕ → List ℕ → ℕ → Option ℕ
close_end q u i = option_map (λ n. i + n) (close_len q (drop i u))

-- The index at which a quote ends, where index i of u is after its opening q.
abbrev pub quote_end : ℕ → List ℕ → ℕ → ℕ
quote_end q u i = i + quote_len q (drop i u)

-- The mark of an argument after that quote, where it was `mark` before.
abbrev pub mark_after_quote : Option ℕ → ℕ → List ℕ → ℕ → Option ℕ
mark_after_quote mark q u i = mark_after mark q (drop i u)
