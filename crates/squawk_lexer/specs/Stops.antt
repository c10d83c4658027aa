-- Indexes of the next character that may not be skipped, for the functions that search for one of
-- two characters.
use Rattle.std.specs.Prelude.{ℕ, Bool, ◌||◌, ◌&&◌, ◌==◌, not, List}
use Rattle.squawk_lexer.specs.Classes.{is_not_line_end}
use Rattle.squawk_lexer.specs.Runs.{run_end}

-- Any character but a and b.
abbrev pub is_neither : ℕ → ℕ → ℕ → Bool
is_neither a b c = not (c == a || c == b)

-- The index of the first a or b at or after index i, or the end of the text.
unfoldable pub stop_at : ℕ → ℕ → List ℕ → ℕ → ℕ
stop_at a b u i = run_end (is_neither a b) u i

-- Any character but a, b, LF and CR.
abbrev pub is_neither_on_line : ℕ → ℕ → ℕ → Bool
is_neither_on_line a b c = is_neither a b c && is_not_line_end c
