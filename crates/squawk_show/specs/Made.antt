-- The text that the command `make` parses: numbered pieces of SQL and psql.
use Rattle.std.specs.Prelude.{ℕ, zero, suc, ◌%◌, ◌==◌, List, [], ◌∷◌, ◌++◌, codes, decimal, if◌then◌else◌}
use Rattle.squawk_lexer.specs.Classes.{line_feed}

-- the most pieces of a made text
abbrev pub most_pieces : ℕ
most_pieces = 100000

-- a line with the digits of a number in it
abbrev pub numbered_line : (before : List ℕ) (number : ℕ) (after : List ℕ) → List ℕ
numbered_line before number after = before ++ decimal number ++ after ++ line_feed ∷ []

-- the piece with a number: the remainder by 4 chooses a statement or two lines
unfoldable pub piece : ℕ → List ℕ
piece i =
    if i % 4 == 0 then numbered_line (codes "select ") i (codes ";")
    else if i % 4 == 1 then numbered_line (codes "insert into t values ('") i (codes "');")
    else if i % 4 == 2 then numbered_line (codes "update t set a = $1 where b = ") i (codes ";")
    else numbered_line (codes "-- ") i [] ++ numbered_line (codes "\\echo ") i []

-- the text of the pieces 0 to n - 1, in order
abbrev pub made : ℕ → List ℕ
made zero = []
made (suc n) = made n ++ piece n
