-- The psql commands (PostgreSQL manual, psql, "Meta-Commands") that have rules of their own. A word
-- is the name of a command, without the backslash.
use Rattle.std.specs.Prelude.{ℕ, Bool, ◌||◌, List, [], ◌∷◌, codes}
use Rattle.std.specs.List.{list_any}
use Rattle.std.specs.Str.{bytes_eq, str_eq_ignore_ascii_case}

-- Commands that end the query before them: they send, finish or reset the query buffer.
abbrev pub query_ending_words : List (List ℕ)
query_ending_words =
    codes "g" ∷ codes "gx" ∷ codes "gdesc" ∷ codes "gexec" ∷ codes "gset" ∷ codes "getresults"
    ∷ codes "crosstabview" ∷ codes "watch" ∷ codes "parse" ∷ codes "close_prepared"
    ∷ codes "sendpipeline" ∷ codes "startpipeline" ∷ codes "syncpipeline" ∷ codes "endpipeline"
    ∷ codes "flush" ∷ codes "flushrequest" ∷ codes "r" ∷ codes "reset" ∷ []

-- Commands whose output may go to a pipe: a `|` takes the rest of the line.
abbrev pub pipe_words : List (List ℕ)
pipe_words = codes "g" ∷ codes "gx" ∷ codes "o" ∷ codes "out" ∷ codes "w" ∷ codes "write" ∷ []

-- Those of `pipe_words` that take options in parentheses before the output.
abbrev pub option_words : List (List ℕ)
option_words = codes "g" ∷ codes "gx" ∷ []

-- Commands whose one argument is the rest of the line, apart from `copy`.
abbrev pub whole_line_words : List (List ℕ)
whole_line_words = codes "!" ∷ codes "ef" ∷ codes "ev" ∷ codes "sf" ∷ codes "sf+" ∷ codes "sv"
    ∷ codes "sv+" ∷ codes "h" ∷ codes "help" ∷ []

-- Whether the word is one of the words, compared byte by byte.
abbrev pub is_among : List (List ℕ) → List ℕ → Bool
is_among words word = list_any (λ w. bytes_eq w word) words

-- Whether the command takes the rest of its line: one of `whole_line_words`, or `copy`, which is
-- ASCII case-insensitive.
abbrev pub takes_line : List ℕ → Bool
takes_line word = is_among whole_line_words word || str_eq_ignore_ascii_case word (codes "copy")
