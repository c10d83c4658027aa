-- The arguments of a psql command (PostgreSQL manual, psql, "Meta-Commands"): a sequence of parts
-- on one line. A part is a text in quotes, or a single character. Blanks outside quotes separate the
-- arguments, and a backslash outside quotes begins the next command.
use Rattle.std.specs.Prelude.{ℕ, ◌+◌, ◌-◌, zero, suc, Bool, false, not, ◌&&◌, ◌||◌, ◌==◌, List, [], ◌∷◌, take, drop, Option, Some, None, option_map, unwrap_or, if◌then◌else◌}
use Rattle.std.specs.List.{prefix_len, last_or}
use Rattle.std.specs.Option.{option_or}
use Rattle.squawk_lexer.specs.Classes.{is_line_end, is_not_line_end, is_blank, apostrophe, quotation_mark, backquote, backslash, close_paren}

-- Whether c opens a quote.
abbrev pub is_psql_quote : ℕ → Bool
is_psql_quote c = (c == apostrophe || c == quotation_mark) || c == backquote

-- Whether c and d, within a quote in q, are an escape: within `'` alone, a backslash and a
-- character after it on the same line.
abbrev pub is_escape : ℕ → ℕ → ℕ → Bool
is_escape q c d = (q == apostrophe && c == backslash) && not (is_line_end d)

-- The number of characters after an opening quote q, up to and including the first q that is no
-- part of an escape, or `None` where the line ends before that.
abbrev pub close_len : ℕ → List ℕ → Option ℕ
close_len q [] = None
close_len q (c ∷ []) = if c == q then Some 1 else None
close_len q (c ∷ d ∷ cs) =
    if is_line_end c then None
    else if c == q then Some 1
    else if is_escape q c d then option_map (λ n. n + 2) (close_len q cs)
    else option_map (λ n. n + 1) (close_len q (d ∷ cs))

-- The number of characters of a quote after its opening q. An unclosed quote ends with its line.
abbrev pub quote_len : ℕ → List ℕ → ℕ
quote_len q cs = unwrap_or (close_len q cs) (prefix_len is_not_line_end cs)

-- The last character of the quoted text, which is what comes before the closing quote that ends
-- after n characters. `None` where the quoted text is empty or the quote is not closed.
abbrev pub last_inside : List ℕ → Option ℕ → Option ℕ
last_inside cs None = None
last_inside cs (Some n) = last_or None (take (n - 1) cs)

-- Whether c, outside quotes, ends the arguments: a line end or a backslash.
abbrev pub ends_arguments : ℕ → Bool
ends_arguments c = is_line_end c || c == backslash

-- The number of characters of a part after its first, which is c.
abbrev pub part_rest : ℕ → List ℕ → ℕ
part_rest c cs = if is_psql_quote c then quote_len c cs else 0

-- The number of characters of the longest sequence of parts. The first `inside` characters belong
-- to a part that began before.
abbrev pub arguments_len : ℕ → List ℕ → ℕ
arguments_len inside [] = 0
arguments_len zero (c ∷ cs) = if ends_arguments c then 0 else 1 + arguments_len (part_rest c cs) cs
arguments_len (suc inside) (c ∷ cs) = 1 + arguments_len inside cs

-- The index at which the arguments that begin at index i end.
abbrev pub arguments_end : List ℕ → ℕ → ℕ
arguments_end u i = i + arguments_len 0 (drop i u)

-- The mark of an argument after its part that begins with c, where it was `mark` before that part.
-- It stands for the last character of the argument, which psql compares with `)`: a single
-- character is its own mark, a quote in `'` has the mark of its last character and keeps the old
-- one where it is empty, one in `"` has the mark `"`, and one in backquotes has none. The mark of
-- an unclosed quote decides nothing, since the arguments end with it.
abbrev pub mark_after : Option ℕ → ℕ → List ℕ → Option ℕ
mark_after mark c cs =
    if c == apostrophe then option_or (last_inside cs (close_len c cs)) mark
    else if c == backquote then None
    else Some c

-- Whether the mark is `)`.
abbrev pub is_parenthesis : Option ℕ → Bool
is_parenthesis None = false
is_parenthesis (Some c) = c == close_paren

-- The number of characters up to the end of the first argument whose mark is `)`, or `None` where
-- there is none. The first `inside` characters belong to a part that began before, and `mark` is
-- the mark of the argument up to the end of that part.
abbrev pub marked_len : ℕ → Option ℕ → List ℕ → Option ℕ
marked_len inside mark [] = if is_parenthesis mark then Some 0 else None
marked_len zero mark (c ∷ cs) =
    if ends_arguments c then (if is_parenthesis mark then Some 0 else None)
    else if is_blank c then (if is_parenthesis mark then Some 0
    else option_map (λ n. n + 1) (marked_len 0 None cs))
    else option_map (λ n. n + 1) (marked_len (part_rest c cs) (mark_after mark c cs) cs)
marked_len (suc inside) mark (c ∷ cs) = option_map (λ n. n + 1) (marked_len inside mark cs)

-- The same from index i of a text on, where an argument begins.
abbrev pub marked_len_at : List ℕ → ℕ → Option ℕ
marked_len_at u i = marked_len 0 None (drop i u)
