-- Quotes, arguments and marks of psql's commands, as sequences of pieces and parts. The laws say
-- that the definitions in `PsqlParts` agree with them, each for every text.
use Rattle.std.specs.Prelude.{◌≡◌, ℕ, zero, suc, ◌+◌, ◌<◌, Bool, true, false, ◌||◌, ◌==◌, List, [], ◌∷◌, length, drop, slice_index, slice_get, Option, Some, None, option_map, if◌then◌else◌}
use Rattle.std.specs.List.{prefix_len}
use Rattle.squawk_lexer.specs.Classes.{is_line_end, is_not_line_end, is_blank}
use Rattle.squawk_lexer.specs.PsqlParts.{is_escape, close_len, ends_arguments, part_rest, arguments_len, mark_after, is_parenthesis, marked_len}

-- ---- one quote

-- Whether a text within a quote in q begins with an escape.
abbrev pub begins_escape : ℕ → List ℕ → Bool
begins_escape q (c ∷ d ∷ cs) = is_escape q c d
begins_escape q cs = false

-- The first n characters of what follows an opening quote q are whole pieces on one line. A piece
-- is an escape or a single character, and none is q by itself.
pub data IsPieces (q : ℕ) : List ℕ → ℕ → Type 0 where
  NoPiece : (cs : List ℕ) → IsPieces q cs 0
  OnePiece : (c : ℕ) (cs : List ℕ) (n : ℕ) → is_line_end c ≡ false → (c == q) ≡ false
      → begins_escape q (c ∷ cs) ≡ false → IsPieces q cs n → IsPieces q (c ∷ cs) (1 + n)
  EscapePiece : (c d : ℕ) (cs : List ℕ) (n : ℕ) → is_escape q c d ≡ true → IsPieces q cs n
      → IsPieces q (c ∷ d ∷ cs) (2 + n)

-- A quote is closed by the first q that is not part of an escape.
abbrev pub QuotesCloseFirst : Type 0
QuotesCloseFirst = (q : ℕ) (cs : List ℕ) (n : ℕ) → close_len q cs ≡ Some n → (m : ℕ) × (n ≡ m + 1)
    × IsPieces q cs m × (slice_get cs m ≡ Some q)

-- Where a quote is not closed, no piece up to the end of its line is q by itself.
abbrev pub OpenQuotesStayOpen : Type 0
OpenQuotesStayOpen = (q : ℕ) (cs : List ℕ) → close_len q cs ≡ None
    → IsPieces q cs (prefix_len is_not_line_end cs)

-- ---- sequences of parts

-- The first n characters of a text are whole parts, and the test `ends` holds of the first
-- character of none.
pub data IsParts (ends : ℕ → Bool) : List ℕ → ℕ → Type 0 where
  NoPart : (cs : List ℕ) → IsParts ends cs 0
  OnePart : (c : ℕ) (cs : List ℕ) (n : ℕ) → ends c ≡ false
      → IsParts ends (drop (part_rest c cs) cs) n → IsParts ends (c ∷ cs) (1 + part_rest c cs + n)

-- The same, and no further part follows: `ends` holds of the next character, if there is one.
pub record IsLongest (ends : ℕ → Bool) (cs : List ℕ) (n : ℕ) : Type 0 where
  pub parts : IsParts ends cs n
  pub stops : n < length cs → ends (slice_index cs n) ≡ true

-- The arguments with the blanks between them are the longest sequence of parts.
abbrev pub ArgumentsAreLongest : Type 0
ArgumentsAreLongest = (cs : List ℕ) → IsLongest ends_arguments cs (arguments_len 0 cs)

-- No other length is that of a longest sequence of parts.
abbrev pub ArgumentsAreUnique : Type 0
ArgumentsAreUnique = (cs : List ℕ) (n : ℕ) → IsLongest ends_arguments cs n → n ≡ arguments_len 0 cs

-- ---- one argument

-- Whether c ends an argument: a blank, or what ends all arguments.
abbrev pub ends_argument : ℕ → Bool
ends_argument c = ends_arguments c || is_blank c

-- The number of characters of the argument at the start of a text. Its first `inside` characters
-- belong to a part that began before.
abbrev pub argument_len : ℕ → List ℕ → ℕ
argument_len inside [] = 0
argument_len zero (c ∷ cs) = if ends_argument c then 0 else 1 + argument_len (part_rest c cs) cs
argument_len (suc inside) (c ∷ cs) = 1 + argument_len inside cs

-- An argument is the longest sequence of parts other than blanks.
abbrev pub ArgumentIsLongest : Type 0
ArgumentIsLongest = (cs : List ℕ) → IsLongest ends_argument cs (argument_len 0 cs)

-- No other length is that of a longest sequence of parts other than blanks.
abbrev pub ArgumentIsUnique : Type 0
ArgumentIsUnique = (cs : List ℕ) (n : ℕ) → IsLongest ends_argument cs n → n ≡ argument_len 0 cs

-- The mark of an argument whose rest is the start of a text, where it is `mark` before that rest.
-- The first `inside` characters of the rest belong to a part that began before.
abbrev pub mark_from : ℕ → Option ℕ → List ℕ → Option ℕ
mark_from inside mark [] = mark
mark_from zero mark (c ∷ cs) = if ends_argument c then mark
    else mark_from (part_rest c cs) (mark_after mark c cs) cs
mark_from (suc inside) mark (c ∷ cs) = mark_from inside mark cs

-- The mark of the argument at the start of a text.
abbrev pub mark_of : List ℕ → Option ℕ
mark_of cs = mark_from 0 None cs

-- ---- the first argument whose mark is `)`

-- The number of characters up to the end of the first argument whose mark is `)`, or `None` where
-- there is none. The first `inside` characters belong to an argument with another mark.
abbrev pub first_marked : ℕ → List ℕ → Option ℕ
first_marked inside [] = None
first_marked zero (c ∷ cs) =
    if ends_arguments c then None
    else if is_blank c then option_map (λ n. n + 1) (first_marked 0 cs)
    else if is_parenthesis (mark_of (c ∷ cs)) then Some (argument_len 0 (c ∷ cs))
    else option_map (λ n. n + 1) (first_marked (argument_len (part_rest c cs) cs) cs)
first_marked (suc inside) (c ∷ cs) = option_map (λ n. n + 1) (first_marked inside cs)

-- `marked_len`, which carries a mark along the parts, is the end of the first argument marked `)`.
abbrev pub MarkedIsFirst : Type 0
MarkedIsFirst = (cs : List ℕ) → marked_len 0 None cs ≡ first_marked 0 cs
