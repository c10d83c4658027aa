-- What the words of a command line ask for: a reading of texts and a command.
use Rattle.std.specs.Prelude.{ℕ, ◌≤◌, ◌&&◌, nat_lt, nat_le, Bool, false, List, [], ◌∷◌, String, Result, Ok, Err, codes, drop, if◌then◌else◌, ⊤}
use Rattle.std.specs.Str.{all_ascii_digits, bytes_eq}
use Rattle.std.specs.Str.Parse.{digits_value}
use Rattle.std.specs.String.{string_bytes}
use Rattle.std.specs.declared.alloc.Global.{Global}
use Rattle.squawk_lexer.specs.Classes.{digit_0}
use Rattle.squawk_lexer.specs.declared.token.Strings.{Strings}
use Rattle.squawk_lexer.specs.declared.token.Strings.TheVariants.{Standard, Backslash}
use Rattle.squawk_show.specs.Made.{most_pieces}
use Rattle.squawk_show.specs.declared.command.Command.{Command}
use Rattle.squawk_show.specs.declared.command.Command.TheVariants.{Show, Make, Replay}
use Rattle.squawk_show.specs.declared.command.Form.TheVariants.{Report, Pieces, Quotes, Squeezed, Clauses}
use Rattle.squawk_show.specs.declared.error.RunError.{RunError}
use Rattle.squawk_show.specs.declared.error.RunError.TheVariants.{BadWords}
use Rattle.squawk_show.specs.declared.options.Reading.{Reading}
use Rattle.squawk_statements.specs.declared.division.Division.{Division}
use Rattle.squawk_statements.specs.declared.division.Division.TheVariants.{Flat, Grouped}

-- Commands

-- a number of pieces in decimal digits: the first is not 0, and the number is at most `most_pieces`
abbrev pub is_piece_count : List ℕ → Bool
is_piece_count [] = false
is_piece_count (c ∷ cs) = nat_lt digit_0 c && (all_ascii_digits (c ∷ cs)
    && nat_le (digits_value 10 (c ∷ cs)) most_pieces)

-- the command `make` with this word after it
abbrev pub make_command : List ℕ → Result Command RunError
make_command count =
    if is_piece_count count then Ok (Make (digits_value 10 count)) else Err BadWords

-- the command of one word
abbrev pub word_command : List ℕ → Result Command RunError
word_command word =
    if bytes_eq word (codes "split") then Ok (Show Pieces)
    else if bytes_eq word (codes "quote") then Ok (Show Quotes)
    else if bytes_eq word (codes "squeeze") then Ok (Show Squeezed)
    else if bytes_eq word (codes "clauses") then Ok (Show Clauses)
    else if bytes_eq word (codes "replay") then Ok Replay
    else Err BadWords

-- the command that words without options name
abbrev pub named_command : List (String Global) → Result Command RunError
named_command [] = Ok (Show Report)
named_command (word ∷ []) = word_command (string_bytes word)
named_command (word ∷ count ∷ []) = if bytes_eq (string_bytes word) (codes "make")
    then make_command (string_bytes count) else Err BadWords
named_command (word ∷ count ∷ other ∷ words) = Err BadWords

-- a command makes no more than `most_pieces` pieces
abbrev pub IsWithinPieces : Command → Type 0
IsWithinPieces (Show form) = ⊤
IsWithinPieces (Make pieces) = pieces ≤ most_pieces
IsWithinPieces Replay = ⊤

-- Options

-- the first of the words is this option
abbrev pub has_option : List ℕ → List (String Global) → Bool
has_option option [] = false
has_option option (word ∷ words) = bytes_eq (string_bytes word) option

-- the words after an option, if it is the first of them
abbrev pub without_option : List ℕ → List (String Global) → List (String Global)
without_option option words = if has_option option words then drop 1 words else words

-- the reading of plain strings, by whether the option for backslashes is given
abbrev pub strings_of : Bool → Strings
strings_of backslash = if backslash then Backslash else Standard

-- the division into statements, by whether the option for groups is given
abbrev pub division_of : Bool → Division
division_of grouped = if grouped then Grouped else Flat

-- the words after `--backslash`, if that is the first of them
abbrev pub without_backslash : List (String Global) → List (String Global)
without_backslash words = without_option (codes "--backslash") words

-- the reading that the options choose; each may be left out, and they have this order
abbrev pub reading_of : List (String Global) → Reading
reading_of words = record {
  strings = strings_of (has_option (codes "--backslash") words);
  division = division_of (has_option (codes "--grouped") (without_backslash words));
}

-- the words after the options
abbrev pub without_options : List (String Global) → List (String Global)
without_options words = without_option (codes "--grouped") (without_backslash words)

-- Requests

-- how texts are read, and a command; or that the words name none
pub record Request : Type 0 where
  pub reading : Reading
  pub command : Result Command RunError

-- a request of this command by this reading
abbrev pub asks : Reading → Command → Request
asks reading command = record { reading = reading; command = Ok command }

-- what the words of a command line ask for: the options choose the reading, and the words after
-- them name the command
unfoldable pub request_of : List (String Global) → Request
request_of words = record {
  reading = reading_of words;
  command = named_command (without_options words);
}

-- the command that the words of a command line name
abbrev pub command_of : List (String Global) → Result Command RunError
command_of words = (request_of words).command
