-- The status of each error, and its line on standard error.
use Rattle.std.specs.Prelude.{ℕ, List, [], ◌∷◌, ◌++◌, codes, decimal}
use Rattle.squawk_events.specs.declared.error.FrontError.TheVariants.{TooLong, OutOfMemory, BadRange}
use Rattle.squawk_lexer.specs.Classes.{line_feed}
use Rattle.squawk_show.specs.declared.error.RunError.{RunError}
use Rattle.squawk_show.specs.declared.error.RunError.TheVariants.{BadWords, ReadFault, NotUtf8, Front, BadScript, WriteFault}

-- the status that the program ends with after an error
abbrev pub status_of_error : RunError → ℕ
status_of_error BadWords = 2
status_of_error ReadFault = 3
status_of_error (NotUtf8 at) = 4
status_of_error (Front TooLong) = 5
status_of_error (Front OutOfMemory) = 6
status_of_error WriteFault = 7
status_of_error (BadScript at) = 8
status_of_error (Front BadRange) = 9

-- the message of an error, up to its number
abbrev pub error_message : RunError → List ℕ
error_message BadWords = codes "bad words"
error_message ReadFault = codes "cannot read the input"
error_message (NotUtf8 at) = codes "not UTF-8 at "
error_message (Front TooLong) = codes "too long"
error_message (Front OutOfMemory) = codes "out of memory"
error_message WriteFault = codes "cannot write the output"
error_message (BadScript at) = codes "bad script at "
error_message (Front BadRange) = codes "bad range"

-- the number in the message of an error, in decimal digits, if it has one
abbrev pub error_number : RunError → List ℕ
error_number BadWords = []
error_number ReadFault = []
error_number (NotUtf8 at) = decimal at
error_number (Front TooLong) = []
error_number (Front OutOfMemory) = []
error_number WriteFault = []
error_number (BadScript at) = decimal at
error_number (Front BadRange) = []

-- the line that `run` writes to `err` for an error
abbrev pub error_line : RunError → List ℕ
error_line e = error_message e ++ error_number e ++ line_feed ∷ []
