-- The forms in which the program writes a text, as bytes.
use Rattle.std.specs.Prelude.{⊤, ℕ, ◌≤◌, List, [], ◌∷◌, ◌++◌, codes, flat_map, length}
use Rattle.std.specs.Str.{chars, encode_utf8_all}
use Rattle.squawk_clauses.specs.Laws.{clause_parse}
use Rattle.squawk_events.specs.Limit.{limit}
use Rattle.squawk_events.specs.declared.error.FrontError.{FrontError}
use Rattle.squawk_events.specs.declared.error.FrontError.TheVariants.{TooLong, OutOfMemory, BadRange}
use Rattle.squawk_lexer.specs.Classes.{line_feed, space}
use Rattle.squawk_lexer.specs.declared.token.Strings.{Strings}
use Rattle.squawk_quote.specs.Values.{string_constant_bytes, dollar_constant_bytes, quoted_identifier_bytes}
use Rattle.squawk_show.specs.Report.{range_text, report_of}
use Rattle.squawk_show.specs.declared.command.Form.{Form}
use Rattle.squawk_show.specs.declared.command.Form.TheVariants.{Report, Pieces, Quotes, Squeezed, Clauses}
use Rattle.squawk_show.specs.declared.options.Reading.{Reading}
use Rattle.squawk_split.specs.Pieces.{pieces_of}
use Rattle.squawk_split.specs.declared.pieces.Piece.{Piece}
use Rattle.squawk_split.specs.declared.pieces.PieceKind.{PieceKind}
use Rattle.squawk_split.specs.declared.pieces.PieceKind.TheVariants.{Gap, Statement, Command, CopyData}
use Rattle.squawk_squeeze.specs.Squeezed.{squeezed_text}
use Rattle.squawk_tree.specs.ParseOf.{parse_of, tokens_of}
use Rattle.squawk_tree.specs.Tree.{Tree}

-- Trees

-- the parse of a text under a reading
unfoldable pub parse_under : Reading → List ℕ → Tree
parse_under reading text = parse_of reading.strings reading.division text

-- the same with the clauses of its `SELECT` statements
unfoldable pub clause_parse_under : Reading → List ℕ → Tree
clause_parse_under reading text = clause_parse reading.division (tokens_of reading.strings text)

-- the tree that goes with a form
abbrev pub form_tree : Form → Reading → List ℕ → Tree
form_tree Report = parse_under
form_tree Pieces = parse_under
form_tree Quotes = parse_under
form_tree Squeezed = parse_under
form_tree Clauses = clause_parse_under

-- The pieces of a script

-- the letter of a line of a piece
abbrev pub piece_letter : PieceKind → List ℕ
piece_letter Gap = codes "G"
piece_letter Statement = codes "S"
piece_letter Command = codes "C"
piece_letter CopyData = codes "D"

-- the line of a piece: its letter, a space, its range and an LF
abbrev pub piece_line : Piece → List ℕ
piece_line p = piece_letter p.kind ++ space ∷ range_text (p.start, p.end) ++ line_feed ∷ []

-- the lines of the pieces of a script
unfoldable pub piece_lines : Reading → List ℕ → List ℕ
piece_lines reading text = flat_map piece_line (pieces_of reading.strings reading.division text)

-- SQL that has a text as its value

-- a string constant, a dollar-quoted string and a quoted identifier, each before an LF
abbrev pub quotes_of : List ℕ → List ℕ
quotes_of value = string_constant_bytes value ++ line_feed ∷ dollar_constant_bytes value
    ++ line_feed ∷ quoted_identifier_bytes value ++ line_feed ∷ []

-- none of the three is longer than the limit
pub record AreQuotesWithin (value : List ℕ) : Type 0 where
  pub string : length (string_constant_bytes value) ≤ limit
  pub dollar : length (dollar_constant_bytes value) ≤ limit
  pub identifier : length (quoted_identifier_bytes value) ≤ limit

-- the errors of making the three, and when each comes
abbrev pub IsQuoteRefusal : List ℕ → FrontError → Type 0
IsQuoteRefusal value TooLong = ¬ (AreQuotesWithin value)
IsQuoteRefusal value OutOfMemory = ⊤
IsQuoteRefusal value BadRange = ⊥

-- White space and comments

-- the text in which one character stands for each run of white space and comments
abbrev pub squeezed_bytes : Strings → List ℕ → List ℕ
squeezed_bytes strings text = encode_utf8_all (squeezed_text strings (chars text))

-- Forms

-- a text has a form, if no part of the form is too long
abbrev pub IsFormWithin : Form → List ℕ → Type 0
IsFormWithin Report text = ⊤
IsFormWithin Pieces text = ⊤
IsFormWithin Quotes text = AreQuotesWithin text
IsFormWithin Squeezed text = ⊤
IsFormWithin Clauses text = ⊤

-- the form of a text that has this tree
abbrev pub form_of : Reading → Form → List ℕ → Tree → List ℕ
form_of reading Report text tree = report_of tree
form_of reading Pieces text tree = piece_lines reading text
form_of reading Quotes text tree = quotes_of text
form_of reading Squeezed text tree = squeezed_bytes reading.strings text
form_of reading Clauses text tree = report_of tree
