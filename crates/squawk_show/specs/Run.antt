-- How a run of the program ends, and when it ends with each error.
use Rattle.std.specs.Prelude.{ℕ, ◌≡◌, ◌≤◌, ◌<◌, ◌+◌, ◌⊎◌, List, [], ◌++◌, length, map, Option, Some, None, Result, Ok, Err, IsOk, IsErr, IfOk, IfErr, OnOk, IfSome, IsSomeAnd, IsUtf8, chars, ⊤}
use Rattle.std.specs.Io.KnownBytes.{IsAtEnd}
use Rattle.std.specs.Str.{IsValidUpTo}
use Rattle.squawk_cut.specs.PlainTells.{plain_tells}
use Rattle.squawk_events.specs.Limit.{limit}
use Rattle.squawk_events.specs.declared.error.FrontError.TheVariants.{TooLong, OutOfMemory, BadRange}
use Rattle.squawk_lexer.specs.Cut.{tokens, token_ends}
use Rattle.squawk_replay.specs.Replay.{AreRanges, edit_lines, last_text}
use Rattle.squawk_script.specs.Script.{records, records_len, IsScript}
use Rattle.squawk_show.specs.Command.{Request}
use Rattle.squawk_show.specs.Edge.{SourceView, SinkView, SourceFaultRose, SinkFaultRose, TakesExactly, TakesAtMost, AppendsAll, AppendsPrefix}
use Rattle.squawk_show.specs.Outcome.{status_of_error, error_line}
use Rattle.squawk_show.specs.Made.{made}
use Rattle.squawk_show.specs.Forms.{AreQuotesWithin, IsFormWithin, form_of, form_tree, parse_under}
use Rattle.squawk_show.specs.Report.{report_of}
use Rattle.squawk_show.specs.Summary.{summary_line}
use Rattle.squawk_show.specs.declared.command.Command.{Command}
use Rattle.squawk_show.specs.declared.command.Command.TheVariants.{Show, Make, Replay}
use Rattle.squawk_show.specs.declared.command.Form.{Form}
use Rattle.squawk_show.specs.declared.command.Form.TheVariants.{Quotes}
use Rattle.squawk_show.specs.declared.error.RunError.{RunError}
use Rattle.squawk_show.specs.declared.error.RunError.TheVariants.{BadWords, ReadFault, NotUtf8, Front, BadScript, WriteFault}
use Rattle.squawk_show.specs.declared.options.Reading.{Reading}
use Rattle.squawk_show.specs.declared.program.Prepared.{Prepared}
use Rattle.squawk_clauses.specs.TreeWithout.{tree_without_clauses}
use Rattle.squawk_statements.specs.Children.{children}
use Rattle.squawk_tree.specs.ParseOf.{roles_of}
use Rattle.squawk_tree.specs.Steps.{leaves, ranges_through, root_children, root_child}
use Rattle.squawk_tree.specs.Tree.{Tree, IsTree}

-- Texts and their trees

-- bytes within the limit that are UTF-8
pub record IsText (bytes : List ℕ) : Type 0 where
  pub within : length bytes ≤ limit
  pub valid : IsUtf8 bytes

-- bytes within the limit that are not UTF-8
pub record IsInvalidText (bytes : List ℕ) : Type 0 where
  pub within : length bytes ≤ limit
  pub invalid : ¬ (IsUtf8 bytes)

abbrev pub IsOverLimit : List ℕ → Type 0
IsOverLimit bytes = limit < length bytes

-- the leaves of a tree are the tokens of a text, each by its range in bytes
unfoldable pub LeavesAreTokens : Reading → List ℕ → Tree → Type 0
LeavesAreTokens reading text tree = leaves tree.steps
    ≡ ranges_through 0 (token_ends 0 (tokens reading.strings (chars text)))

-- the children of a tree's root are those into which the tokens of a text are divided, as leaves
-- and nodes
unfoldable pub ChildrenAreStatements : Reading → List ℕ → Tree → Type 0
ChildrenAreStatements reading text tree = root_children tree.steps
    ≡ map root_child (children reading.division (roles_of (tokens reading.strings (chars text))))

-- the bytes are a text, and this is its tree by `parse` and a reading
pub record IsParsedBy (parse : Reading → List ℕ → Tree) (reading : Reading) (bytes : List ℕ)
    (tree : Tree) : Type 0 where
  pub text : IsText bytes
  pub parsed : tree ≡ parse reading bytes
  pub leaves : LeavesAreTokens reading bytes tree
  pub children : ChildrenAreStatements reading bytes tree

-- the bytes are a text, and this is its tree by a reading
abbrev pub IsParsed : Reading → List ℕ → Tree → Type 0
IsParsed reading bytes tree = IsParsedBy parse_under reading bytes tree

-- a tree with the nodes of clauses: without them its steps are those of the tree of a text, and
-- both have the same errors
pub record AddsClauses (reading : Reading) (text : List ℕ) (tree : Tree) : Type 0 where
  pub steps : tree_without_clauses tree.steps ≡ (parse_under reading text).steps
  pub errors : tree.errors ≡ (parse_under reading text).errors

-- Forms

-- a text that has a form
pub record HasForm (form : Form) (bytes : List ℕ) : Type 0 where
  pub text : IsText bytes
  pub within : IsFormWithin form bytes

-- a text for which a string constant, a dollar-quoted string or a quoted identifier is too long
pub record IsTooLongToQuote (bytes : List ℕ) : Type 0 where
  pub text : IsText bytes
  pub long : ¬ (AreQuotesWithin bytes)

-- Scripts of edits

-- a text that is no script
pub record IsBadScript (bytes : List ℕ) : Type 0 where
  pub text : IsText bytes
  pub bad : ¬ (IsScript bytes)

-- a text that is a script
pub record IsGoodScript (bytes : List ℕ) : Type 0 where
  pub text : IsText bytes
  pub script : IsScript bytes

-- the text after the last edit of a script; the first edit meets the empty text
abbrev pub text_of_script : List ℕ → List ℕ
text_of_script bytes = last_text (records bytes)

-- the lines of the edits of a script, by a reading
unfoldable pub lines_of_script : Reading → List ℕ → List ℕ
lines_of_script reading bytes =
    edit_lines (plain_tells reading.strings reading.division) (records bytes)

-- the range of each edit of a script is lawful for the text that it meets
abbrev pub RangesAreLawful : List ℕ → Type 0
RangesAreLawful bytes = AreRanges [] (records bytes)

-- a script in which each range is lawful
pub record IsAcceptedScript (bytes : List ℕ) : Type 0 where
  pub good : IsGoodScript bytes
  pub ranges : RangesAreLawful bytes

-- a script in which a range is unlawful
pub record HasBadRange (bytes : List ℕ) : Type 0 where
  pub good : IsGoodScript bytes
  pub range : ¬ (RangesAreLawful bytes)

-- Commands: each definition by cases on what the words name

-- the words name a command that reads the source
abbrev pub ReadsSource : Result Command RunError → Type 0
ReadsSource (Ok (Show form)) = ⊤
ReadsSource (Ok (Make pieces)) = ⊥
ReadsSource (Ok Replay) = ⊤
ReadsSource (Err e) = ⊥

-- these bytes are all that a source had left, where it is observable
abbrev pub IsAll : Option (List ℕ) → List ℕ → Type 0
IsAll None bytes = ⊤
IsAll (Some left) bytes = left ≡ bytes

-- the input of a command has these bytes: all that it reads, or its made text
abbrev pub IsInput : Result Command RunError → SourceView → List ℕ → Type 0
IsInput (Ok (Show form)) source bytes = IsAll source.left bytes
IsInput (Ok (Make pieces)) source bytes = made pieces ≡ bytes
IsInput (Ok Replay) source bytes = IsAll source.left bytes
IsInput (Err e) source bytes = ⊥

-- a command accepts an input: a text that has the form, or a script of lawful edits
abbrev pub Accepts : Result Command RunError → List ℕ → Type 0
Accepts (Ok (Show form)) input = HasForm form input
Accepts (Ok (Make pieces)) input = ⊤
Accepts (Ok Replay) input = IsAcceptedScript input
Accepts (Err e) input = ⊥

-- the text that a command parses for its input
abbrev pub parsed_text : Result Command RunError → List ℕ → List ℕ
parsed_text (Ok (Show form)) input = input
parsed_text (Ok (Make pieces)) input = input
parsed_text (Ok Replay) input = text_of_script input
parsed_text (Err e) input = []

-- the tree that a command makes of the text that it parses, by a reading
abbrev pub command_tree : Result Command RunError → Reading → List ℕ → Tree
command_tree (Ok (Show form)) = form_tree form
command_tree (Ok (Make pieces)) = parse_under
command_tree (Ok Replay) = parse_under
command_tree (Err e) = parse_under

-- what a command writes to `out` for its input and its tree, by a reading
abbrev pub output_of : Reading → Result Command RunError → List ℕ → Tree → List ℕ
output_of reading (Ok (Show form)) input tree = form_of reading form input tree
output_of reading (Ok (Make pieces)) input tree = summary_line tree
output_of reading (Ok Replay) input tree = lines_of_script reading input ++ report_of tree
output_of reading (Err e) input tree = []

-- the bytes that a command reads are observable, and P holds of them
abbrev pub Reads : (List ℕ → Type 0) → Result Command RunError → SourceView → Type 0
Reads P (Ok (Show form)) source = IsSomeAnd source.left P
Reads P (Ok (Make pieces)) source = ⊥
Reads P (Ok Replay) source = IsSomeAnd source.left P
Reads P (Err e) source = ⊥

-- a command accepts its input: the bytes that it reads, if these are observable, or a made text
abbrev pub HasAcceptedInput : Result Command RunError → SourceView → Type 0
HasAcceptedInput (Ok (Show form)) source = IsSomeAnd source.left (HasForm form)
HasAcceptedInput (Ok (Make pieces)) source = ⊤
HasAcceptedInput (Ok Replay) source = IsSomeAnd source.left IsAcceptedScript
HasAcceptedInput (Err e) source = ⊥

-- P holds of the text that a command parses, where its input is observable
abbrev pub OnParsedText : (List ℕ → Type 0) → Result Command RunError → SourceView → Type 0
OnParsedText P (Ok (Show form)) source = IfSome source.left P
OnParsedText P (Ok (Make pieces)) source = P (made pieces)
OnParsedText P (Ok Replay) source = IfSome source.left (λ script. P (text_of_script script))
OnParsedText P (Err e) source = ⊥

-- a command that reads its source reads it to the end
abbrev pub IsReadToEnd : Result Command RunError → SourceView → Type 0
IsReadToEnd (Ok (Show form)) source = IsAtEnd source.left
IsReadToEnd (Ok (Make pieces)) source = ⊤
IsReadToEnd (Ok Replay) source = IsAtEnd source.left
IsReadToEnd (Err e) source = ⊥

-- the source failed when a command read it
abbrev pub SourceFailed : Result Command RunError → (old new : SourceView) → Type 0
SourceFailed command old new = ReadsSource command × SourceFaultRose old new

-- Requests

-- the command accepts its input, and this is the tree of the text that it parses
pub record IsTreeFor (request : Request) (input : List ℕ) (tree : Tree) : Type 0 where
  pub accepted : Accepts request.command input
  pub parsed : IsParsedBy (command_tree request.command) request.reading
      (parsed_text request.command input) tree

-- this is the tree of the command for its input
abbrev pub IsTreeOf : Request → SourceView → Tree → Type 0
IsTreeOf request source tree = (input : List ℕ) × IsInput request.command source input
    × IsTreeFor request input tree

-- this is the output of the command for its input and the tree
abbrev pub IsOutputOf : Request → SourceView → Tree → List ℕ → Type 0
IsOutputOf request source tree output = (input : List ℕ) × IsInput request.command source input
    × IsTreeFor request input tree
    × (output ≡ output_of request.reading request.command input tree)

-- a sink took exactly the output of the command for its input and the tree
abbrev pub Writes : Request → SourceView → (old new : SinkView) → Tree → Type 0
Writes request source old new tree = (output : List ℕ)
    × IsOutputOf request source tree output × AppendsAll old new output

-- the leaves of a tree are the tokens of the text that the command parses
abbrev pub HasLeavesOf : Request → SourceView → Tree → Type 0
HasLeavesOf request source tree =
    OnParsedText (λ text. LeavesAreTokens request.reading text tree) request.command source

-- the children of a tree's root are those into which the tokens of that text are divided
abbrev pub IsDivided : Request → SourceView → Tree → Type 0
IsDivided request source tree =
    OnParsedText (λ text. ChildrenAreStatements request.reading text tree) request.command source

-- a tree with the nodes of clauses, added to the tree of that text
abbrev pub HasAddedClauses : Request → SourceView → Tree → Type 0
HasAddedClauses request source tree =
    OnParsedText (λ text. AddsClauses request.reading text tree) request.command source

-- Runs

-- the status that a run ends with
abbrev pub status_of : Result Tree RunError → ℕ
status_of (Ok tree) = 0
status_of (Err e) = status_of_error e

-- what a run was called with, and what it did to the source and to the sink of its output
pub record Run : Type 0 where
  pub request : Request
  pub source_before : SourceView
  pub source_after : SourceView
  pub out_before : SinkView
  pub out_after : SinkView

-- the source was read to its end, and what it had left is not UTF-8 from an offset on
pub record IsInvalidAt (at : ℕ) (command : Result Command RunError) (old new : SourceView)
    : Type 0 where
  pub reads : ReadsSource command
  pub end : IsReadToEnd command new
  pub input : (bytes : List ℕ) × IsInput command old bytes × IsInvalidText bytes
      × IsValidUpTo bytes at

-- one byte more than the limit was taken from the source
abbrev pub ExceedsLimit : Result Command RunError → (old new : SourceView) → Type 0
ExceedsLimit command old new = ReadsSource command × TakesExactly old new (limit + 1)

-- a text to quote was read to its end, and one of the three that quote it is too long
pub record MeetsLongQuotes (command : Result Command RunError) (old new : SourceView)
    : Type 0 where
  pub quotes : command ≡ Ok (Show Quotes)
  pub taken : TakesAtMost old new limit
  pub end : IsReadToEnd command new
  pub input : (bytes : List ℕ) × IsInput command old bytes × IsTooLongToQuote bytes

-- one byte more than the limit was taken, or one of the three texts that quote what was read is
-- longer than the limit
abbrev pub IsTooLong : Result Command RunError → (old new : SourceView) → Type 0
IsTooLong command old new = ExceedsLimit command old new ⊎ MeetsLongQuotes command old new

-- a script was read to its end, and its first bad record is at an offset
pub record IsMalformedAt (at : ℕ) (command : Result Command RunError) (old new : SourceView)
    : Type 0 where
  pub replay : command ≡ Ok Replay
  pub end : IsReadToEnd command new
  pub input : (bytes : List ℕ) × IsInput command old bytes × IsBadScript bytes
      × (at ≡ records_len bytes)

-- a script was read to its end, and the range of an edit is unlawful for the text that it meets
pub record MeetsBadRange (command : Result Command RunError) (old new : SourceView) : Type 0 where
  pub replay : command ≡ Ok Replay
  pub end : IsReadToEnd command new
  pub input : (bytes : List ℕ) × IsInput command old bytes × HasBadRange bytes

-- a prefix of the command's output was written, and then the sink failed
pub record IsCutOff (run : Run) : Type 0 where
  pub end : IsReadToEnd run.request.command run.source_after
  pub fault : SinkFaultRose run.out_before run.out_after
  pub prefix : (tree : Tree) × (output : List ℕ)
      × IsOutputOf run.request run.source_before tree output
      × AppendsPrefix run.out_before run.out_after output

-- the errors of a run, and when each comes
abbrev pub IsRunRefusal : Run → RunError → Type 0
IsRunRefusal run BadWords = IsErr run.request.command
IsRunRefusal run ReadFault = SourceFailed run.request.command run.source_before run.source_after
IsRunRefusal run (NotUtf8 at) =
    IsInvalidAt at run.request.command run.source_before run.source_after
IsRunRefusal run (Front TooLong) =
    IsTooLong run.request.command run.source_before run.source_after
IsRunRefusal run (Front OutOfMemory) = IsOk run.request.command
IsRunRefusal run (Front BadRange) =
    MeetsBadRange run.request.command run.source_before run.source_after
IsRunRefusal run (BadScript at) =
    IsMalformedAt at run.request.command run.source_before run.source_after
IsRunRefusal run WriteFault = IsCutOff run

-- a run with this outcome, but for what it writes to `err`
pub record EndsWith (run : Run) (outcome : Result Tree RunError) : Type 0 where
  pub written : IfOk outcome
      (Writes run.request run.source_before run.out_before run.out_after)
  pub tree : IfOk outcome (IsTreeOf run.request run.source_before)
  pub balanced : IfOk outcome IsTree
  pub end : OnOk outcome (IsReadToEnd run.request.command run.source_after)
  pub refusals : IfErr outcome (IsRunRefusal run)

-- a sink took the line of an error, or a prefix of it where it failed
pub record WritesErrorLine (old new : SinkView) (e : RunError) : Type 0 where
  pub prefix : AppendsPrefix old new (error_line e)
  pub whole : ¬ (SinkFaultRose old new) → AppendsAll old new (error_line e)

-- What the contracts of private functions cite

-- the errors of making a form of bytes within the limit, and when each comes
abbrev pub IsFormRefusal : Form → List ℕ → RunError → Type 0
IsFormRefusal form bytes BadWords = ⊥
IsFormRefusal form bytes ReadFault = ⊥
IsFormRefusal form bytes (NotUtf8 at) = IsInvalidText bytes × IsValidUpTo bytes at
IsFormRefusal form bytes (Front TooLong) = (form ≡ Quotes) × IsTooLongToQuote bytes
IsFormRefusal form bytes (Front OutOfMemory) = ⊤
IsFormRefusal form bytes (Front BadRange) = ⊥
IsFormRefusal form bytes (BadScript at) = ⊥
IsFormRefusal form bytes WriteFault = ⊥

-- the errors of applying a script within the limit, and when each comes
abbrev pub IsReplayRefusal : List ℕ → RunError → Type 0
IsReplayRefusal bytes BadWords = ⊥
IsReplayRefusal bytes ReadFault = ⊥
IsReplayRefusal bytes (NotUtf8 at) = IsInvalidText bytes × IsValidUpTo bytes at
IsReplayRefusal bytes (Front TooLong) = ⊥
IsReplayRefusal bytes (Front OutOfMemory) = ⊤
IsReplayRefusal bytes (Front BadRange) = HasBadRange bytes
IsReplayRefusal bytes (BadScript at) = IsBadScript bytes × (at ≡ records_len bytes)
IsReplayRefusal bytes WriteFault = ⊥

-- the errors before anything is written, and when each comes
abbrev pub IsPrepareRefusal : Command → (old new : SourceView) → RunError → Type 0
IsPrepareRefusal command old new BadWords = ⊥
IsPrepareRefusal command old new ReadFault = SourceFailed (Ok command) old new
IsPrepareRefusal command old new (NotUtf8 at) = IsInvalidAt at (Ok command) old new
IsPrepareRefusal command old new (Front TooLong) = IsTooLong (Ok command) old new
IsPrepareRefusal command old new (Front OutOfMemory) = ⊤
IsPrepareRefusal command old new (Front BadRange) = MeetsBadRange (Ok command) old new
IsPrepareRefusal command old new (BadScript at) = IsMalformedAt at (Ok command) old new
IsPrepareRefusal command old new WriteFault = ⊥

-- what is written of what a command made: a text, and then the report of the tree, if the memory for
-- a report was made
abbrev pub prepared_output : {A : Type 0} → List ℕ → Option A → Tree → List ℕ
prepared_output text None tree = text
prepared_output text (Some memory) tree = text ++ report_of tree

-- a command read what it reads of a source, and made this before it writes
pub record IsPrepared (request : Request) (old new : SourceView) (p : Prepared) : Type 0 where
  pub output_of : IsOutputOf request old p.parse
      (prepared_output p.text.items p.memory p.parse)
  pub balanced : IsTree p.parse
  pub end : IsReadToEnd request.command new

-- the tree that goes with a form of a text, and the form
pub record IsFormed (reading : Reading) (form : Form) (bytes : List ℕ) (p : Prepared)
    : Type 0 where
  pub accepted : HasForm form bytes
  pub parsed : IsParsedBy (form_tree form) reading bytes p.parse
  pub balanced : IsTree p.parse
  pub form_is : prepared_output p.text.items p.memory p.parse
      ≡ form_of reading form bytes p.parse

-- the tree of a made text, and its summary
pub record IsSummarized (reading : Reading) (pieces : ℕ) (p : Prepared) : Type 0 where
  pub parsed : IsParsed reading (made pieces) p.parse
  pub balanced : IsTree p.parse
  pub summary : p.text.items ≡ summary_line p.parse
  pub no_report : p.memory ≡ None

-- the tree of the last text of a script, and the lines of its edits
pub record IsReplayed (reading : Reading) (script : List ℕ) (tree : Tree) (lines : List ℕ)
    : Type 0 where
  pub accepted : IsAcceptedScript script
  pub parsed : IsParsed reading (text_of_script script) tree
  pub balanced : IsTree tree
  pub lines_are : lines ≡ lines_of_script reading script
