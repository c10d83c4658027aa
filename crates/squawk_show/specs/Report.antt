-- The report of a tree, as bytes: a line for each Enter and Token, and then one for each error.
use Rattle.std.specs.Prelude.{ℕ, ◌+◌, ◌-◌, List, [], ◌∷◌, ◌++◌, codes, decimal, flat_map, slice_get, unwrap_or, zip}
use Rattle.squawk_events.specs.Message.{message_of}
use Rattle.squawk_events.specs.declared.steps.ParseError.{ParseError}
use Rattle.squawk_events.specs.declared.steps.StrStep.{StrStep}
use Rattle.squawk_events.specs.declared.steps.StrStep.TheVariants.{Enter, Token, Exit, Error}
use Rattle.squawk_lexer.specs.Classes.{line_feed, space}
use Rattle.squawk_names.specs.Texts.{texts}
use Rattle.squawk_tree.specs.Ranges.{ranges}
use Rattle.squawk_tree.specs.Tree.{Tree}

-- the letter of a line of a node: N
abbrev pub node_letter : ℕ
node_letter = 78

-- the letter of a line of a leaf: T
abbrev pub leaf_letter : ℕ
leaf_letter = 84

-- a range: its start, two dots and its end
abbrev pub range_text : ℕ × ℕ → List ℕ
range_text range = decimal range.0 ++ codes ".." ++ decimal range.1

-- the printed text of a kind
abbrev pub kind_text : ℕ → List ℕ
kind_text kind = unwrap_or (slice_get texts kind) []

-- depth, letter, text and range, with spaces between, and an LF
abbrev pub line_with_text : (depth letter : ℕ) → List ℕ → ℕ × ℕ → List ℕ
line_with_text depth letter text range = decimal depth ++ (space ∷ letter ∷ space ∷ []) ++ text
    ++ (space ∷ []) ++ range_text range ++ (line_feed ∷ [])

-- the line of a node or a leaf
abbrev pub report_line : (depth letter kind : ℕ) → ℕ × ℕ → List ℕ
report_line depth letter kind range = line_with_text depth letter (kind_text kind) range

-- the line of a step with this range, if it has one
abbrev pub step_line : ℕ → StrStep → ℕ × ℕ → List ℕ
step_line depth (Enter kind) range = report_line depth node_letter kind range
step_line depth (Token kind start end) range = report_line depth leaf_letter kind range
step_line depth Exit range = []
step_line depth (Error number at) range = []

-- the depth after a step
abbrev pub depth_after : ℕ → StrStep → ℕ
depth_after depth (Enter kind) = depth + 1
depth_after depth (Token kind start end) = depth
depth_after depth Exit = depth - 1
depth_after depth (Error number at) = depth

-- the lines of steps with their ranges; the first step is at `depth`
abbrev pub step_lines : ℕ → List (StrStep × (ℕ × ℕ)) → List ℕ
step_lines depth [] = []
step_lines depth ((x, range) ∷ rest) =
    step_line depth x range ++ step_lines (depth_after depth x) rest

-- the line of an error in a text: the letter E, its range and its message
abbrev pub parse_error_line : ParseError → List ℕ
parse_error_line e = codes "E " ++ range_text (e.start, e.end) ++ (space ∷ [])
    ++ message_of e.number ++ (line_feed ∷ [])

-- the lines of the steps of a tree
abbrev pub tree_lines : List StrStep → List ℕ
tree_lines steps = step_lines 0 (zip steps (ranges steps))

-- the report of a tree: the lines of its steps, and then those of its errors
abbrev pub report_of : Tree → List ℕ
report_of tree = tree_lines tree.steps ++ flat_map parse_error_line tree.errors
