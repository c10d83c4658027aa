-- The steps and the errors of the parse of a text, as C sees them.
use Rattle.std.specs.Prelude.{ℕ, List, map, zip}
use Rattle.squawk_c.specs.declared.options.Reading.{Reading}
use Rattle.squawk_c.specs.declared.steps.SquawkStep.{SquawkStep}
use Rattle.squawk_c.specs.declared.errors.SquawkError.{SquawkError}
use Rattle.squawk_events.specs.declared.steps.ParseError.{ParseError}
use Rattle.squawk_events.specs.declared.steps.StrStep.{StrStep}
use Rattle.squawk_events.specs.declared.steps.StrStep.TheVariants.{Enter, Token, Exit, Error}
use Rattle.squawk_tree.specs.ParseOf.{parse_of}
use Rattle.squawk_tree.specs.Ranges.{ranges}
use Rattle.squawk_tree.specs.Tree.{Tree}

-- the record of a step with this range. No `Error` is a step of a parse.
abbrev pub step_record : StrStep → ℕ × ℕ → SquawkStep
step_record (Enter kind) range = record { step = 0; kind = kind; start = range.0; end = range.1 }
step_record (Token kind start end) range = record {
  step = 1;
  kind = kind;
  start = range.0;
  end = range.1;
}
step_record Exit range = record { step = 2; kind = 0; start = range.0; end = range.1 }
step_record (Error number at) range = record { step = 3; kind = 0; start = range.0; end = range.1 }

-- the record of a step and its range
abbrev pub pair_record : StrStep × (ℕ × ℕ) → SquawkStep
pair_record pair = step_record pair.0 pair.1

-- the records of steps
abbrev pub records_of_steps : List StrStep → List SquawkStep
records_of_steps steps = map pair_record (zip steps (ranges steps))

-- the record of an error
abbrev pub error_record : ParseError → SquawkError
error_record error = record { start = error.start; end = error.end; number = error.number }

-- the parse of a text under a reading
abbrev pub parse_under : Reading → List ℕ → Tree
parse_under reading text = parse_of reading.strings reading.division text

-- the records of the steps of the parse of a text
unfoldable pub step_records : Reading → List ℕ → List SquawkStep
step_records reading text = records_of_steps (parse_under reading text).steps

-- the records of the errors of the parse of a text
unfoldable pub error_records : Reading → List ℕ → List SquawkError
error_records reading text = map error_record (parse_under reading text).errors
