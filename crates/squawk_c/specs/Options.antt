-- The options of a call.
use Rattle.std.specs.Prelude.{ℕ, ◌==◌, Option, Some, None, if◌then◌else◌}
use Rattle.squawk_c.specs.declared.options.Reading.{Reading}
use Rattle.squawk_lexer.specs.declared.token.Strings.{Strings}
use Rattle.squawk_lexer.specs.declared.token.Strings.TheVariants.{Standard, Backslash}
use Rattle.squawk_statements.specs.declared.division.Division.{Division}
use Rattle.squawk_statements.specs.declared.division.Division.TheVariants.{Flat, Grouped}

abbrev pub reading_by : Strings → Division → Reading
reading_by strings division = record { strings = strings; division = division }

-- the reading that options name
abbrev pub reading : ℕ → Option Reading
reading options =
    if options == 0 then Some (reading_by Standard Flat)
    else if options == 1 then Some (reading_by Backslash Flat)
    else if options == 2 then Some (reading_by Standard Grouped)
    else if options == 3 then Some (reading_by Backslash Grouped)
    else None
