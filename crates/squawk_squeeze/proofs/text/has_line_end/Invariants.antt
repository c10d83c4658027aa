use Rattle.std.proofs.Common.{◌≡◌, IsUtf8, chars}
use Rattle.std.specs.Str.Iter.{chars_rest}
use Rattle.std.specs.List.{list_any}
use Rattle.squawk_lexer.specs.Classes.{is_line_end}
use Rattle.squawk_squeeze.proofs.text.has_line_end.Given as goal

-- the characters that are left have a line end exactly if the text has one
abbrev pub invariant-loop-c : goal.invariant-loop-c
invariant-loop-c l = IsUtf8 (chars_rest l.c-iterator)
    × (list_any is_line_end (chars (chars_rest l.c-iterator))
    ≡ list_any is_line_end (chars l.fn.text))
