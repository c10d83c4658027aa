-- The tests of the classes that cursors skip, by their names in the code.
use Rattle.std.specs.Prelude.{ℕ, Bool}
use Rattle.squawk_lexer.specs.declared.classes.Class.{Class}
use Rattle.squawk_lexer.specs.declared.classes.Class.TheVariants.{Whitespace, Blank, IdentCont, Digit, NotLineEnd, TagCont, CommandChar}
use Rattle.squawk_lexer.specs.declared.classes.Digits.{Digits}
use Rattle.squawk_lexer.specs.declared.classes.Digits.TheVariants.{Decimal, Hexadecimal}
use Rattle.squawk_lexer.specs.Classes.{is_whitespace, is_blank, is_ident_cont, is_digit, is_hex_digit, is_not_line_end, is_tag_cont, is_command_char}

-- Whether a character is in a class that a cursor can skip.
abbrev pub class_test : Class → ℕ → Bool
class_test Whitespace = is_whitespace
class_test IdentCont = is_ident_cont
class_test Digit = is_digit
class_test NotLineEnd = is_not_line_end
class_test Blank = is_blank
class_test CommandChar = is_command_char
class_test TagCont = is_tag_cont

-- Whether a character is one of the decimal digits, or of the hexadecimal ones.
abbrev pub digit_test : Digits → ℕ → Bool
digit_test Decimal = is_digit
digit_test Hexadecimal = is_hex_digit
