-- A text is a list of characters, and an index in it counts the characters before it. The lengths
-- of tokens and the offsets in them are in bytes.
use Rattle.std.specs.Prelude.{ℕ, List}
use Rattle.std.specs.List.{sum_by}
use Rattle.std.specs.Char.{len_utf8}

-- The number of bytes of a text in UTF-8.
abbrev pub utf8_len : List ℕ → ℕ
utf8_len u = sum_by len_utf8 u
