use Rattle.std.proofs.Common.{◌≡◌, ◌++◌, IsUtf8, chars}
use Rattle.std.specs.Str.{encode_utf8_all}
use Rattle.std.specs.Str.Iter.{chars_rest}
use Rattle.std.specs.String.{string_bytes}
use Rattle.squawk_quote.specs.Values.{escape_quotes}
use Rattle.squawk_quote.proofs.writers.push_escaped.Given as goal

-- the output so far, then the escaped characters that are left, is the whole output
abbrev pub invariant-loop-c : goal.invariant-loop-c
invariant-loop-c l =
    IsUtf8 (chars_rest l.c-iterator)
    × (string_bytes l.out
    ++ encode_utf8_all (escape_quotes l.quote (chars (chars_rest l.c-iterator)))
    ≡ string_bytes l.fn.out ++ encode_utf8_all (escape_quotes l.quote (chars l.fn.value)))
