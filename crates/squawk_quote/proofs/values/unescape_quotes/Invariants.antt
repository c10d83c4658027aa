use Rattle.std.proofs.Common.{◌≡◌, ◌++◌, IsUtf8, chars}
use Rattle.std.specs.Str.{encode_utf8_all}
use Rattle.std.specs.Str.Iter.{chars_rest}
use Rattle.std.specs.String.{string_bytes}
use Rattle.squawk_quote.specs.ValueForms.{unescape_rest}
use Rattle.squawk_quote.specs.Values.{unescape_quotes}
use Rattle.squawk_quote.proofs.values.unescape_quotes.Given as goal

-- the output so far, then what the rest becomes, is the whole output
abbrev pub invariant-loop-c : goal.invariant-loop-c
invariant-loop-c l = record {
  utf8 : IsUtf8 (chars_rest l.c-iterator);
  output : string_bytes l.out
      ++ encode_utf8_all (unescape_rest l.after_quote l.quote (chars (chars_rest l.c-iterator)))
      ≡ encode_utf8_all (unescape_quotes l.quote (chars l.text));
}
