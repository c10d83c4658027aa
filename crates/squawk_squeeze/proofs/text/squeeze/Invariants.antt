use Rattle.std.proofs.Common.{◌≡◌, ◌≤◌, ◌-◌, length}
use Rattle.std.specs.Str.{chars, IsCharBoundary, encode_utf8_all}
use Rattle.squawk_squeeze.specs.Squeezed.{output_with_rest, text_tokens_at, squeezed_text}
use Rattle.squawk_squeeze.proofs.text.squeeze.Given as goal

-- the output so far, then what the tokens from `at` on become, is the squeezed text
abbrev pub invariant-loop-at : goal.invariant-loop-at
invariant-loop-at l = record {
  text : output_with_rest l.squeezer (text_tokens_at l.strings l.text l.at)
      ≡ encode_utf8_all (squeezed_text l.strings (chars l.text));
  boundary : IsCharBoundary l.text l.at;
  within : l.at ≤ length l.text;
}

abbrev pub decreases-loop-at : goal.decreases-loop-at
decreases-loop-at l = length l.text - l.at
