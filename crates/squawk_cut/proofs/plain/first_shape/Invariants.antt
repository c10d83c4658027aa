use Rattle.std.proofs.Common.{◌≡◌, ◌++◌, drop, length}
use Rattle.std.specs.Str.{IsCharBoundary}
use Rattle.squawk_cut.specs.Children.{text_tokens}
use Rattle.squawk_cut.specs.PlainTells.{kinds_of}
use Rattle.squawk_lexed.specs.LexedText.{EndAtBoundaries}
use Rattle.squawk_cut.proofs.plain.first_shape.Given as goal

-- the kinds so far, and those of the tokens that are left
abbrev pub invariant-loop-i : goal.invariant-loop-i
invariant-loop-i l = record {
  so_far : l.kinds.items ++ kinds_of (text_tokens (drop l.from l.text) (drop l.i l.tokens))
      ≡ kinds_of (text_tokens (drop l.at l.text) l.tokens);
  laid : EndAtBoundaries l.text l.from (drop l.i l.tokens);
  boundary : IsCharBoundary l.text l.from;
  count : length l.kinds.items ≡ l.i;
}
