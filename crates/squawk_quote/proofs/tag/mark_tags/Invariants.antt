use Rattle.std.proofs.Common.{◌≡◌, ◌≤◌, ◌+◌, length, None, IsUtf8, chars}
use Rattle.std.specs.Prelude.{IfSome}
use Rattle.std.specs.Str.Iter.{chars_rest}
use Rattle.squawk_quote.specs.Tags.{mark_tags}
use Rattle.squawk_quote.proofs.tag.mark_tags.Given as goal

-- the tags of the rest, marked after those so far, are those of the value; a run is no longer than
-- what was read
abbrev pub invariant-loop-c : goal.invariant-loop-c
invariant-loop-c l = record {
  utf8 : IsUtf8 (chars_rest l.c-iterator);
  marks : mark_tags l.base l.run (chars (chars_rest l.c-iterator)) l.seen
      ≡ mark_tags l.base None (chars l.value) l.fn.seen;
  within : length (chars_rest l.c-iterator) ≤ length l.value;
  short : IfSome l.run (λ n. n + length (chars_rest l.c-iterator) ≤ length l.value);
}
