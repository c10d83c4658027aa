use Rattle.std.proofs.Common.{◌≡◌, ◌-◌, ◌≤◌, length, take}
use Rattle.squawk_document.specs.Boundaries.{total_len}
use Rattle.squawk_document.proofs.skip.skip_tokens.Given as goal

-- the tokens before the index end at the offset
abbrev pub invariant-loop-i : goal.invariant-loop-i
invariant-loop-i l = record {
  order : l.fn.from.index ≤ l.i;
  past : l.fn.from.offset ≤ l.at;
  within : l.i ≤ length l.tokens;
  offset : l.at ≡ total_len (take l.i l.tokens);
  low : l.at ≤ l.target;
}

abbrev pub decreases-loop-i : goal.decreases-loop-i
decreases-loop-i l = length l.tokens - l.i
