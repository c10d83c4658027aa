use Rattle.std.proofs.Common.{◌≡◌}
use Rattle.std.specs.Prelude.{string_bytes}
use Rattle.squawk_show.specs.Made.{made}
use Rattle.squawk_show.proofs.made.make_text.Given as goal

-- so far the text is that of the pieces before
abbrev pub invariant-loop-i : goal.invariant-loop-i
invariant-loop-i l = string_bytes l.text ≡ made l.i
