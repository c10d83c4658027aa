use Rattle.std.proofs.Common.{◌≡◌, ◌++◌, [], ◌∷◌}
use Rattle.std.specs.String.{string_bytes}
use Rattle.squawk_lexer.specs.Classes.{dollar_sign}
use Rattle.squawk_quote.specs.Values.{tag_then, delimiter_of}
use Rattle.squawk_quote.proofs.writers.push_delimiter.Given as goal

-- the output so far, then the letters that are left and a `$`, is the output with the delimiter
abbrev pub invariant-loop-left : goal.invariant-loop-left
invariant-loop-left l =
    string_bytes l.out ++ tag_then l.left (dollar_sign ∷ [])
    ≡ string_bytes l.fn.out ++ delimiter_of l.tag

abbrev pub decreases-loop-left : goal.decreases-loop-left
decreases-loop-left l = l.left
