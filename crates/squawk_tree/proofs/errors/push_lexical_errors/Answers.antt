use Rattle.std.proofs.Common.{arith}
use Rattle.squawk_tree.proofs.WalkLemmas.{ends_below}
use Rattle.squawk_tree.proofs.errors.push_lexical_errors.Goals as goal

pub push_errors_before-requires-clause-small : goal.push_errors_before-requires-clause-small
push_errors_before-requires-clause-small c =
    rw c.errors.ensures (ends_below 4294967296 0 c.args.lexed.now.tokens
    (omega (arith, c.len.ensures.whole, c.len.ensures.fits)) c.len.ensures.sound)
