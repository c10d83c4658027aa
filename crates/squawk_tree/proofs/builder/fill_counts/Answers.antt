use Rattle.std.proofs.Common.{arith}
use Rattle.squawk_tree.proofs.BuiltLemmas.{counts_filled}
use Rattle.squawk_tree.proofs.builder.fill_counts.Goals as goal

pub loop-counts-preserved : goal.loop-counts-preserved
loop-counts-preserved c = λ steps len nodes so_far.
    counts_filled steps _ _ _ (c.loop-counts.invariant steps len nodes so_far)
    (omega (arith, len, c.loop-counts-test.true)) nodes c.in_ok-push.ensures.items
