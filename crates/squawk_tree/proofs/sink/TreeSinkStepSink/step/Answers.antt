use Rattle.std.proofs.Common.{sym}
use Rattle.squawk_tree.proofs.SinkLemmas.{state_kept, state_error}
use Rattle.squawk_tree.proofs.sink.TreeSinkStepSink.step.Goals as goal

pub invariant_of-self-then-not-is_kept : goal.invariant_of-self-then-not-is_kept
invariant_of-self-then-not-is_kept c =
    state_error _ c.args.step _ _ _ c.self.invariant (sym c.if-not-is_kept.ensures)
    c.in_ok-push.ensures.items

pub invariant_of-self-else-not-is_kept : goal.invariant_of-self-else-not-is_kept
invariant_of-self-else-not-is_kept c =
    state_kept _ c.args.step _ _ _ c.self.invariant (sym c.if-not-is_kept.ensures)
    c.in_ok-push.ensures.items
