use Rattle.std.proofs.Common.{ap, ◌∙◌}
use Rattle.squawk_tree.specs.Taken.{tokens_end}
use Rattle.squawk_tree.proofs.SinkLemmas.{finished_as}
use Rattle.squawk_tree.proofs.sink.TreeSink.finish.Goals as goal

pub invariant_of-parts : goal.invariant_of-parts
invariant_of-parts c =
    rw c.without_errors.ensures (finished_as _ _ _ _ c.self.view_is
    (c.last_end-len.ensures ∙ ap tokens_end c.deref.ensures.value) c.requires.balanced
    c.requires.tiled c.self.invariant.errors_are c.requires.within)
