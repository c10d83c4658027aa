use Rattle.std.proofs.Common.{length, ap, ◌∙◌}
use Rattle.squawk_document.proofs.ReplaceSteps.{written}
use Rattle.squawk_document.proofs.replace.rotate_from.Goals as goal

pub returns-clause-parts : goal.returns-clause-parts
returns-clause-parts g c = λ front left right is a b.
    written c.args.items.now.len c.rotate_tail.new.items c.args.items.now.items
    (c.rotate_tail.ensures.len ∙ ap length c.as_mut_slice.ensures.value) c.args.items.now.ok.0
    ∙ c.rotate_tail.ensures.parts front left right (c.as_mut_slice.ensures.value ∙ is) a b
