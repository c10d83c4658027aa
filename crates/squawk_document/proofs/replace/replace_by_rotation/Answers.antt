use Rattle.std.proofs.Common.{◌-◌, ◌+◌, refl, ap, ◌∙◌}
use Rattle.squawk_document.proofs.ReplaceSteps.{replace_is}
use Rattle.squawk_document.proofs.replace.replace_by_rotation.Goals as goal

pub returns-clause-items : goal.returns-clause-items
returns-clause-items g c =
    replace_is c.args.items.now.items c.args.with.items _ _ _ _ c.args.start c.args.end
    (c.args.end - c.args.start) c.len-added.result _ c.requires.low c.requires.within
    refl (c.len-added.ensures ∙ c.args.with.ok.0)
    (ap (λ n. n - (c.args.end - c.args.start) + c.len-added.result)
    (c.len.ensures ∙ c.args.items.now.ok.0))
    c.in-Ok.ensures.items c.rotate_from.ensures.parts c.truncate.ensures.items
    c.rotate_from-2.ensures.parts
