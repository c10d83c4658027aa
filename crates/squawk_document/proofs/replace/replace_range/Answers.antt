use Rattle.std.proofs.Common.{arith}
use Rattle.squawk_document.proofs.ReplaceSteps.{exchange_is}
use Rattle.squawk_document.proofs.replace.replace_range.Goals as goal

pub returns-clause-items : goal.returns-clause-items
returns-clause-items g c =
    exchange_is c.args.items.now.items c.args.with.items _ _ _ _ c.args.start c.args.end
    c.min-common.result c.requires.low c.requires.within
    (omega (arith, c.min-common.ensures))
    (omega (arith, c.min-common.ensures, c.len.ensures, c.args.with.ok.0))
    c.swap_ranges.ensures.items c.swap_ranges.ensures.others c.remove_front.ensures
    c.replace_by_rotation.ensures.items
