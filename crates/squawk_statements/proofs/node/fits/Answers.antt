use Rattle.squawk_statements.proofs.Found.{fits_both}
use Rattle.squawk_statements.proofs.node.fits.Goals as goal

pub returns-then-row-start : goal.returns-then-row-start
returns-then-row-start c =
    fits_both _ _ c.args.start.now _ c.requires c.if-row-start.true c.starts_with.ensures.value
