use Rattle.std.proofs.Common.{arith, sym, ◌∙◌}
use Rattle.squawk_statements.proofs.Found.{longest_empty, found_first, found_here, named}
use Rattle.squawk_statements.proofs.node.look_up.Goals as goal

pub returns-then-is_empty : goal.returns-then-is_empty
returns-then-is_empty c = longest_empty c.args.start.now (grind arith)

pub loop-row-init : goal.loop-row-init
loop-row-init c = found_first c.args.start.now _ (grind arith) c.rows_from-rows.ensures

pub returns-then-fits : goal.returns-then-fits
returns-then-fits c =
    named c.from_raw.result c.args.start.now _ c.from_raw.ensures.past c.from_raw.ensures.number
    (found_here c.rows_from-rows.result.now c.loop-row.row-index _ c.args.start.now
    c.loop-row-test.true c.loop-row.invariant (sym c.fits.ensures ∙ c.if-fits.true))
