use Rattle.std.proofs.Common.{◌≡◌, drop, map}
use Rattle.std.specs.List.{find}
use Rattle.squawk_statements.specs.Opening as opening
use Rattle.squawk_statements.specs.Rows.{row_of}
use Rattle.squawk_statements.proofs.node.look_up.Given as goal

-- what is left has the first row that fits
abbrev pub invariant-loop-row : goal.invariant-loop-row
invariant-loop-row l =
    find (λ (row : opening.Row). opening.is_prefix row.0 l.start)
    (map row_of (drop l.row-index l.rows)) ≡ opening.longest opening.rows l.start
