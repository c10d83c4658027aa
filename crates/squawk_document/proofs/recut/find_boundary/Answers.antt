use Rattle.std.proofs.Common.{◌∙◌, arith}
use Rattle.squawk_document.proofs.Skipping.{is_new_meeting_here}
use Rattle.squawk_document.proofs.recut.find_boundary.Goals as goal

pub returns-clause-found : goal.returns-clause-found
returns-clause-found c =
    let p = c.skip_tokens-position.ensures in
    c.both.ensures
    ∙ is_new_meeting_here c.args.old.now c.skip_tokens-position.result.index _ c.args.at
    c.args.new_end
    c.args.end (omega arith) p.offset p.low p.last
