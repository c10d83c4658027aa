use Rattle.squawk_document.proofs.ParseSteps.{new_return_here}
use Rattle.squawk_document.proofs.reparse.find_return.Goals as goal

pub returns-else-at-meeting-clause-found : goal.returns-else-at-meeting-clause-found
returns-else-at-meeting-clause-found c =
    let p = c.skip_children-position.ensures in
    new_return_here c.args.old.now c.skip_children-position.result.index
    c.skip_children-position.result.offset c.args.at c.args.new_end c.args.end c.in-Some.meeting
    c.args.meeting c.in-Some.is c.requires.meeting c.if-at-meeting.false p.offset p.closed p.low
    p.stopped
