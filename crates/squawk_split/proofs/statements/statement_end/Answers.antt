use Rattle.std.proofs.Common.{◌≤◌, length, subst}
use Rattle.squawk_split.proofs.StatementSteps.{ends_with_text}
use Rattle.squawk_split.proofs.statements.statement_end.Goals as goal

pub returns-clause-end : goal.returns-clause-end
returns-clause-end c =
    ends_with_text c.args.division c.loop-from.state c.args.reader.now.strings
    c.args.reader.now.text c.loop-from.from c.loop-from.trimmed _
    (subst (λ text. length text ≤ c.loop-from.from) c.text-len.ensures.text
    c.loop-from-test.false) c.loop-from.invariant.read
