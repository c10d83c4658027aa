use Rattle.std.proofs.Common.{sym, arith}
use Rattle.squawk_quote.proofs.TagPass.{short_run_marks_none, long_run_marks_none, run_sets_flag}
use Rattle.squawk_quote.proofs.tag.mark_tag.Goals as goal

pub returns-then-n-base : goal.returns-then-n-base
returns-then-n-base c =
    sym (short_run_marks_none c.args.base c.args.n c.args.seen.now c.if-n-base.true)

pub returns-then-i-seen : goal.returns-then-i-seen
returns-then-i-seen c = run_sets_flag c.args.base c.args.n c.args.seen.now c.if-n-base.false

pub returns-else-i-seen : goal.returns-else-i-seen
returns-else-i-seen c =
    sym (long_run_marks_none c.args.base c.args.n c.args.seen.now
    (omega (arith, c.if-i-seen.false, c.if-n-base.false)))
