use Rattle.std.proofs.Common.{◌+◌, chars}
use Rattle.squawk_quote.proofs.TagPass.{found_shortest, long_is_shortest}
use Rattle.squawk_quote.proofs.tag.shortest_tag.Goals as goal

pub returns-then-tag-base : goal.returns-then-tag-base
returns-then-tag-base c =
    found_shortest (chars c.args.value.now) c.loop-base.base
    (c.loop-base.base + c.min-count.result) c.in_ok-tag.tag c.in_ok-tag.ensures c.if-tag-base.true
    c.loop-base.invariant

pub returns : goal.returns
returns c =
    long_is_shortest c.args.value.now c.loop-base.base c.utf8.value c.loop-base-test.false
    c.loop-base.invariant
