use Rattle.std.proofs.Common.{arith, ap, nat_eq, ◌∙◌}
use Rattle.squawk_lexed.proofs.PrefixLemmas.{prefix_on}
use Rattle.squawk_lexed.proofs.WeaveLemmas.{on_err, all_out_left}
use Rattle.squawk_lexed.proofs.weave.emit_rest.Goals as goal

pub returns-in_err-position-clause-prefix : goal.returns-in_err-position-clause-prefix
returns-in_err-position-clause-prefix g c =
    on_err _ (prefix_on _ _ _ _ _ c.loop-position.invariant.steps c.loop-position.invariant.more
    c.in_err-position.ensures.prefix)

pub returns-clause-all : goal.returns-clause-all
returns-clause-all g c =
    ap (λ n. nat_eq c.loop-position.position.token n) c.len-count.ensures.count
    ∙ all_out_left c.loop-position.position.token c.args.lexed.now.tokens
    c.loop-position.position.step c.args.rest.now c.loop-position.invariant.position.within
    (omega arith) _ c.loop-position.invariant.remaining
