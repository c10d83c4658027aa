use Rattle.std.proofs.Common.{◌-◌, ◌+◌, ◌<◌, ◌∙◌, length, arith}
use Rattle.squawk_cut.proofs.TokenSteps.{token_step}
use Rattle.squawk_cut.proofs.tests.tokens_at.Goals as goal

pub loop-from-smaller : goal.loop-from-smaller
loop-from-smaller g c =
    let inv = c.loop-from.invariant in
    let some = (token_step (g.F.Front.tells c.args.front.now)
    (g.F.Front.tells c.loop-from.front) (g.met.F.Front.lawful c.args.front.now)
    inv.same c.args.text.now c.loop-from.from c.cut_next-token.result _ _ _ c.utf8.text inv.boundary
    c.loop-from-test.true c.cut_next-token.ensures.token c.in_ok-push.ensures.items inv.so_far).some
    in
    let less : length c.args.text.now - (c.loop-from.from + c.cut_next-token.result.len)
    < length c.args.text.now - c.loop-from.from = omega (arith, some, c.loop-from-test.true) in
    less

pub loop-from-preserved : goal.loop-from-preserved
loop-from-preserved g c =
    let inv = c.loop-from.invariant in
    let step = token_step (g.F.Front.tells c.args.front.now)
    (g.F.Front.tells c.loop-from.front) (g.met.F.Front.lawful c.args.front.now)
    inv.same c.args.text.now c.loop-from.from c.cut_next-token.result _ _ _ c.utf8.text inv.boundary
    c.loop-from-test.true c.cut_next-token.ensures.token c.in_ok-push.ensures.items inv.so_far in
    record {
      same = c.cut_next-token.ensures.same ∙ inv.same;
      boundary = step.boundary;
      so_far = step.so_far;
    }
