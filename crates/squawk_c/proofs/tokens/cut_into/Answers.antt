use Rattle.std.proofs.Common.{length, ◌<◌, arith, rules}
use Rattle.squawk_c.proofs.CutSteps.{cut_more}
use Rattle.squawk_c.proofs.PutSteps.{rest_more}
use Rattle.squawk_c.proofs.tokens.cut_into.Goals as goal

pub loop-count-preserved : goal.loop-count-preserved
loop-count-preserved c =
    let l = c.loop-count in
    let t = c.cut_at_in-token in
    let low : l.count < length l.out =
    omega (arith, c.loop-count-test.true, l.invariant.same_length) in
    record {
      cut = cut_more c.args.strings c.args.text.now l.end t.result l.out l.count
          c.token_record.result _ low c.token_record.ensures t.ensures.first t.ensures.positive
          l.invariant.cut;
      rest = rest_more l.out c.args.out.now l.count c.token_record.result l.invariant.rest;
      same_length = search rules;
      within = omega (arith, low, l.invariant.same_length);
      boundary = t.ensures.ends_between;
    }
