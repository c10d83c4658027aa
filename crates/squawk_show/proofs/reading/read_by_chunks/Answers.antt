use Rattle.std.proofs.Common.{arith, rules, ℕ, refl}
use Rattle.std.proofs.lemmas.List.{length-take}
use Rattle.std.proofs.lemmas.Result.{err_from_is_err_and}
use Rattle.squawk_show.proofs.TransferLemmas.{takes_exactly, takes_at_most}
use Rattle.squawk_show.proofs.reading.read_by_chunks.Goals as goal

pub returns-then-len-count : goal.returns-then-len-count
returns-then-len-count g c = record {
  bytes = search rules;
  end = search rules;
  within = search rules;
  refusals = takes_exactly (g.S.Source.view c.args.source.now)
      (g.S.Source.view c.loop-count.source) (g.S.Source.view c.read.new.self)
      c.loop-count.bytes.items c.read.new.into c.in-Ok.count _
      c.loop-count.invariant.taken c.in-Ok.ensures.bytes.0 (omega (arith, c.in-Ok.ensures.bound))
      (omega (arith, c.read.ensures.one_read))
      (omega (arith, c.in-Ok.ensures.bound, length-take {A = ℕ}));
  taken = λ other. absurd (other refl);
  later = omega (arith, c.in-Ok.ensures.cause.later);
}

pub returns-in_err-extend_from_slice : goal.returns-in_err-extend_from_slice
returns-in_err-extend_from_slice g c =
    let p = err_from_is_err_and c.from_residual.result c.from_residual.ensures.1 in
    rw p.1 (record {
      bytes = search rules;
      end = search rules;
      within = search rules;
      refusals = search rules;
      taken = λ other.
          takes_at_most (g.S.Source.view c.args.source.now)
          (g.S.Source.view c.loop-count.source) (g.S.Source.view c.read.new.self)
          c.loop-count.bytes.items c.read.new.into c.in-Ok.count _
          c.loop-count.invariant.taken c.in-Ok.ensures.bytes.0
          (omega (arith, c.in-Ok.ensures.bound)) (omega (arith, c.read.ensures.one_read))
          (omega (arith, c.in-Ok.ensures.bound));
      later = omega (arith, c.in-Ok.ensures.cause.later);
    })
