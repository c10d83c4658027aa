use Rattle.std.proofs.Common.{arith}
use Rattle.squawk_lexed.proofs.StoredLemmas.{seen_as, count, count_starts, next_fits, token_at_index, starts_rise}
use Rattle.squawk_lexed.proofs.lexed.LexedStr.kind_and_len.Goals as goal

pub index-requires : goal.index-requires
index-requires c =
    omega (
      arith,
      count _ _ _ _ c.args.self.now.tokens
          (seen_as _ _ _ _ c.args.self.now c.self.view_is c.self.invariant),
      c.requires,
      c.self.inside.kinds.ok,
    )

pub overflow_add-i : goal.overflow_add-i
overflow_add-i c =
    omega (
      arith,
      next_fits _ _ _ _ c.args.self.now.tokens
          (seen_as _ _ _ _ c.args.self.now c.self.view_is c.self.invariant) c.args.i c.requires,
    )

pub index-requires-2 : goal.index-requires-2
index-requires-2 c =
    omega (
      arith,
      count_starts _ _ _ _ c.args.self.now.tokens
          (seen_as _ _ _ _ c.args.self.now c.self.view_is c.self.invariant),
      c.requires,
    )

pub index-requires-3 : goal.index-requires-3
index-requires-3 c =
    omega (
      arith,
      count_starts _ _ _ _ c.args.self.now.tokens
          (seen_as _ _ _ _ c.args.self.now c.self.view_is c.self.invariant),
      c.requires,
    )

pub overflow_sub-result : goal.overflow_sub-result
overflow_sub-result c =
    starts_rise _ _ _ _ c.args.self.now.tokens
    (seen_as _ _ _ _ c.args.self.now c.self.view_is c.self.invariant) c.args.i _ _ c.requires
    c.index-3.ensures c.index-2.ensures

pub returns-clause-at : goal.returns-clause-at
returns-clause-at c =
    token_at_index _ _ _ _ c.args.self.now.tokens (seen_as _ _ _ _ c.args.self.now c.self.view_is
    c.self.invariant) c.args.i _ _ _ c.requires c.index.ensures c.index-3.ensures c.index-2.ensures

pub returns-clause-fits : goal.returns-clause-fits
returns-clause-fits c =
    next_fits _ _ _ _ c.args.self.now.tokens (seen_as _ _ _ _ c.args.self.now c.self.view_is
    c.self.invariant) c.args.i c.requires
