use Rattle.std.proofs.Common.{arith}
use Rattle.squawk_lexed.proofs.StoredLemmas.{seen_as, count, count_starts, next_fits, step_of_token}
use Rattle.squawk_lexed.proofs.lexed.LexedStr.token_step.Goals as goal

pub index-requires : goal.index-requires
index-requires c =
    omega (
      arith,
      count _ _ _ _ c.args.self.now.tokens
          (seen_as _ _ _ _ c.args.self.now c.self.view_is c.self.invariant),
      c.requires,
      c.self.inside.kinds.ok,
    )

pub index-requires-2 : goal.index-requires-2
index-requires-2 c =
    omega (
      arith,
      count_starts _ _ _ _ c.args.self.now.tokens
          (seen_as _ _ _ _ c.args.self.now c.self.view_is c.self.invariant),
      c.requires,
    )

pub overflow_add-i : goal.overflow_add-i
overflow_add-i c =
    omega (
      arith,
      next_fits _ _ _ _ c.args.self.now.tokens
          (seen_as _ _ _ _ c.args.self.now c.self.view_is c.self.invariant) c.args.i c.requires,
    )

pub index-requires-3 : goal.index-requires-3
index-requires-3 c =
    omega (
      arith,
      count_starts _ _ _ _ c.args.self.now.tokens
          (seen_as _ _ _ _ c.args.self.now c.self.view_is c.self.invariant),
      c.requires,
    )

pub returns : goal.returns
returns c =
    step_of_token _ _ _ _ c.args.self.now.tokens (seen_as _ _ _ _ c.args.self.now c.self.view_is
    c.self.invariant) c.args.i _ _ _ c.requires c.index.ensures c.index-2.ensures c.index-3.ensures
