use Rattle.std.proofs.Common.{◌∙◌, ◌+◌, arith}
use Rattle.squawk_lexed.proofs.StoredLemmas.{seen_as, count_starts, start_of_token, next_fits}
use Rattle.squawk_lexed.proofs.lexed.LexedStr.text_range.Goals as goal

pub index-requires : goal.index-requires
index-requires c =
    omega (
      arith,
      count_starts _ _ _ _ c.args.self.now.tokens
          (seen_as _ _ _ _ c.args.self.now c.self.view_is c.self.invariant),
      c.requires,
    )

pub overflow_add-i : goal.overflow_add-i
overflow_add-i c =
    omega (
      arith,
      next_fits _ _ _ _ c.args.self.now.tokens
          (seen_as _ _ _ _ c.args.self.now c.self.view_is c.self.invariant) c.args.i c.requires,
    )

pub index-requires-2 : goal.index-requires-2
index-requires-2 c =
    omega (
      arith,
      count_starts _ _ _ _ c.args.self.now.tokens
          (seen_as _ _ _ _ c.args.self.now c.self.view_is c.self.invariant),
      c.requires,
    )

pub returns-clause-start : goal.returns-clause-start
returns-clause-start c = c.index.ensures
    ∙ start_of_token _ _ _ _ c.args.self.now.tokens
    (seen_as _ _ _ _ c.args.self.now c.self.view_is c.self.invariant) c.args.i _
    (omega (arith, c.requires))

pub returns-clause-end : goal.returns-clause-end
returns-clause-end c = c.index-2.ensures
    ∙ start_of_token _ _ _ _ c.args.self.now.tokens
    (seen_as _ _ _ _ c.args.self.now c.self.view_is c.self.invariant) (c.args.i + 1) _
    (omega (arith, c.requires))
