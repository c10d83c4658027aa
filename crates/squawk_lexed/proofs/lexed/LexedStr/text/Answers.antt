use Rattle.std.proofs.Common.{◌+◌, sym, subst, arith}
use Rattle.std.specs.Str.{IsCharBoundary}
use Rattle.squawk_lexed.proofs.StoredLemmas.{seen_as, rising, boundary_at}
use Rattle.squawk_lexed.proofs.lexed.LexedStr.text.Goals as goal

pub range-requires-clause-start_le_end : goal.range-requires-clause-start_le_end
range-requires-clause-start_le_end c =
    omega (
      arith,
      c.text_range-range.ensures.start,
      c.text_range-range.ensures.end,
      rising
          c.args.self.now.tokens c.args.i (c.args.i + 1) (omega arith),
    )

pub range-requires-clause-start_boundary : goal.range-requires-clause-start_boundary
range-requires-clause-start_boundary c = λ some.
    subst (IsCharBoundary c.self.inside.text.now) (sym c.text_range-range.ensures.start)
    (boundary_at _ _ _ _ c.args.self.now.tokens
    (seen_as _ _ _ _ c.args.self.now c.self.view_is c.self.invariant) c.args.i
    (omega (arith, c.requires)))

pub range-requires-clause-end_boundary : goal.range-requires-clause-end_boundary
range-requires-clause-end_boundary c =
    subst (IsCharBoundary c.self.inside.text.now) (sym c.text_range-range.ensures.end)
    (boundary_at _ _ _ _ c.args.self.now.tokens
    (seen_as _ _ _ _ c.args.self.now c.self.view_is c.self.invariant) (c.args.i + 1)
    (omega (arith, c.requires)))
