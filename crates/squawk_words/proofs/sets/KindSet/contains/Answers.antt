use Rattle.std.proofs.Common.{Contains, arith, ltb-true, sym, subst}
use Rattle.squawk_words.proofs.sets.KindSet.contains.Goals as goal

pub returns-else-number-flags : goal.returns-else-number-flags
returns-else-number-flags c = (
  λ listed. absurd (omega (arith, ltb-true _ _ listed)),
  λ member.
      let found = subst (λ members. Contains members c.args.kind) (sym c.self.view_is) member in
      let within = c.flags-flags.ensures.within c.self.inside.set found.0 c.args.kind found.1 in
      let same = found.2 in
      absurd (omega (arith, within, same, c.to_raw-number.ensures.number)),
)
