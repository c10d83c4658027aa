use Rattle.std.proofs.Common.{[], ◌∷◌, ◌++◌, drop, ap, sym, ◌∙◌}
use Rattle.squawk_show.proofs.DigitLemmas.{decimal_one}
use Rattle.squawk_show.proofs.line.put_start.Goals as goal

pub returns-clause-written : goal.returns-clause-written
returns-clause-written c =
    ap (λ xs. xs ++ drop 4 c.args.text.now) c.copy_from_slice.ensures.after
    ∙ sym (ap (λ ds. ds ++ (32 ∷ c.args.letter ∷ 32 ∷ []) ++ drop 4 c.args.text.now)
    (decimal_one c.args.depth c.requires.0))
