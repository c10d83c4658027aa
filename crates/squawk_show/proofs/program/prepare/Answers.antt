use Rattle.std.proofs.Common.{subst, sym}
use Rattle.std.specs.Prelude.{IfOk}
use Rattle.squawk_show.proofs.ParseLemmas.{if_ok, summary_prepared}
use Rattle.squawk_show.specs.Command.{asks}
use Rattle.squawk_show.specs.Run.{IsPrepared}
use Rattle.squawk_show.proofs.program.prepare.Goals as goal

pub returns-in-Make-clause-prepared : goal.returns-in-Make-clause-prepared
returns-in-Make-clause-prepared g c =
    let source = g.S.Source.view c.args.source.now in
    subst (λ command. IfOk c.prepare_summary.result
    (IsPrepared (asks c.args.reading command) source source)) (sym c.in-Make.is)
    (if_ok _ _ (λ p h. summary_prepared c.args.reading c.in-Make.pieces source p h)
    c.prepare_summary.result c.prepare_summary.ensures.summarized)
