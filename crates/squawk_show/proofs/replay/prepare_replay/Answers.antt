use Rattle.std.proofs.Common.{rules, subst}
use Rattle.squawk_show.proofs.RefusalLemmas.{replay_refused}
use Rattle.squawk_show.specs.Run.{IsReplayRefusal}
use Rattle.squawk_show.proofs.replay.prepare_replay.Goals as goal

pub returns-in_err-parse-clause-refusals : goal.returns-in_err-parse-clause-refusals
returns-in_err-parse-clause-refusals g c =
    let refused = replay_refused (g.S.Source.view c.args.source.now)
    (g.S.Source.view c.read_all.new.source) _ c.in_err-parse.field-0.0
    c.in_ok-bytes.ensures.bytes c.in_ok-bytes.ensures.end
    (subst (λ bytes. IsReplayRefusal bytes c.in_err-parse.field-0.0) c.deref.ensures.value
    c.in_err-parse.ensures.refusals) in
    search (rules, refused)
