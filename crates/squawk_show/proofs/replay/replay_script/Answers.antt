use Rattle.squawk_show.proofs.ReplayLemmas.{is_replayed}
use Rattle.squawk_show.proofs.replay.replay_script.Goals as goal

pub returns-clause-replayed : goal.returns-clause-replayed
returns-clause-replayed c = is_replayed c.args.reading c.args.script.now _ _ _ c.requires
    c.in_ok-document.ensures.ranges c.in_ok-document.ensures.text c.in_ok-document.ensures.lines
    c.in_ok-parse.ensures.parsed c.in_ok-parse.ensures.balanced
