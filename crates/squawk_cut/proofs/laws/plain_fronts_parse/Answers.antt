use Rattle.std.proofs.Common.{true}
use Rattle.squawk_cut.proofs.PlainChildren.{children_join}
use Rattle.squawk_cut.proofs.PlainTokens.{plain_tokens}
use Rattle.squawk_cut.proofs.laws.plain_fronts_parse.Goals as goal

pub returns-clause-tokens : goal.returns-clause-tokens
returns-clause-tokens c = λ strings division text utf8.
    plain_tokens c.tokens_progress.ensures.texts c.tokens_restart.ensures.texts strings division
    true text utf8

pub returns-clause-children : goal.returns-clause-children
returns-clause-children c = λ strings division text utf8.
    children_join c.tokens_progress.ensures.texts c.tokens_restart.ensures.texts
    c.flags_lie_within.ensures.cut c.cut_tokens_are_sound.ensures c.children_join.ensures strings
    division text utf8
