use Rattle.squawk_lexer.proofs.FlagLaws.{flags_lie_within, tokens_are_cut}
use Rattle.squawk_lexer.proofs.laws.flags_lie_within.Goals as goal

pub returns-clause-within : goal.returns-clause-within
returns-clause-within c = flags_lie_within

pub returns-clause-cut : goal.returns-clause-cut
returns-clause-cut c = tokens_are_cut
