use Rattle.squawk_lexer.proofs.GapLaws.{tokens_stay}
use Rattle.squawk_lexer.proofs.GapStarts.{gaps_are_seen}
use Rattle.squawk_lexer.proofs.GapTests.{tokens_stay_before}
use Rattle.squawk_lexer.proofs.laws.tokens_stay.Goals as goal

pub returns-clause-near : goal.returns-clause-near
returns-clause-near c = tokens_stay

pub returns-clause-before : goal.returns-clause-before
returns-clause-before c = tokens_stay_before

pub returns-clause-seen : goal.returns-clause-seen
returns-clause-seen c = gaps_are_seen
