use Rattle.squawk_quote.proofs.QuotedLaws as q
use Rattle.squawk_quote.proofs.SpellingLaws as s
use Rattle.squawk_quote.proofs.laws.quotes_are_read_back.Goals as goal

pub returns-clause-value : goal.returns-clause-value
returns-clause-value c = q.unescape_escape

pub returns-clause-spelling : goal.returns-clause-spelling
returns-clause-spelling c = s.one_spelling
