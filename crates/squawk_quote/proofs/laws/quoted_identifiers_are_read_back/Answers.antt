use Rattle.squawk_quote.proofs.QuotedLaws as q
use Rattle.squawk_quote.proofs.laws.quoted_identifiers_are_read_back.Goals as goal

pub returns-clause-token : goal.returns-clause-token
returns-clause-token c = q.ident_token

pub returns-clause-value : goal.returns-clause-value
returns-clause-value c = q.ident_value
