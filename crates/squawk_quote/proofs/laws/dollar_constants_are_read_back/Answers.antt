use Rattle.squawk_quote.proofs.DollarLaws as d
use Rattle.squawk_quote.proofs.laws.dollar_constants_are_read_back.Goals as goal

pub returns-clause-token : goal.returns-clause-token
returns-clause-token c = d.dollar_is_token

pub returns-clause-value : goal.returns-clause-value
returns-clause-value c = d.dollar_value
