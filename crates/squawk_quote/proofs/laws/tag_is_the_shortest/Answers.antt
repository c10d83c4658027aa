use Rattle.squawk_quote.proofs.DollarLaws as d
use Rattle.squawk_quote.proofs.TagLaws as t
use Rattle.squawk_quote.proofs.laws.tag_is_the_shortest.Goals as goal

pub returns-clause-fits : goal.returns-clause-fits
returns-clause-fits c = d.tag_fits

pub returns-clause-least : goal.returns-clause-least
returns-clause-least c = d.tag_least

pub returns-clause-pass : goal.returns-clause-pass
returns-clause-pass c = t.fits_unless_tag_occurs
