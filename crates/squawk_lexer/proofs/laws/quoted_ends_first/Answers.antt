use Rattle.squawk_lexer.proofs.QuotedLaws.{quoted_ends_first, quoted_ends_once}
use Rattle.squawk_lexer.proofs.laws.quoted_ends_first.Goals as goal

pub returns-clause-first : goal.returns-clause-first
returns-clause-first c = quoted_ends_first

pub returns-clause-only : goal.returns-clause-only
returns-clause-only c = quoted_ends_once
