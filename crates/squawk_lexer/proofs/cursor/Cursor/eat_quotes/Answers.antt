use Rattle.std.proofs.Common.{arith}
use Rattle.squawk_lexer.specs.Quoted.{is_quote}
use Rattle.squawk_lexer.proofs.ByteRuns.{passed_run, skipped}
use Rattle.squawk_lexer.proofs.QuoteRuns.{uniform_quote, quotes_count}
use Rattle.squawk_lexer.proofs.cursor.Cursor.eat_quotes.Goals as goal

pub range_from-self-inside-requires : goal.range_from-self-inside-requires
range_from-self-inside-requires c =
    let s = passed_run (is_quote c.args.quote) (uniform_quote c.args.quote c.requires) _ _ _ _
    c.self.invariant c.quotes_len-len.ensures c.as_bytes.ensures.value in
    λ _. s.boundary

pub invariant_of-self : goal.invariant_of-self
invariant_of-self c =
    let s = passed_run (is_quote c.args.quote) (uniform_quote c.args.quote c.requires) _ _ _ _
    c.self.invariant c.quotes_len-len.ensures c.as_bytes.ensures.value in
    (skipped _ _ _ _ _ s c.range_from-self-inside.ensures.value).0

pub returns-clause-at : goal.returns-clause-at
returns-clause-at c =
    let s = passed_run (is_quote c.args.quote) (uniform_quote c.args.quote c.requires) _ _ _ _
    c.self.invariant c.quotes_len-len.ensures c.as_bytes.ensures.value in
    rw (← c.self.view_is) (skipped _ _ _ _ _ s c.range_from-self-inside.ensures.value).1

pub returns-clause-len : goal.returns-clause-len
returns-clause-len c =
    let s = passed_run (is_quote c.args.quote) (uniform_quote c.args.quote c.requires) _ _ _ _
    c.self.invariant c.quotes_len-len.ensures c.as_bytes.ensures.value in
    let at = (skipped _ _ _ _ _ s c.range_from-self-inside.ensures.value).1 in
    let count = quotes_count c.args.quote c.requires _ _ _ _ c.self.invariant
    c.quotes_len-len.ensures c.as_bytes.ensures.value in
    rw (← c.self.view_is) (omega (arith, at, count))
