use Rattle.squawk_lexer.proofs.ByteRuns.{skipped}
use Rattle.squawk_lexer.proofs.ArgumentBytes.{passed_options}
use Rattle.squawk_lexer.proofs.cursor.Cursor.eat_psql_options.Goals as goal

pub range_from-self-inside-requires : goal.range_from-self-inside-requires
range_from-self-inside-requires c =
    let s = passed_options _ _ _ _ _ c.self.invariant c.find_options-options.ensures.len
    c.find_options-options.ensures.ended c.as_bytes.ensures.value in
    λ _. s.0.boundary

pub invariant_of-self : goal.invariant_of-self
invariant_of-self c =
    let s = passed_options _ _ _ _ _ c.self.invariant c.find_options-options.ensures.len
    c.find_options-options.ensures.ended c.as_bytes.ensures.value in
    (skipped _ _ _ _ _ s.0 c.range_from-self-inside.ensures.value).0

pub returns-clause-at : goal.returns-clause-at
returns-clause-at c =
    let s = passed_options _ _ _ _ _ c.self.invariant c.find_options-options.ensures.len
    c.find_options-options.ensures.ended c.as_bytes.ensures.value in
    rw (← c.self.view_is) (skipped _ _ _ _ _ s.0 c.range_from-self-inside.ensures.value).1

pub returns-clause-found : goal.returns-clause-found
returns-clause-found c =
    let s = passed_options _ _ _ _ _ c.self.invariant c.find_options-options.ensures.len
    c.find_options-options.ensures.ended c.as_bytes.ensures.value in
    rw (← c.self.view_is) s.1
