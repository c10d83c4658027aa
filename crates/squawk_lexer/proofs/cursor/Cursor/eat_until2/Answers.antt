use Rattle.squawk_lexer.specs.Stops.{is_neither, stop_at}
use Rattle.squawk_lexer.proofs.ByteRuns.{passed_run, skipped}
use Rattle.squawk_lexer.proofs.StopSteps.{uniform_neither}
use Rattle.squawk_lexer.proofs.cursor.Cursor.eat_until2.Goals as goal

pub range_from-self-inside-requires : goal.range_from-self-inside-requires
range_from-self-inside-requires c =
    let s = passed_run (is_neither c.args.a c.args.b)
    (uniform_neither c.args.a c.args.b c.requires.0 c.requires.1) _ _ _ _ c.self.invariant
    c.len_until2-len.ensures c.as_bytes.ensures.value in
    λ _. s.boundary

pub invariant_of-self : goal.invariant_of-self
invariant_of-self c =
    let s = passed_run (is_neither c.args.a c.args.b)
    (uniform_neither c.args.a c.args.b c.requires.0 c.requires.1) _ _ _ _ c.self.invariant
    c.len_until2-len.ensures c.as_bytes.ensures.value in
    (skipped _ _ _ _ _ s c.range_from-self-inside.ensures.value).0

pub returns-clause-at : goal.returns-clause-at
unfolding stop_at
returns-clause-at c =
    let s = passed_run (is_neither c.args.a c.args.b)
    (uniform_neither c.args.a c.args.b c.requires.0 c.requires.1) _ _ _ _ c.self.invariant
    c.len_until2-len.ensures c.as_bytes.ensures.value in
    rw (← c.self.view_is) (skipped _ _ _ _ _ s c.range_from-self-inside.ensures.value).1
