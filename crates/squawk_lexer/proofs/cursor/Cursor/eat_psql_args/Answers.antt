use Rattle.squawk_lexer.proofs.ByteRuns.{skipped}
use Rattle.squawk_lexer.proofs.ArgumentBytes.{passed_arguments}
use Rattle.squawk_lexer.proofs.cursor.Cursor.eat_psql_args.Goals as goal

pub range_from-self-inside-requires : goal.range_from-self-inside-requires
range_from-self-inside-requires c =
    let s = passed_arguments _ _ _ _ c.self.invariant c.arguments_len-len.ensures
    c.as_bytes.ensures.value in
    λ _. s.boundary

pub invariant_of-self : goal.invariant_of-self
invariant_of-self c =
    let s = passed_arguments _ _ _ _ c.self.invariant c.arguments_len-len.ensures
    c.as_bytes.ensures.value in
    (skipped _ _ _ _ _ s c.range_from-self-inside.ensures.value).0

pub returns-clause-at : goal.returns-clause-at
returns-clause-at c =
    let s = passed_arguments _ _ _ _ c.self.invariant c.arguments_len-len.ensures
    c.as_bytes.ensures.value in
    rw (← c.self.view_is) (skipped _ _ _ _ _ s c.range_from-self-inside.ensures.value).1
