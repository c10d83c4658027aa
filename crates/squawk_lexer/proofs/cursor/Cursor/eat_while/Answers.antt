use Rattle.squawk_lexer.specs.ClassTests.{class_test}
use Rattle.squawk_lexer.proofs.ByteRuns.{passed_run, skipped}
use Rattle.squawk_lexer.proofs.ByteClasses.{uniform_class}
use Rattle.squawk_lexer.proofs.cursor.Cursor.eat_while.Goals as goal

pub range_from-self-inside-requires : goal.range_from-self-inside-requires
range_from-self-inside-requires c =
    let s = passed_run (class_test c.args.class) (uniform_class c.args.class) _ _ _ _ c.self.invariant
    c.run_len-len.ensures c.as_bytes.ensures.value in
    λ _. s.boundary

pub invariant_of-self : goal.invariant_of-self
invariant_of-self c =
    let s = passed_run (class_test c.args.class) (uniform_class c.args.class) _ _ _ _ c.self.invariant
    c.run_len-len.ensures c.as_bytes.ensures.value in
    (skipped _ _ _ _ _ s c.range_from-self-inside.ensures.value).0

pub returns-clause-at : goal.returns-clause-at
returns-clause-at c =
    let s = passed_run (class_test c.args.class) (uniform_class c.args.class) _ _ _ _ c.self.invariant
    c.run_len-len.ensures c.as_bytes.ensures.value in
    rw (← c.self.view_is) (skipped _ _ _ _ _ s c.range_from-self-inside.ensures.value).1
