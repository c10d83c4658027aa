use Rattle.std.proofs.Common.{refl}
use Rattle.squawk_lexer.proofs.ByteRuns.{skipped}
use Rattle.squawk_lexer.proofs.DelimiterSearch.{through_some, through_none, skip_all}
use Rattle.squawk_lexer.proofs.cursor.Cursor.eat_through.Goals as goal

pub range_from-self-inside-requires : goal.range_from-self-inside-requires
range_from-self-inside-requires c =
    let (n, t) = through_some _ _ _ _ _ _ c.self.invariant c.utf8.delimiter c.requires.first
    c.as_bytes.ensures.value c.as_bytes-2.ensures.value c.in-Some.ensures in
    λ _. t.after.boundary

pub invariant_of-self : goal.invariant_of-self
invariant_of-self c =
    let (n, t) = through_some _ _ _ _ _ _ c.self.invariant c.utf8.delimiter c.requires.first
    c.as_bytes.ensures.value c.as_bytes-2.ensures.value c.in-Some.ensures in
    (skipped _ _ _ _ _ t.after c.range_from-self-inside.ensures.value).0

pub returns-in-Some-clause-at : goal.returns-in-Some-clause-at
returns-in-Some-clause-at c =
    let (n, t) = through_some _ _ _ _ _ _ c.self.invariant c.utf8.delimiter c.requires.first
    c.as_bytes.ensures.value c.as_bytes-2.ensures.value c.in-Some.ensures in
    rw (← c.self.view_is, t.found) (skipped _ _ _ _ _ t.after
    c.range_from-self-inside.ensures.value).1

pub returns-in-Some-clause-found : goal.returns-in-Some-clause-found
returns-in-Some-clause-found c =
    let (n, t) = through_some _ _ _ _ _ _ c.self.invariant c.utf8.delimiter c.requires.first
    c.as_bytes.ensures.value c.as_bytes-2.ensures.value c.in-Some.ensures in
    rw (← c.self.view_is, t.found) refl

pub invariant_of-self-in-None : goal.invariant_of-self-in-None
invariant_of-self-in-None c =
    (skipped _ _ _ _ _ (skip_all _ _ c.self.invariant)
    c.range_from-self-inside-in-None.ensures.value).0

pub returns-in-None-clause-at : goal.returns-in-None-clause-at
returns-in-None-clause-at c =
    let none = through_none _ _ _ _ _ c.self.invariant c.utf8.delimiter c.requires.first
    c.as_bytes.ensures.value c.as_bytes-2.ensures.value c.in-None.ensures in
    rw (← c.self.view_is, none) (skipped _ _ _ _ _ (skip_all _ _ c.self.invariant)
    c.range_from-self-inside-in-None.ensures.value).1

pub returns-in-None-clause-found : goal.returns-in-None-clause-found
returns-in-None-clause-found c =
    let none = through_none _ _ _ _ _ c.self.invariant c.utf8.delimiter c.requires.first
    c.as_bytes.ensures.value c.as_bytes-2.ensures.value c.in-None.ensures in
    rw (← c.self.view_is, none) refl
