use Rattle.squawk_lexer.proofs.TakenText.{taken}
use Rattle.squawk_lexer.proofs.cursor.Cursor.consumed_text.Goals as goal

pub overflow_sub-self-inside : goal.overflow_sub-self-inside
overflow_sub-self-inside c =
    (taken c.self.inside.token.now c.self.inside.rest.now c.self.invariant).within

pub range-requires-clause-end_boundary : goal.range-requires-clause-end_boundary
range-requires-clause-end_boundary c =
    (taken c.self.inside.token.now c.self.inside.rest.now c.self.invariant).boundary

pub returns-clause-chars : goal.returns-clause-chars
returns-clause-chars c =
    let t = taken c.self.inside.token.now c.self.inside.rest.now c.self.invariant in
    rw (← c.self.view_is, c.range.ensures.value) t.is

pub returns-clause-utf8 : goal.returns-clause-utf8
returns-clause-utf8 c =
    let t = taken c.self.inside.token.now c.self.inside.rest.now c.self.invariant in
    rw c.range.ensures.value t.utf8
