use Rattle.std.proofs.Common.{◌≡◌, ◌∙◌, sym, refl, arith}
use Rattle.std.proofs.lemmas.Bool.Decides.{nat_tests}
use Rattle.squawk_lexer.specs.Stops.{stop_at}
use Rattle.squawk_lexer.proofs.StopSteps.{stops_at_once}
use Rattle.squawk_lexer.proofs.cursor.Cursor.eat_through2.Goals as goal
use Rattle.squawk_lexer.proofs.cursor.Cursor.eat_through2.Goals.{then-not-stops_here, else-not-stops_here}

-- the text is as before, and the cursor is at the next of the two characters or at the end
at_stop : (c : goal.After-bump)
    → (c.if-not-stops_here.self.text ≡ c.args.self.now.text)
    × (c.if-not-stops_here.self.at
    ≡ stop_at c.args.a c.args.b c.args.self.now.text c.args.self.now.at)
at_stop c = elim c.if-not-stops_here.branch [
  | then-not-stops_here w ↦ rw w.self-is (w.eat_until2.ensures.text, w.eat_until2.ensures.at)
  | else-not-stops_here w ↦ rw w.self-is (
    refl,
    sym (stops_at_once c.args.a c.args.b _ _ (grind (arith, nat_tests, c.stops_here.ensures))),
  )
]

pub returns-clause-read : goal.returns-clause-read
returns-clause-read c =
    let (text, at) = at_stop c in
    c.bump.ensures.read ∙ rw (text, at) refl

pub returns-clause-at : goal.returns-clause-at
returns-clause-at c =
    let (text, at) = at_stop c in
    c.bump.ensures.at ∙ rw (text, at) refl
