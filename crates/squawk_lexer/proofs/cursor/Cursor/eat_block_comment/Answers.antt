use Rattle.std.proofs.Common.{◌∙◌, le_refl, arith}
use Rattle.squawk_lexer.proofs.StopSteps.{stop_after, stop_smaller}
use Rattle.squawk_lexer.proofs.CommentSteps.{comment_steps}
use Rattle.squawk_lexer.proofs.cursor.Cursor.eat_block_comment.Goals as goal

pub loop-c-preserved-then-opens_comment : goal.loop-c-preserved-then-opens_comment
loop-c-preserved-then-opens_comment c =
    let (next, on, within) =
    stop_after 47 42 c.loop-c.self.text c.loop-c.self.at c.in-Some.c c.in-Some.ensures.read in
    record {
      text = grind (arith, comment_steps);
      end = grind (arith, comment_steps);
      closed = grind (arith, comment_steps);
      small = grind (arith, comment_steps, next, on);
    }

pub loop-c-smaller-then-opens_comment : goal.loop-c-smaller-then-opens_comment
loop-c-smaller-then-opens_comment c =
    stop_smaller 47 42 c.loop-c.self.text c.loop-c.self.at c.in-Some.c _ _ _ c.in-Some.ensures.read
    (c.bump.ensures.text ∙ c.in-Some.ensures.text) c.in-Some.ensures.at c.bump.ensures.forward

pub loop-c-smaller-then-closes_comment : goal.loop-c-smaller-then-closes_comment
loop-c-smaller-then-closes_comment c =
    stop_smaller 47 42 c.loop-c.self.text c.loop-c.self.at c.in-Some.c _ _ _ c.in-Some.ensures.read
    (c.bump-then-closes_comment.ensures.text
    ∙ c.in-Some.ensures.text) c.in-Some.ensures.at c.bump-then-closes_comment.ensures.forward

pub loop-c-smaller : goal.loop-c-smaller
loop-c-smaller c =
    stop_smaller 47 42 c.loop-c.self.text c.loop-c.self.at c.in-Some.c _ _ _ c.in-Some.ensures.read
    c.in-Some.ensures.text c.in-Some.ensures.at (le_refl _)
