use Rattle.std.proofs.Common.{◌≡◌, ◌-◌, ◌≤◌, length}
use Rattle.squawk_lexer.specs.Comment.{comment_end, is_comment_closed}
use Rattle.squawk_lexer.proofs.cursor.Cursor.eat_block_comment.Given as goal

abbrev pub invariant-loop-c : goal.invariant-loop-c
invariant-loop-c l = record {
  text : l.self.text ≡ l.fn.self.text;
  end : comment_end l.depth l.self.text l.self.at ≡ comment_end 0 l.fn.self.text l.fn.self.at;
  closed : is_comment_closed l.depth l.self.text l.self.at
      ≡ is_comment_closed 0 l.fn.self.text l.fn.self.at;
  small : l.depth ≤ l.self.at;
}

abbrev pub decreases-loop-c : goal.decreases-loop-c
decreases-loop-c l = length l.self.text - l.self.at
