use Rattle.std.proofs.Common.{◌≡◌, ◌-◌, length}
use Rattle.squawk_lexer.specs.Quoted.{quoted_end, is_terminated}
use Rattle.squawk_lexer.proofs.cursor.Cursor.quoted_text.Given as goal

abbrev pub invariant-loop-c : goal.invariant-loop-c
invariant-loop-c l = record {
  text : l.self.text ≡ l.fn.self.text;
  end : quoted_end l.escapes l.quote l.self.text l.self.at
      ≡ quoted_end l.fn.escapes l.fn.quote l.fn.self.text l.fn.self.at;
  terminated : is_terminated l.escapes l.quote l.self.text l.self.at
      ≡ is_terminated l.fn.escapes l.fn.quote l.fn.self.text l.fn.self.at;
}

abbrev pub decreases-loop-c : goal.decreases-loop-c
decreases-loop-c l = length l.self.text - l.self.at
