use Rattle.std.proofs.Common.{refl, ◌∙◌}
use Rattle.squawk_lexer.specs.Stops.{is_neither}
use Rattle.squawk_lexer.proofs.ByteRuns.{search_run}
use Rattle.squawk_lexer.proofs.StopSteps.{other_one}
use Rattle.squawk_lexer.proofs.scan.memchr_len_until2.Goals as goal
use Rattle.squawk_lexer.proofs.scan.memchr_len_until2.Goals.{then-a-b, else-a-b}

pub returns : goal.returns
returns c =
    c.unwrap_or.ensures
    ∙ elim c.if-a-b.branch [
      | then-a-b w ↦ rw w.first-is (search_run _ (is_neither c.args.a c.args.b) (λ x.
          other_one c.args.a c.args.b x w.if-a-b.true) c.args.bytes.now _ w.memchr-first.ensures)
      | else-a-b w ↦ rw w.first-is (search_run _ (is_neither c.args.a c.args.b) (λ x.
          refl) c.args.bytes.now _ w.memchr2-first.ensures)
    ]
