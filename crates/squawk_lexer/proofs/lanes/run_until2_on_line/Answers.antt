use Rattle.std.proofs.Common.{ℕ, bit_or, eqb, arith}
use Rattle.std.proofs.lemmas.Simd.{zip2_splat, length-chunk}
use lib.Lanes.{chunk}
use Rattle.squawk_lexer.specs.Stops.{is_neither_on_line}
use Rattle.squawk_lexer.proofs.LaneRuns.{IsRunWithin, lanes_run, joined, none_top}
use Rattle.squawk_lexer.proofs.lanes.run_until2_on_line.Goals as goal

run : (c : goal.After-first_set)
    → IsRunWithin (is_neither_on_line c.args.a c.args.b) c.args.bytes.now 16 c.first_set.result
run c =
    let v = chunk 0 16 c.args.bytes.now in
    let long = length-chunk 0 16 c.args.bytes.now (omega (arith, c.requires)) in
    lanes_run (is_neither_on_line c.args.a c.args.b) c.args.bytes.now _ 16 c.first_set.result _
    c.requires (omega arith) c.type_inv.bytes c.first_set.ensures
    (joined bit_or _ _ v
    (joined bit_or _ _ v
    (zip2_splat {Y = ℕ} _ v 16 _ long) (zip2_splat {Y = ℕ} _ v 16 _ long))
    (joined bit_or _ _ v
    (zip2_splat {Y = ℕ} _ v 16 _ long) (zip2_splat {Y = ℕ} _ v 16 _ long)))
    (λ x byte. none_top (eqb x c.args.a) (eqb x c.args.b) (eqb x 10) (eqb x 13))

pub returns-clause-within : goal.returns-clause-within
returns-clause-within c = (run c).within

pub returns-clause-prefix : goal.returns-clause-prefix
returns-clause-prefix c = (run c).prefix

pub returns-clause-whole : goal.returns-clause-whole
returns-clause-whole c = (run c).whole
