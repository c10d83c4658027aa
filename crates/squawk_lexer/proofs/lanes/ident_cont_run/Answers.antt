use Rattle.std.proofs.Common.{ℕ, leb, cond, bit_and, refl, arith}
use Rattle.std.proofs.lemmas.Simd.{zip2_splat, length-chunk, splat_is_map}
use lib.Lanes.{chunk}
use Rattle.squawk_lexer.specs.Classes.{is_ident_cont}
use Rattle.squawk_lexer.proofs.ByteClasses.{agree_below}
use Rattle.squawk_lexer.proofs.LaneRuns.{IsRunWithin, lanes_run_computed, joined}
use Rattle.squawk_lexer.proofs.lanes.ident_cont_run.Goals as goal

run : (c : goal.After-first_set) → IsRunWithin is_ident_cont c.args.bytes.now 16 c.first_set.result
unfolding agree_below
run c =
    let v = chunk 0 16 c.args.bytes.now in
    let long = length-chunk 0 16 c.args.bytes.now (omega (arith, c.requires)) in
    lanes_run_computed is_ident_cont c.args.bytes.now _ 16 c.first_set.result _ c.requires (omega arith)
    c.type_inv.bytes c.first_set.ensures
    (joined bit_and _ _ v
    (joined bit_and _ _ v
    (joined bit_and _ _ v
    (joined (λ a b. cond (leb a b) 255 0) _ _ v (splat_is_map v 16 _ long)
    (joined _ _ _ v (zip2_splat {Y = ℕ} _ v 16 _ long) (splat_is_map v 16 _ long)))
    (joined (λ a b. cond (leb a b) 255 0) _ _ v (splat_is_map v 16 _ long)
    (zip2_splat {Y = ℕ} _ v 16 _ long)))
    (joined bit_and _ _ v
    (zip2_splat {Y = ℕ} _ v 16 _ long) (zip2_splat {Y = ℕ} _ v 16 _ long)))
    (zip2_splat {Y = ℕ} _ v 16 _ long))
    refl

pub returns-clause-within : goal.returns-clause-within
returns-clause-within c = (run c).within

pub returns-clause-prefix : goal.returns-clause-prefix
returns-clause-prefix c = (run c).prefix

pub returns-clause-whole : goal.returns-clause-whole
returns-clause-whole c = (run c).whole
