use Rattle.std.proofs.Common.{arith, refl}
use Rattle.squawk_clauses.proofs.Nodes.{no_trivia_part}
use Rattle.squawk_clauses.proofs.PartsLemmas.{node_of_part, steps_more}
use Rattle.squawk_clauses.proofs.grammar.emit_clauses.Goals as goal

pub emit_clause_child-requires-clause-no_trivia : goal.emit_clause_child-requires-clause-no_trivia
emit_clause_child-requires-clause-no_trivia c =
    no_trivia_part c.loop-at.at _ c.args.kinds.now c.requires.no_trivia

pub emit_clause_child-requires-clause-node : goal.emit_clause_child-requires-clause-node
emit_clause_child-requires-clause-node c =
    node_of_part c.args.division c.args.kinds.now _ c.loop-at.at _ refl
    c.first_child_in-shape.ensures.shape

pub loop-at-preserved : goal.loop-at-preserved
loop-at-preserved c = record {
  steps = steps_more c.loop-at.output c.emit_clause_child.new.output _ c.args.division
      c.args.kinds.now _ _ c.loop-at.at c.first_child_in-shape.result c.loop-at-test.true refl
      c.first_child_in-shape.ensures.shape refl c.loop-at.invariant.steps
      c.in_ok-emit_clause_child.ensures.ok;
  depth = omega (arith, c.in_ok-emit_clause_child.ensures.depth);
  within = omega (arith, c.first_child_in-shape.ensures.within);
}
