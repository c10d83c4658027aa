use Rattle.std.proofs.Common.{◌∙◌, ap, arith, refl}
use Rattle.squawk_statements.specs.First.{first_shape}
use Rattle.squawk_tree.proofs.ChildLoopLemmas.{child_within, kinds_left, children_start, children_more, children_done}
use Rattle.squawk_tree.proofs.child_steps.emit_children.Goals as goal

pub loop-at-init : goal.loop-at-init
loop-at-init g c = record {
  children = children_start _ c.args.division c.args.lexed.now.tokens _ _ _
      c.in_ok-push.ensures.steps c.requires.no_steps c.requires.no_errors;
  built = c.in_ok-push.ensures.built;
  within = omega arith;
  error_within = omega arith;
}

pub emit_child-requires-clause-first : goal.emit_child-requires-clause-first
emit_child-requires-clause-first g c =
    c.first_child_in-shape.ensures.shape
    ∙ ap (first_shape c.args.division) (kinds_left c.args.lexed.now.tokens _ c.loop-at.at
    c.kinds-kinds.ensures)

pub loop-at-preserved : goal.loop-at-preserved
loop-at-preserved g c =
    let within = child_within c.args.lexed.now.tokens _ _ c.loop-at.at _ c.kinds-kinds.ensures
    c.loop-at-test.true refl c.first_child_in-shape.ensures.within in
    record {
      children = children_more _ (g.met.G.ChildGrammar.lawful c.args.grammar.now c.args.division).children
          c.args.division c.args.lexed.now.tokens _ _ c.loop-at.at _ _ _ _ _ _ _ _
          c.kinds-kinds.ensures c.loop-at-test.true refl c.first_child_in-shape.ensures.shape refl
          c.in_ok-emit_child.ensures.steps c.in_ok-error.ensures.ok c.loop-at.invariant.children;
      built = c.in_ok-emit_child.ensures.built;
      within = within;
      error_within = c.in_ok-error.ensures.within;
    }

pub returns-clause-steps : goal.returns-clause-steps
returns-clause-steps g c =
    (children_done _ _ c.args.division (g.met.G.ChildGrammar.lawful c.args.grammar.now c.args.division)
    c.args.lexed.now.tokens _ c.loop-at.at c.loop-at.error _ _ _
    c.kinds-kinds.ensures (omega (arith, c.loop-at-test.false)) c.loop-at.invariant.children
    c.in_ok-push-2.ensures.steps).steps_are

pub returns-clause-errors : goal.returns-clause-errors
returns-clause-errors g c =
    (children_done _ _ c.args.division (g.met.G.ChildGrammar.lawful c.args.grammar.now c.args.division)
    c.args.lexed.now.tokens _ c.loop-at.at c.loop-at.error _ _ _
    c.kinds-kinds.ensures (omega (arith, c.loop-at-test.false)) c.loop-at.invariant.children
    c.in_ok-push-2.ensures.steps).errors_are
