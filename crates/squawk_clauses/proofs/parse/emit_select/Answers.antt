use Rattle.std.proofs.Common.{◌∙◌, ◌+◌, arith, refl, sym}
use Rattle.squawk_clauses.proofs.SelectLemmas.{none_pending, pending_more, select_end, select_more}
use Rattle.squawk_clauses.proofs.parse.emit_select.Goals as goal

pub loop-i-init : goal.loop-i-init
loop-i-init c = record {
  steps = refl;
  pending = none_pending c.args.lexed.now.tokens c.args.from;
  ordered = omega arith;
  groups_within = omega arith;
  built = c.requires.built;
}

pub returns-clause-steps : goal.returns-clause-steps
returns-clause-steps c =
    select_end c.args.division c.loop-i.nodes.in_clause c.loop-i.nodes.groups
    c.args.lexed.now.tokens c.loop-i.next c.loop-i.i c.args.to _ _ _ _ _ _
    (omega (arith, c.loop-i.auto.i-end, c.loop-i-test.false)) c.loop-i.invariant.pending c.in_ok-emit_exits.ensures.steps
    c.in_ok-emit_clause_exit.ensures.steps c.in_ok-emit_tokens.ensures.steps
    c.in_ok-push.ensures.steps c.loop-i.invariant.steps

pub loop-i-preserved-then-is_trivia : goal.loop-i-preserved-then-is_trivia
loop-i-preserved-then-is_trivia c = record {
  steps = c.loop-i.invariant.steps;
  pending = pending_more c.args.lexed.now.tokens c.loop-i.next c.loop-i.i c.args.to _ _
      c.loop-i.invariant.ordered c.loop-i-test.true c.requires.within c.kinds-kinds.ensures
      c.index-kinds-i.is (sym c.is_trivia.ensures.kind ∙ c.if-is_trivia.true)
      c.loop-i.invariant.pending;
  ordered = omega (arith, c.loop-i.invariant.ordered);
  groups_within = omega (arith, c.loop-i.invariant.groups_within);
  built = c.loop-i.invariant.built;
}

pub loop-i-preserved : goal.loop-i-preserved
loop-i-preserved c = record {
  steps = select_more c.args.division _ _ _ _ c.args.lexed.now.tokens c.loop-i.next c.loop-i.i
      c.args.to _ _ _ _ _ c.loop-i.invariant.ordered c.loop-i-test.true c.requires.within
      c.kinds-kinds.ensures c.index-kinds-i.is
      (sym c.is_trivia.ensures.kind ∙ c.if-is_trivia.false) c.loop-i.invariant.pending
      c.in_ok-nodes.ensures.steps c.in_ok-nodes.ensures.in_clause c.in_ok-nodes.ensures.groups
      c.loop-i.invariant.steps;
  pending = none_pending c.args.lexed.now.tokens (c.loop-i.i + 1);
  ordered = omega arith;
  groups_within = omega (arith, c.loop-i.invariant.groups_within, c.in_ok-nodes.ensures.bound);
  built = c.in_ok-nodes.ensures.built;
}
