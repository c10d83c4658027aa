use Rattle.std.proofs.Common.{◌∷◌, ◌+◌, drop, take, ap, sym, ◌∙◌, arith}
use Rattle.std.proofs.lemmas.List.{drop_all, drop_more}
use Rattle.squawk_lexed.specs.LexedText.{total_len}
use Rattle.squawk_tree.proofs.WalkLemmas.{so_far_token, so_far_node, so_far_error, so_far_end}
use Rattle.squawk_tree.proofs.errors.errors_of_steps.Goals.{in-Token, in-Error+in_ok-walk-in-Error, in-Enter}
use Rattle.squawk_tree.proofs.errors.errors_of_steps.Goals as goal

pub loop-step-preserved : goal.loop-step-preserved
loop-step-preserved c =
    let i = c.loop-step.step-index in
    let steps = c.args.steps.now in
    let next = drop_more steps i c.step-item.result (omega arith)
    ∙ ap (λ x. x ∷ drop (i + 1) steps) (sym c.step-item.is) in
    let few = c.loop-step.invariant.few in
    elim c.match-step.branch [
      | in-Token w ↦ rw (w.errors-is, w.walk-is) (record {
        walk = so_far_token _ _ _ _ w.in-Token.kind w.in-Token.start w.in-Token.end _ _ _
            c.loop-step.invariant.walk
            (next ∙ ap (λ x. x ∷ drop (i + 1) steps) w.in-Token.is);
        few = omega (arith, few);
      })
      | in-Error+in_ok-walk-in-Error w ↦ rw (w.errors-is, w.walk-is) (record {
        walk = so_far_error _ _ _ _ w.in-Error.number w.in-Error.at _ _ _ _ _
            c.loop-step.invariant.walk
            (next ∙ ap (λ x. x ∷ drop (i + 1) steps) w.in-Error.is)
            w.in_ok-walk-in-Error.ensures.ok w.in_ok-walk-in-Error.ensures.rest
            w.in_ok-walk-in-Error.ensures.within;
        few = omega (arith, few);
      })
      | in-Enter w ↦ rw (w.errors-is, w.walk-is) (record {
        walk = so_far_node _ _ _ _ _ _ _ _ c.loop-step.invariant.walk next w.in-Enter.is;
        few = omega (arith, few);
      })
    ]

pub returns-clause-ok : goal.returns-clause-ok
returns-clause-ok c =
    let steps = c.args.steps.now in
    so_far_end _ _ c.loop-step.walk.token c.loop-step.walk.error _ steps _ _
    c.loop-step.invariant.walk
    (drop_all c.loop-step.step-index steps (omega (arith, c.loop-step-test.false)))
    c.requires c.len.ensures.sound (c.text_start-end.ensures
    ∙ ap (λ n. total_len (take n c.args.lexed.now.tokens)) c.len.ensures.count)
    c.in_ok-push_lexical_errors.ensures.ok
