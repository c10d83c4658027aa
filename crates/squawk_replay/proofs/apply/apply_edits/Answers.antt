use Rattle.std.proofs.Common.{◌∙◌, arith, refl}
use Rattle.std.proofs.lemmas.Result.{err_from_is_err_and}
use Rattle.squawk_script.specs.Models.{edit_value}
use Rattle.squawk_replay.proofs.EditSteps as steps
use Rattle.squawk_replay.proofs.apply.apply_edits.Given as given
use Rattle.squawk_replay.proofs.apply.apply_edits.Goals as goal

pub loop-edit-init : goal.loop-edit-init
loop-edit-init g c = record {
  applied = steps.none_applied (g.F.Front.tells c.args.document.now.front)
      c.args.document.now.text c.args.edits
      c.new-lines.result.items c.into_iter-edit-iterator.result
      c.new-lines.ensures.items c.into_iter-edit-iterator.ensures.into_iter_gives c.requires.short;
  tells = refl;
}

pub overflow_add-number : goal.overflow_add-number
overflow_add-number g c =
    let within = steps.number_within (g.F.Front.tells c.args.document.now.front)
    c.args.document.now.text c.args.edits c.loop-edit.document.text c.loop-edit.lines.items
    c.loop-edit.number (edit_value c.in-Some.edit) c.next.new.self c.loop-edit.edit-iterator
    c.loop-edit.invariant.applied c.in-Some.ensures.steps in
    omega (arith, within)

pub returns-in_err-edited-clause-tells : goal.returns-in_err-edited-clause-tells
returns-in_err-edited-clause-tells g c = c.in_err-edited.ensures.tells ∙ c.loop-edit.invariant.tells

pub returns-in_err-edited-clause-refusals : goal.returns-in_err-edited-clause-refusals
returns-in_err-edited-clause-refusals g c =
    let p = err_from_is_err_and c.from_residual.result c.from_residual.ensures.1 in
    rw (p.1, p.2) (steps.refusal (g.F.Front.tells c.args.document.now.front)
    c.args.document.now.text c.args.edits c.loop-edit.document.text c.loop-edit.lines.items
    c.loop-edit.number (edit_value c.in-Some.edit) c.next.new.self c.loop-edit.edit-iterator
    c.in_err-edited.field-0.0 c.loop-edit.invariant.applied c.in-Some.ensures.steps
    c.in_err-edited.ensures.refusals)

pub loop-edit-preserved : goal.loop-edit-preserved
loop-edit-preserved g c = record {
  applied = steps.one_more (g.F.Front.tells c.args.document.now.front)
      (g.F.Front.tells c.loop-edit.document.front)
      c.args.document.now.text c.args.edits c.loop-edit.document.text c.loop-edit.lines.items
      c.loop-edit.number (edit_value c.in-Some.edit) c.next.new.self c.loop-edit.edit-iterator
      c.edit.new.self.text c.push_edit_line.new.out.items c.in_ok-edited.edited
      c.loop-edit.invariant.applied c.in-Some.ensures.steps
      (λ bad. steps.ok_is_no_error _ _ _ _ refl refl (c.in_ok-edited.ensures.bad_range.1 bad))
      c.in_ok-edited.ensures.text c.in_ok-edited.ensures.counts c.loop-edit.invariant.tells
      c.in_ok-push_edit_line.ensures;
  tells = c.in_ok-edited.ensures.tells ∙ c.loop-edit.invariant.tells;
}

pub returns-in_err-push_edit_line-clause-tells : goal.returns-in_err-push_edit_line-clause-tells
returns-in_err-push_edit_line-clause-tells g c = c.in_ok-edited.ensures.tells
    ∙ c.loop-edit.invariant.tells

-- what was done when the iterator has no edit left
done : (g : given.Over) (c : goal.In-None g)
    → steps.AllApplied (g.F.Front.tells c.args.document.now.front)
    c.args.document.now.text c.args.edits c.loop-edit.document.text c.loop-edit.lines.items
done g c = steps.all_applied (g.F.Front.tells c.args.document.now.front)
    c.args.document.now.text c.args.edits c.loop-edit.document.text c.loop-edit.lines.items
    c.loop-edit.number c.loop-edit.edit-iterator c.loop-edit.invariant.applied
    c.in-None.ensures.steps.0

pub returns-clause-text : goal.returns-clause-text
returns-clause-text g c = (done g c).text_is

pub returns-clause-lines : goal.returns-clause-lines
returns-clause-lines g c = (done g c).lines_are

pub returns-clause-tells : goal.returns-clause-tells
returns-clause-tells g c = c.loop-edit.invariant.tells

pub returns-clause-ranges : goal.returns-clause-ranges
returns-clause-ranges g c = (done g c).ranges
