use Rattle.std.proofs.Common.{◌≡◌, ◌∷◌, sym, ap, ◌∙◌, le_refl}
use Rattle.std.proofs.lemmas.Str.{is_utf8-from_IsUtf8}
use Rattle.squawk_script.specs.Models.{edit_value, record_value}
use Rattle.squawk_script.specs.Script.{records}
use Rattle.squawk_script.proofs.ScriptSteps.{edits_none, edits_first}
use Rattle.squawk_script.proofs.script.EditsIterator.next.Goals as goal

pub returns-in_err-record-clause-steps : goal.returns-in_err-record-clause-steps
returns-in_err-record-clause-steps c =
    let left = sym c.self.view_is ∙ edits_none c.self.inside.rest.now
    c.in_err-record.ensures.first in
    rw c.from_residual.ensures (left, left)

pub invariant_of-self : goal.invariant_of-self
invariant_of-self c = is_utf8-from_IsUtf8 c.range_from-self-inside.result.now
    c.range_from-self-inside.utf8

-- the first edit, and those of the text after its record
stepped : (c : goal.After-result-1) → c.args.self.now
    ≡ edit_value c.in_ok-record.record.edit ∷ records c.range_from-self-inside.result.now
stepped c = sym c.self.view_is
    ∙ edits_first c.self.inside.rest.now (record_value c.in_ok-record.record)
    c.in_ok-record.ensures.within.0 c.in_ok-record.ensures.within.1.0 c.in_ok-record.ensures.first
    ∙ ap (λ rest. edit_value c.in_ok-record.record.edit ∷ records rest)
    (sym c.range_from-self-inside.ensures.value)

pub returns-clause-steps : goal.returns-clause-steps
returns-clause-steps c = stepped c

pub returns-clause-goes : goal.returns-clause-goes
returns-clause-goes c = rw (stepped c) (record {
  on = λ _. (tt, tt, le_refl _);
  keeps = tt;
  rests = λ _. tt;
})
