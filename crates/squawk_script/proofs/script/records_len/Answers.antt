use Rattle.std.proofs.Common.{◌≡◌, ◌+◌, ◌∙◌, drop, ap, arith}
use Rattle.std.proofs.lemmas.List.{drop-drop}
use Rattle.std.proofs.lemmas.Str.{IsCharBoundary-start, IsCharBoundary-from_rest}
use Rattle.squawk_script.specs.Models.{record_value}
use Rattle.squawk_script.specs.Script.{records_len}
use Rattle.squawk_script.proofs.ScriptSteps.{len_first}
use Rattle.squawk_script.proofs.script.records_len.Goals as goal

pub loop-record-init : goal.loop-record-init
loop-record-init c = record {
  len = omega arith;
  boundary = IsCharBoundary-start c.args.text.now c.utf8.text;
}

pub loop-record-preserved : goal.loop-record-preserved
loop-record-preserved c =
    let text = c.args.text.now in
    let at = c.loop-record.at in
    let r = record_value c.in-Some.record in
    let first = rw c.range_from.ensures.value at c.in-Some.ensures.first in
    let within = rw c.range_from.ensures.value at c.in-Some.ensures.within in
    let rest : records_len (drop at text) ≡ r.len + records_len (drop (at + r.len) text) =
    len_first (drop at text) r within.0 within.1.0 first
    ∙ ap (λ xs. r.len + records_len xs) (drop-drop r.len at text) in
    record {
      len = omega (arith, rest, c.loop-record.invariant.len);
      boundary = IsCharBoundary-from_rest text at r.len c.loop-record.invariant.boundary.0 within.1;
    }
