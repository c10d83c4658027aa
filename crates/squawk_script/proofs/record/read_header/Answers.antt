use Rattle.std.proofs.Common.{◌∙◌, ◌<◌, length, slice_index_or, arith, sym}
use Rattle.std.proofs.lemmas.Str.{IsCharBoundary-after_ascii}
use Rattle.squawk_script.proofs.RecordSteps as steps
use Rattle.squawk_script.proofs.record.read_header.Goals as goal

pub read_number-requires-clause-boundary : goal.read_number-requires-clause-boundary
read_number-requires-clause-boundary c =
    let first = rw c.as_bytes.ensures.value at c.if-as_bytes-ne-AT_SIGN.false in
    let small : slice_index_or c.args.text.now 0 0 < 128 = omega (arith, first) in
    let some : 0 < length c.args.text.now = steps.some_bytes c.args.text.now (first) in
    IsCharBoundary-after_ascii c.args.text.now 0 c.utf8.text some small

pub returns-then-is_empty-clause-header : goal.returns-then-is_empty-clause-header
returns-then-is_empty-clause-header c = steps.other_byte c.args.text.now (λ first.
    elim c.then-is_empty.branch [
      | goal.then-is_empty-via-then-is_empty w ↦ steps.none_if_empty c.args.text.now (sym
          c.is_empty.ensures ∙ w.if-is_empty.true) first
      | goal.then-is_empty-via-else-is_empty+then-as_bytes-ne-AT_SIGN w ↦
          (rw w.as_bytes.ensures.value at w.if-as_bytes-ne-AT_SIGN.true) first
    ])

pub returns-in_err-start-clause-header : goal.returns-in_err-start-clause-header
returns-in_err-start-clause-header c = c.from_residual.ensures
    ∙ steps.no_start c.args.text.now (rw c.as_bytes.ensures.value at
    c.if-as_bytes-ne-AT_SIGN.false) c.in_err-start.ensures.number

pub returns-in_err-end-clause-header : goal.returns-in_err-end-clause-header
returns-in_err-end-clause-header c = c.from_residual-in_err-end.ensures
    ∙ steps.no_end c.args.text.now c.in_ok-start.start
    (rw c.as_bytes.ensures.value at c.if-as_bytes-ne-AT_SIGN.false) c.in_ok-start.ensures.number
    c.in_err-end.ensures.number

pub returns-in_err-len-clause-header : goal.returns-in_err-len-clause-header
returns-in_err-len-clause-header c = c.from_residual-in_err-len.ensures
    ∙ steps.no_len c.args.text.now c.in_ok-start.start c.in_ok-end.end
    (rw c.as_bytes.ensures.value at c.if-as_bytes-ne-AT_SIGN.false) c.in_ok-start.ensures.number
    c.in_ok-end.ensures.number c.in_err-len.ensures.number

pub returns-clause-header : goal.returns-clause-header
returns-clause-header c = steps.whole_line c.args.text.now c.in_ok-start.start c.in_ok-end.end
    c.in_ok-len.len (rw c.as_bytes.ensures.value at c.if-as_bytes-ne-AT_SIGN.false)
    c.in_ok-start.ensures.number c.in_ok-end.ensures.number c.in_ok-len.ensures.number
