use Rattle.std.proofs.Common.{◌+◌, ◌<◌, arith, slice_index_or}
use Rattle.std.proofs.lemmas.Str.{IsCharBoundary-after_ascii}
use Rattle.squawk_script.proofs.NumberSteps as steps
use Rattle.squawk_script.proofs.number.read_number.Goals as goal

pub returns-in-Ok-clause-number : goal.returns-in-Ok-clause-number
returns-in-Ok-clause-number c =
    steps.number_parsed c.args.byte c.args.text.now c.range.result.now c.args.at
    c.digit_count.result
    c.in-Ok.value c.parse.result (rw c.as_bytes-bytes.ensures.value at c.digit_count.ensures.count)
    (omega arith) (rw c.as_bytes-bytes.ensures.value at c.if-bytes-end.false) c.range.ensures.value
    c.parse.ensures.value.0 c.in-Ok.is

pub returns-in-Err-clause-number : goal.returns-in-Err-clause-number
returns-in-Err-clause-number c =
    steps.number_refused c.args.byte c.args.text.now c.range.result.now c.args.at
    c.digit_count.result
    c.parse.result c.in-Err.field-0 (rw c.as_bytes-bytes.ensures.value at
    c.digit_count.ensures.count)
    c.range.ensures.value c.parse.ensures.value.0 c.in-Err.is

pub returns-in-Ok-clause-within : goal.returns-in-Ok-clause-within
returns-in-Ok-clause-within c =
    let ascii = rw c.as_bytes-bytes.ensures.value at c.if-bytes-end.false in
    let small : slice_index_or c.args.text.now (c.args.at + c.digit_count.result) 0 < 128 =
    omega (arith, ascii) in
    let boundary = IsCharBoundary-after_ascii c.args.text.now (c.args.at + c.digit_count.result)
    c.utf8.text (omega arith) small in
    (omega arith, boundary)

pub returns-then-end-at-gt-MAX_DIGITS-clause-number :
    goal.returns-then-end-at-gt-MAX_DIGITS-clause-number
returns-then-end-at-gt-MAX_DIGITS-clause-number c =
    let count = rw c.as_bytes-bytes.ensures.value at c.digit_count.ensures.count in
    steps.no_number c.args.byte c.args.text.now c.args.at c.digit_count.result count
    (λ number follows. steps.too_many c.args.text.now c.args.at c.digit_count.result count
    (omega (arith, c.if-end-at-gt-MAX_DIGITS.true)) number)

pub returns-then-end-bytes-clause-number : goal.returns-then-end-bytes-clause-number
returns-then-end-bytes-clause-number c =
    let value = c.as_bytes-bytes.ensures.value in
    let count = rw value at c.digit_count.ensures.count in
    let end = c.args.at + c.digit_count.result in
    let none = steps.no_number c.args.byte c.args.text.now c.args.at c.digit_count.result count in
    elim c.then-end-bytes.branch [
      | goal.then-end-bytes-via-then-end-bytes w ↦
          none (λ number follows. steps.none_past_end c.args.text.now c.args.byte end
          (omega arith) (rw value at w.if-end-bytes.true) follows)
      | goal.then-end-bytes-via-else-end-bytes+then-bytes-end w ↦
          none (λ number follows. (rw value at w.if-bytes-end.true) follows)
    ]
