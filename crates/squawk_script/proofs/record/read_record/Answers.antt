use Rattle.std.proofs.Common.{◌≡◌, ◌∙◌, ◌<◌, ◌+◌, take, length, option_map, slice_index_or, arith, sym, ap}
use Rattle.std.proofs.lemmas.Str.{IsCharBoundary-after_ascii}
use Rattle.squawk_script.specs.Models.{record_value}
use Rattle.squawk_script.proofs.RecordSteps as steps
use Rattle.squawk_script.proofs.record.read_record.Goals as goal

pub returns-in_err-line-clause-first : goal.returns-in_err-line-clause-first
returns-in_err-line-clause-first c = ap (option_map record_value) c.from_residual.ensures
    ∙ steps.no_line c.args.text.now c.in_err-line.ensures.header

pub returns-then-line-rest-clause-first : goal.returns-then-line-rest-clause-first
returns-then-line-rest-clause-first c = steps.no_line_feed c.args.text.now c.in_ok-line.line
    c.in_ok-line.ensures.header (λ follows.
    elim c.then-line-rest.branch [
      | goal.then-line-rest-via-then-line-rest w ↦ steps.no_line_feed_past_end c.args.text.now
          c.range_from-rest.result.now c.in_ok-line.line.after c.in_ok-line.line.new_len
          c.range_from-rest.ensures.value w.if-line-rest.true follows
      | goal.then-line-rest-via-else-line-rest+then-as_bytes-line-ne-LINE_FEED w ↦
          (rw w.as_bytes.ensures.value at w.if-as_bytes-line-ne-LINE_FEED.true)
          (steps.byte_after c.args.text.now
          c.range_from-rest.result.now c.in_ok-line.line.after c.in_ok-line.line.new_len
          c.range_from-rest.ensures.value ∙ follows)
    ])

-- LF follows the new bytes
line_feed : (c : goal.After-struct_known-2-1)
    → slice_index_or c.args.text.now (c.in_ok-line.line.after + c.in_ok-line.line.new_len) 0 ≡ 10
line_feed c = sym (steps.byte_after c.args.text.now c.range_from-rest.result.now
    c.in_ok-line.line.after c.in_ok-line.line.new_len c.range_from-rest.ensures.value)
    ∙ (rw c.as_bytes.ensures.value at c.if-as_bytes-line-ne-LINE_FEED.false)

pub returns-clause-first : goal.returns-clause-first
returns-clause-first c = steps.whole_record c.args.text.now c.range.result.now c.in_ok-line.line
    c.in_ok-line.ensures.header (line_feed c)
    (c.range.ensures.value ∙ steps.prefix c.range_from-rest.result.now c.in_ok-line.line.new_len
    ∙ ap (take c.in_ok-line.line.new_len) c.range_from-rest.ensures.value)

pub returns-clause-within : goal.returns-clause-within
returns-clause-within c =
    let ascii = line_feed c in
    let small : slice_index_or c.args.text.now (c.in_ok-line.line.after +
    c.in_ok-line.line.new_len) 0 < 128 = omega (arith, ascii) in
    let inside : c.in_ok-line.line.new_len < length c.range_from-rest.result.now =
    c.if-line-rest.false in
    let within : c.in_ok-line.line.after + c.in_ok-line.line.new_len < length c.args.text.now =
    omega (arith, inside, c.range_from-rest.ensures.len) in
    let positive : 0 < c.in_ok-line.line.after + c.in_ok-line.line.new_len + 1 = omega arith in (
      positive,
      IsCharBoundary-after_ascii c.args.text.now (c.in_ok-line.line.after +
          c.in_ok-line.line.new_len) c.utf8.text within small,
    )
