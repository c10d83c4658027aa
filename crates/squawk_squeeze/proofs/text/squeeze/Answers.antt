use Rattle.std.proofs.Common.{◌≡◌, ◌+◌, ◌-◌, take, drop, sym, ap, ◌∙◌, arith}
use Rattle.std.proofs.lemmas.Str.{IsCharBoundary-start, IsUtf8-string_bytes}
use Rattle.squawk_squeeze.specs.Squeezed.{text_tokens_at}
use Rattle.squawk_squeeze.proofs.SqueezeLaws.{lexer_laws}
use Rattle.squawk_squeeze.proofs.SqueezeBytes.{step, no_tokens, pushed, output_is, result_keeps_tokens, result_is_unchanged, result_is_no_longer}
use Rattle.squawk_squeeze.proofs.text.squeeze.Goals as goal

pub loop-at-init : goal.loop-at-init
loop-at-init c = record {
  text = no_tokens c.with_room-squeezer.result (text_tokens_at c.args.strings c.args.text.now 0)
      c.with_room-squeezer.ensures.out c.with_room-squeezer.ensures.run;
  boundary = IsCharBoundary-start c.args.text.now c.utf8.text;
  within = omega arith;
}

pub loop-at-preserved : goal.loop-at-preserved
loop-at-preserved c =
    let t = c.cut_at_in-token.result in
    let text = c.args.text.now in
    let at = c.loop-at.at in
    let part = c.range.result.now in
    let part_is : part ≡ take t.len (drop at text) = c.range.ensures.value
    ∙ ap (λ n. take n (drop at text)) (let e : at + t.len - at ≡ t.len = omega arith in e) in
    record {
      text = pushed c.is_trivia.result part c.loop-at.squeezer c.push.new.self t.kind
          (text_tokens_at c.args.strings text at)
          (text_tokens_at c.args.strings text (at + t.len)) _
          c.in_ok-push.ensures (sym c.is_trivia.ensures)
          (step c.tokens_progress.ensures.some c.args.strings text at t part c.utf8.text
          c.loop-at.invariant.boundary c.loop-at-test.true c.cut_at_in-token.ensures.ends_between
          c.cut_at_in-token.ensures.positive c.cut_at_in-token.ensures.token part_is c.range.utf8)
          c.loop-at.invariant.text;
      boundary = c.cut_at_in-token.ensures.ends_between;
      within = c.cut_at_in-token.ensures.ends_between.0;
    }

pub returns-clause-text : goal.returns-clause-text
returns-clause-text c =
    output_is c.loop-at.squeezer c.args.strings c.args.text.now c.loop-at.at _ _ c.in_ok-out.ensures
    c.loop-at-test.false c.loop-at.invariant.text

pub returns-clause-keeps_tokens : goal.returns-clause-keeps_tokens
returns-clause-keeps_tokens c =
    result_keeps_tokens (lexer_laws c.tokens_progress.ensures.some c.tokens_progress.ensures.within
    c.tokens_look_ahead.ensures.lexemes c.tokens_stay.ensures.seen c.tokens_stay.ensures.near
    c.tokens_stay.ensures.before) c.args.strings c.args.text.now _
    (IsUtf8-string_bytes c.in_ok-out.out) (returns-clause-text c)

pub returns-clause-idempotent : goal.returns-clause-idempotent
returns-clause-idempotent c =
    result_is_unchanged (lexer_laws c.tokens_progress.ensures.some c.tokens_progress.ensures.within
    c.tokens_look_ahead.ensures.lexemes c.tokens_stay.ensures.seen c.tokens_stay.ensures.near
    c.tokens_stay.ensures.before) c.args.strings c.args.text.now _
    (IsUtf8-string_bytes c.in_ok-out.out) (returns-clause-text c)

pub returns-clause-no_longer : goal.returns-clause-no_longer
returns-clause-no_longer c =
    result_is_no_longer c.tokens_progress.ensures.some c.args.strings c.args.text.now _ c.utf8.text
    (returns-clause-text c)
