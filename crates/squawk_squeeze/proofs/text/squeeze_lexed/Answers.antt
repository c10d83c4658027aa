use Rattle.std.proofs.Common.{◌+◌, ◌<◌, length, sym, subst, ◌∙◌, arith, IsUtf8}
use Rattle.std.proofs.lemmas.Str.{IsUtf8-string_bytes}
use Rattle.squawk_lexed.specs.LexedText.{token_start}
use Rattle.squawk_squeeze.specs.Squeezed.{text_tokens_at}
use Rattle.squawk_squeeze.proofs.LexedSteps.{lexed_step, kind_within, ends_text, utf8_text}
use Rattle.squawk_squeeze.proofs.SqueezeLaws.{lexer_laws}
use Rattle.squawk_squeeze.proofs.SqueezeBytes.{no_tokens, pushed, output_is, result_keeps_tokens, result_is_unchanged, result_is_no_longer}
use Rattle.squawk_squeeze.proofs.text.squeeze_lexed.Goals as goal

pub loop-i-init : goal.loop-i-init
loop-i-init c = λ strings text is.
    no_tokens c.with_room-squeezer.result (text_tokens_at strings text 0)
    c.with_room-squeezer.ensures.out c.with_room-squeezer.ensures.run

pub loop-i-preserved : goal.loop-i-preserved
loop-i-preserved c = λ strings text is.
    let l = c.args.lexed.now in
    let i = c.loop-i.i in
    let within : i < length l.tokens = omega (arith, c.loop-i-test.true, c.len-i-end.ensures.count)
    in
    let s = lexed_step c.tokens_progress.ensures.some c.tokens_progress.ensures.texts
    c.leaves_keep_roles.ensures c.tokens_are_cut_at_their_starts.ensures strings text l i
    c.kind.result c.text.result.now is (record {
      within = within;
      sound = c.len-i-end.ensures.sound;
      whole = c.len-i-end.ensures.whole;
      kind_is = kind_within l.tokens i c.kind.result _ within c.kind.ensures;
      part_is = c.text.ensures;
      utf8 = subst IsUtf8 c.as_str.ensures c.as_str.utf8;
      part_utf8 = c.text.utf8;
    }) in
    pushed c.is_trivia.result c.text.result.now c.loop-i.squeezer c.push.new.self s.kind
    (text_tokens_at strings text (token_start l.tokens i))
    (text_tokens_at strings text (token_start l.tokens (i + 1))) _
    c.in_ok-push.ensures (s.is ∙ sym c.is_trivia.ensures.role) s.tokens
    (c.loop-i.invariant strings text is)

pub returns-clause-text : goal.returns-clause-text
returns-clause-text c = λ strings text is.
    let l = c.args.lexed.now in
    output_is c.loop-i.squeezer strings text (token_start l.tokens c.loop-i.i) _ _
    c.in_ok-out.ensures
    (ends_text strings text l c.loop-i.i is
    (omega (arith, c.loop-i-test.false, c.len-i-end.ensures.count)) c.len-i-end.ensures.whole)
    (c.loop-i.invariant strings text is)

pub returns-clause-keeps_tokens : goal.returns-clause-keeps_tokens
returns-clause-keeps_tokens c = λ strings text is.
    result_keeps_tokens (lexer_laws c.tokens_progress.ensures.some c.tokens_progress.ensures.within
    c.tokens_look_ahead.ensures.lexemes c.tokens_stay.ensures.seen c.tokens_stay.ensures.near
    c.tokens_stay.ensures.before) strings text _
    (IsUtf8-string_bytes c.in_ok-out.out) (returns-clause-text c strings text is)

pub returns-clause-idempotent : goal.returns-clause-idempotent
returns-clause-idempotent c = λ strings text is.
    result_is_unchanged (lexer_laws c.tokens_progress.ensures.some c.tokens_progress.ensures.within
    c.tokens_look_ahead.ensures.lexemes c.tokens_stay.ensures.seen c.tokens_stay.ensures.near
    c.tokens_stay.ensures.before) strings text _
    (IsUtf8-string_bytes c.in_ok-out.out) (returns-clause-text c strings text is)

pub returns-clause-no_longer : goal.returns-clause-no_longer
returns-clause-no_longer c = λ strings text is.
    result_is_no_longer c.tokens_progress.ensures.some strings text _
    (utf8_text strings text c.as_str.result.now c.args.lexed.now is c.as_str.ensures c.as_str.utf8)
    (returns-clause-text c strings text is)
