use Rattle.std.proofs.Common.{◌≡◌, IfOk, subst}
use Rattle.std.specs.Prelude.{IfErr}
use Rattle.std.specs.Str.{chars}
use Rattle.std.specs.String.{string_bytes}
use Rattle.squawk_events.specs.Refusals.{MayRefuse}
use Rattle.squawk_quote.proofs.QuoteBytes.{put_quoted}
use Rattle.squawk_quote.proofs.writers.quote_with.Goals as goal

pub returns-clause-text : goal.returns-clause-text
returns-clause-text c =
    subst (λ w. IfOk c.check_len.result (λ out. string_bytes out ≡ w))
    (put_quoted c.args.quote (chars c.args.value.now) _ _ _ _ c.new-out.ensures.bytes
    c.in_ok-push.ensures.bytes c.in_ok-push_escaped.ensures c.in_ok-push-2.ensures.bytes)
    c.check_len.ensures.same

pub returns-clause-refusals : goal.returns-clause-refusals
returns-clause-refusals c =
    subst (λ w. IfErr c.check_len.result (MayRefuse w))
    (put_quoted c.args.quote (chars c.args.value.now) _ _ _ _ c.new-out.ensures.bytes
    c.in_ok-push.ensures.bytes c.in_ok-push_escaped.ensures c.in_ok-push-2.ensures.bytes)
    c.check_len.ensures.refusals
