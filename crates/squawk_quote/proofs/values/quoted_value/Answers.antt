use Rattle.std.proofs.Common.{◌≡◌, IfOk, subst, ◌∙◌, arith}
use Rattle.std.specs.String.{string_bytes}
use Rattle.squawk_quote.proofs.ValueBytes.{quoted_slice, quoted_value_is}
use Rattle.squawk_quote.proofs.values.quoted_value.Goals as goal

pub overflow_sub-text : goal.overflow_sub-text
overflow_sub-text c =
    let s = quoted_slice c.args.quote c.args.text.now c.requires.ascii c.utf8.text c.requires.quoted
    in omega (arith, s.two)

pub range-requires-clause-start_le_end : goal.range-requires-clause-start_le_end
range-requires-clause-start_le_end c =
    let s = quoted_slice c.args.quote c.args.text.now c.requires.ascii c.utf8.text c.requires.quoted
    in omega (arith, s.two)

pub range-requires-clause-start_boundary : goal.range-requires-clause-start_boundary
range-requires-clause-start_boundary c =
    λ h. (quoted_slice c.args.quote c.args.text.now c.requires.ascii c.utf8.text
    c.requires.quoted).start

pub range-requires-clause-end_boundary : goal.range-requires-clause-end_boundary
range-requires-clause-end_boundary c =
    (quoted_slice c.args.quote c.args.text.now c.requires.ascii c.utf8.text c.requires.quoted).end

pub returns : goal.returns
returns c =
    subst (λ w. IfOk c.unescape_quotes.result (λ out. string_bytes out ≡ w))
    (quoted_value_is c.args.quote c.args.text.now c.range.result.now c.range.utf8
    (c.range.ensures.value ∙ (quoted_slice c.args.quote c.args.text.now c.requires.ascii c.utf8.text
    c.requires.quoted).inner_is)) c.unescape_quotes.ensures
