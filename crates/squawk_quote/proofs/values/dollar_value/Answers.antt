use Rattle.std.proofs.Common.{◌≡◌, IfOk, subst, ◌∙◌}
use Rattle.std.specs.String.{string_bytes}
use Rattle.squawk_quote.proofs.ValueBytes.{dollar_slice}
use Rattle.squawk_quote.proofs.values.dollar_value.Goals as goal

pub overflow_sub-text : goal.overflow_sub-text
overflow_sub-text c = (dollar_slice c.args.text.now c.delimiter_len-len.result c.utf8.text c.requires
    c.delimiter_len-len.ensures).start.0

pub range-requires-clause-start_le_end : goal.range-requires-clause-start_le_end
range-requires-clause-start_le_end c =
    (dollar_slice c.args.text.now c.delimiter_len-len.result c.utf8.text c.requires
    c.delimiter_len-len.ensures).ordered

pub range-requires-clause-start_boundary : goal.range-requires-clause-start_boundary
range-requires-clause-start_boundary c =
    λ h. (dollar_slice c.args.text.now c.delimiter_len-len.result c.utf8.text c.requires
    c.delimiter_len-len.ensures).start

pub range-requires-clause-end_boundary : goal.range-requires-clause-end_boundary
range-requires-clause-end_boundary c =
    (dollar_slice c.args.text.now c.delimiter_len-len.result c.utf8.text c.requires
    c.delimiter_len-len.ensures).end

pub returns : goal.returns
returns c =
    subst (λ w. IfOk c.to_string.result (λ out. string_bytes out ≡ w))
    (c.range.ensures.value ∙ (dollar_slice c.args.text.now c.delimiter_len-len.result c.utf8.text
    c.requires c.delimiter_len-len.ensures).value_is) c.to_string.ensures.ok
