use Rattle.std.proofs.Common.{arith, ◌∙◌, ◌+◌}
use Rattle.squawk_tree.proofs.WalkLemmas.{take_within, token_end, no_token}
use Rattle.squawk_tree.proofs.errors.next_end.Goals as goal

pub overflow_cast-result : goal.overflow_cast-result
overflow_cast-result c = omega (
  arith,
  c.text_range.ensures.end,
  take_within (c.args.token + 1) c.args.lexed.now.tokens,
  c.len.ensures.whole,
  c.len.ensures.fits,
)

pub overflow_cast-result-else-token-len : goal.overflow_cast-result-else-token-len
overflow_cast-result-else-token-len c = omega (
  arith,
  c.text_start.ensures,
  take_within c.args.token c.args.lexed.now.tokens,
  c.len.ensures.whole,
  c.len.ensures.fits,
)

pub returns-then-token-len : goal.returns-then-token-len
returns-then-token-len c = c.text_range.ensures.end
    ∙ token_end c.args.lexed.now.tokens c.args.token

pub returns-else-token-len : goal.returns-else-token-len
returns-else-token-len c =
    let ts = c.args.lexed.now.tokens in
    let none = no_token ts c.args.token (omega (arith, c.len.ensures.count, c.if-token-len.false))
    in
    c.text_start.ensures ∙ rw none (omega arith)
