use Rattle.squawk_squeeze.proofs.SqueezeBytes.{squeezed_is_no_longer}
use Rattle.squawk_squeeze.proofs.SqueezeLaws.{lexer_laws, keeps_tokens, squeeze_idempotent}
use Rattle.squawk_squeeze.proofs.laws.squeezing_keeps_tokens.Goals as goal

pub returns-clause-tokens : goal.returns-clause-tokens
returns-clause-tokens c =
    keeps_tokens (lexer_laws c.tokens_progress.ensures.some c.tokens_progress.ensures.within
    c.tokens_look_ahead.ensures.lexemes c.tokens_stay.ensures.seen c.tokens_stay.ensures.near
    c.tokens_stay.ensures.before)

pub returns-clause-twice : goal.returns-clause-twice
returns-clause-twice c =
    squeeze_idempotent (lexer_laws c.tokens_progress.ensures.some c.tokens_progress.ensures.within
    c.tokens_look_ahead.ensures.lexemes c.tokens_stay.ensures.seen c.tokens_stay.ensures.near
    c.tokens_stay.ensures.before)

pub returns-clause-no_longer : goal.returns-clause-no_longer
returns-clause-no_longer c = squeezed_is_no_longer c.tokens_progress.ensures.some
