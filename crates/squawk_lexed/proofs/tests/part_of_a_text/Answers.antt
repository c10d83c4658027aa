use Rattle.std.proofs.Common.{false, [], ◌∷◌, refl, arith}
use Rattle.squawk_lexer.specs.Symbols.{symbol}
use Rattle.squawk_lexer.specs.Token.{token_form, prefix_of}
use Rattle.squawk_lexer.specs.declared.token.Strings.TheVariants.{Standard}
use Rattle.squawk_lexed.proofs.tests.part_of_a_text.Goals as goal

-- the tokens of `a` and of a space
pub from_tokens-requires-clause-cut : goal.from_tokens-requires-clause-cut
unfolding token_form prefix_of symbol
from_tokens-requires-clause-cut g c = (
  record { strings = Standard; at_start = false; text = 97 ∷ []; some = omega arith; same = refl },
  (
    record { strings = Standard; at_start = false; text = 32 ∷ []; some = omega arith; same = refl },
    tt,
  ),
)
