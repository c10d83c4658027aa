use Rattle.std.proofs.Common.{false, [], ◌∷◌, refl, arith}
use Rattle.squawk_lexer.specs.Symbols.{symbol}
use Rattle.squawk_lexer.specs.Token.{token_form, prefix_of}
use Rattle.squawk_lexer.specs.declared.token.Strings.TheVariants.{Standard}
use Rattle.squawk_lexed.proofs.tests.faults_of_a_token.Goals as goal

-- the token of `/* a`
pub faults_of-faults-requires : goal.faults_of-faults-requires
unfolding token_form prefix_of symbol
faults_of-faults-requires g c = record {
  cut = record {
    strings = Standard;
    at_start = false;
    text = 47 ∷ 42 ∷ 32 ∷ 97 ∷ [];
    some = omega arith;
    same = refl;
  };
}
