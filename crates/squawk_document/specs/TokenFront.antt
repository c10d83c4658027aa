-- What the tests' own front tells: the tokens of the lexer, each of which is a closed child. A law
-- of the trait `Front` may cite definitions alone, so its proof stands here.
use Rattle.std.proofs.Common.{◌≡◌, true, List, [], ◌∷◌, ◌++◌, length, map, take, refl, sym, arith}
use Rattle.std.specs.Str.{chars}
use Rattle.squawk_cut.specs.ChildValue.{ChildValue, child_of_tree}
use Rattle.squawk_cut.specs.PlainTells.{lexed_of}
use Rattle.squawk_cut.specs.Tells.{IsLawful, Tells, TextToken, text_token_bytes}
use Rattle.squawk_lexer.specs.LookAhead.{TextsLookAhead, TextsProgress}
use Rattle.squawk_lexer.specs.Token.{token_at}
use Rattle.squawk_lexer.specs.declared.token.Strings.TheVariants.{Standard}
use Rattle.squawk_statements.specs.declared.division.Division.TheVariants.{Flat}
use Rattle.squawk_tree.specs.ParseOf.{parse_of_tokens}
use Rattle.squawk_tree.specs.Tree.{Tree}

-- the parse of the first token alone
abbrev pub first_tree : List TextToken → Tree
first_tree xs = parse_of_tokens Flat (map lexed_of (take 1 xs))

-- the first token as a closed child
abbrev pub token_child : List TextToken → ChildValue
token_child xs = record {
  tokens = 1;
  bytes = text_token_bytes (take 1 xs);
  node = (child_of_tree (first_tree xs) true).node;
  closed = true;
  steps = (child_of_tree (first_tree xs) true).steps;
  errors = (first_tree xs).errors;
}

-- the tokens of the lexer, and each as a child
abbrev pub token_tells : Tells
token_tells = record {
  token_at = λ start text. token_at Standard start (chars text);
  child_at = token_child;
}

-- a child is decided by its first token
stays : (child rest other : List TextToken) → 1 ≡ length child
    → token_child (child ++ other) ≡ token_child (child ++ rest)
stays [] rest other one = absurd (omega arith)
stays (x ∷ xs) rest other one = refl

-- what this front tells is lawful
pub token_lawful : TextsProgress → TextsLookAhead → IsLawful token_tells
token_lawful progress ahead = record {
  some = λ start text utf8 h. (progress Standard start text utf8 h).0;
  within = λ start text utf8 h. (progress Standard start text utf8 h).1;
  looks = λ start token two rest other utf8 utf8_two utf8_rest utf8_other has len.
      ahead Standard start (token ++ (two ++ rest)) token two rest other refl (sym len) utf8
      utf8_two has;
  child_some = λ xs h. omega arith;
  child_within = λ xs h. omega (arith, h);
  child_bytes = λ xs h. refl;
  stays = λ child rest other closed one. stays child rest other one;
}
