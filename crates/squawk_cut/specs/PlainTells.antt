-- What the plain front tells: the tokens of the lexer, and the root children of the division.
use Rattle.std.specs.Prelude.{ℕ, List, map, take}
use Rattle.std.specs.Str.{chars}
use Rattle.squawk_cut.specs.ChildValue.{ChildValue, child_value}
use Rattle.squawk_cut.specs.Tells.{Tells, TextToken}
use Rattle.squawk_lexed.specs.Faults.{faults}
use Rattle.squawk_lexed.specs.Leaf.{leaf_kind}
use Rattle.squawk_lexed.specs.LexedToken.{LexedToken}
use Rattle.squawk_lexer.specs.Token.{token_at}
use Rattle.squawk_lexer.specs.declared.token.Strings.{Strings}
use Rattle.squawk_statements.specs.First.{first_shape}
use Rattle.squawk_statements.specs.declared.division.Division.{Division}
use Rattle.squawk_tree.specs.Join.{child_of}

-- a token as a parser reads it
unfoldable pub lexed_of : TextToken → LexedToken
lexed_of x = record {
  kind = leaf_kind x.token.kind x.text;
  len = x.token.len;
  faults = faults x.token;
}

-- the kinds of tokens
abbrev pub kinds_of : List TextToken → List ℕ
kinds_of xs = map (λ x. (lexed_of x).kind) xs

-- the first child of tokens: as many of them as the division says, with the steps and errors of
-- these alone
abbrev pub plain_child : Division → List TextToken → ChildValue
plain_child division xs = let first = first_shape division (kinds_of xs) in
    child_value first (child_of division (map lexed_of (take first.tokens xs)))

-- what a plain front tells, by its options
abbrev pub plain_tells : Strings → Division → Tells
plain_tells strings division = record {
  token_at = λ start text. token_at strings start (chars text);
  child_at = plain_child division;
}
