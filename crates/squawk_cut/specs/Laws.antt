-- What a plain front tells of a text: the lexer's tokens, and the children of its parse.
use Rattle.std.specs.Prelude.{◌≡◌, ℕ, List}
use Rattle.std.specs.Str.{chars, IsUtf8}
use Rattle.squawk_cut.specs.Children.{children_of}
use Rattle.squawk_cut.specs.Join.{join_of}
use Rattle.squawk_cut.specs.PlainTells.{plain_tells}
use Rattle.squawk_cut.specs.Tokens.{tokens_of}
use Rattle.squawk_lexer.specs.Cut.{tokens}
use Rattle.squawk_lexer.specs.declared.token.Strings.{Strings}
use Rattle.squawk_statements.specs.declared.division.Division.{Division}
use Rattle.squawk_tree.specs.ParseOf.{parse_of}

-- the tokens that a plain front tells are those of the lexer
abbrev pub PlainTokensAreTheLexers : Type 0
PlainTokensAreTheLexers = (strings : Strings) (division : Division) (text : List ℕ) → IsUtf8 text
    → tokens_of (plain_tells strings division) text ≡ tokens strings (chars text)

-- the join of the children that a plain front tells is the parse of the text
abbrev pub PlainChildrenJoin : Type 0
PlainChildrenJoin = (strings : Strings) (division : Division) (text : List ℕ) → IsUtf8 text
    → join_of (children_of (plain_tells strings division) text) ≡ parse_of strings division text
