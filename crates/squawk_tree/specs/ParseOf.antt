-- The parse of a text.
use Rattle.std.specs.Prelude.{ℕ, ◌+◌, List, [], ◌∷◌, map}
use Rattle.squawk_events.specs.declared.steps.Step.{Step}
use Rattle.squawk_events.specs.declared.steps.StrStep.{StrStep}
use Rattle.squawk_events.specs.declared.steps.StrStep.TheVariants.{Token}
use Rattle.squawk_kinds.specs.Role.{Role}
use Rattle.squawk_lexed.specs.Leaf.{token_role}
use Rattle.squawk_lexed.specs.LexedText.{lexed_text, total_len}
use Rattle.squawk_lexed.specs.LexedToken.{LexedToken}
use Rattle.squawk_lexed.specs.Weave.{kinds_without_trivia, weave}
use Rattle.squawk_lexer.specs.declared.token.Strings.{Strings}
use Rattle.squawk_lexer.specs.declared.token.Token as lexer
use Rattle.squawk_statements.specs.Plain.{plain}
use Rattle.squawk_statements.specs.declared.division.Division.{Division}
use Rattle.squawk_tree.specs.Errors.{errors}
use Rattle.squawk_tree.specs.Steps.{without_errors}
use Rattle.squawk_tree.specs.Tree.{Tree}

-- the roles of the tokens that the lexer cuts
abbrev pub roles_of : List lexer.Token → List Role
roles_of ts = map (λ (t : lexer.Token). token_role t.kind) ts

-- the `Token` steps of tokens, the first of which begins at an offset
abbrev pub token_steps : ℕ → List LexedToken → List StrStep
token_steps at [] = []
token_steps at (t ∷ ts) = Token t.kind at (at + t.len) ∷ token_steps (at + t.len) ts

-- the tree over tokens whose steps, `Error` steps included, are these
abbrev pub tree_of : List LexedToken → List StrStep → Tree
tree_of ts steps = record {
  steps = without_errors steps;
  errors = errors ts steps;
  len = total_len ts;
}

-- the parse of tokens by a grammar whose output for a list of kinds is `told`
abbrev pub parse_by : (List ℕ → List Step) → List LexedToken → Tree
parse_by told ts = tree_of ts (weave ts (told (kinds_without_trivia ts)))

-- the parse of tokens into statements
abbrev pub parse_of_tokens : Division → List LexedToken → Tree
parse_of_tokens division ts = parse_by (plain division) ts

-- the tokens of a text of these bytes
abbrev pub tokens_of : Strings → List ℕ → List LexedToken
tokens_of strings text = (lexed_text strings text).tokens

-- the parse of a text of these bytes
abbrev pub parse_of : Strings → Division → List ℕ → Tree
parse_of strings division text = parse_of_tokens division (tokens_of strings text)
