-- The children of a parse, each built from its own tokens alone, and the tree that they make.
use Rattle.std.specs.Prelude.{ℕ, ◌+◌, List, [], ◌∷◌, ◌++◌, map}
use Rattle.squawk_events.specs.declared.steps.ParseError.{ParseError}
use Rattle.squawk_events.specs.declared.steps.StrStep.{StrStep}
use Rattle.squawk_events.specs.declared.steps.StrStep.TheVariants.{Enter, Token, Exit, Error}
use Rattle.squawk_kinds.specs.declared.numbers.TheConstants.Number.{SOURCE_FILE}
use Rattle.squawk_lexed.specs.LexedText.{total_len}
use Rattle.squawk_lexed.specs.LexedToken.{LexedToken, lexed_role}
use Rattle.squawk_lexer.specs.declared.token.Strings.{Strings}
use Rattle.squawk_statements.specs.Children.{parts}
use Rattle.squawk_statements.specs.Plain.{child_steps}
use Rattle.squawk_statements.specs.declared.division.Division.{Division}
use Rattle.squawk_tree.specs.ChildGrammar.{woven_by}
use Rattle.squawk_tree.specs.Errors.{error, errors}
use Rattle.squawk_tree.specs.ParseOf.{tokens_of}
use Rattle.squawk_tree.specs.Steps.{without_errors}
use Rattle.squawk_tree.specs.Tree.{Tree}

-- the steps of a child of these tokens, the first of which begins at an offset
abbrev pub woven_child : Division → ℕ → List LexedToken → List StrStep
woven_child d at ts = woven_by (child_steps d) at ts

-- one child: its steps, its errors and its length in bytes; offsets are from its start
pub record ChildTree : Type 0 where
  pub steps : List StrStep
  pub errors : List ParseError
  pub len : ℕ

-- the child of these tokens
abbrev pub child_of : Division → List LexedToken → ChildTree
child_of d ts = record {
  steps = without_errors (woven_child d 0 ts);
  errors = errors ts (woven_child d 0 ts);
  len = total_len ts;
}

-- the children of a text of these bytes
abbrev pub children_of : Strings → Division → List ℕ → List ChildTree
children_of strings d text = map (child_of d) (parts lexed_role d (tokens_of strings text))

-- a step of a child that begins n bytes into the text
abbrev pub shifted_step : ℕ → StrStep → StrStep
shifted_step n (Enter kind) = Enter kind
shifted_step n (Token kind start end) = Token kind (start + n) (end + n)
shifted_step n Exit = Exit
shifted_step n (Error number at) = Error number (at + n)

-- an error of a child that begins n bytes into the text
abbrev pub shifted_error : ℕ → ParseError → ParseError
shifted_error n e = error (e.start + n) (e.end + n) e.number

-- the steps of children, the first of which begins at an offset
abbrev pub child_steps_from : ℕ → List ChildTree → List StrStep
child_steps_from at [] = []
child_steps_from at (child ∷ rest) =
    map (shifted_step at) child.steps ++ child_steps_from (at + child.len) rest

-- the errors of children, the first of which begins at an offset
abbrev pub child_errors_from : ℕ → List ChildTree → List ParseError
child_errors_from at [] = []
child_errors_from at (child ∷ rest) =
    map (shifted_error at) child.errors ++ child_errors_from (at + child.len) rest

-- the length of children in bytes
abbrev pub children_len : List ChildTree → ℕ
children_len [] = 0
children_len (child ∷ rest) = child.len + children_len rest

-- the tree whose root has these children
abbrev pub join : List ChildTree → Tree
join children = record {
  steps = Enter SOURCE_FILE ∷ child_steps_from 0 children ++ Exit ∷ [];
  errors = child_errors_from 0 children;
  len = children_len children;
}
