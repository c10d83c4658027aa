-- Grammars that turn the tokens of each child of the root into steps.
use Rattle.std.specs.Prelude.{◌≡◌, ℕ, ◌+◌, ◌≤◌, ◌&&◌, Bool, true, false, IsTrue, List, [], ◌∷◌, ◌++◌, Some, length, take, drop, if◌then◌else◌}
use Rattle.squawk_events.specs.Kinds.{has_no_trivia, is_trivia_kind}
use Rattle.squawk_events.specs.Lawful.{IsLawful, is_balanced, token_kinds}
use Rattle.squawk_events.specs.declared.steps.Step.{Step}
use Rattle.squawk_events.specs.declared.steps.Step.TheVariants.{Enter, Token, Exit, Error}
use Rattle.squawk_events.specs.declared.steps.StrStep.{StrStep}
use Rattle.squawk_events.specs.declared.steps.StrStep.TheVariants as out
use Rattle.squawk_kinds.specs.Role.{role}
use Rattle.squawk_kinds.specs.declared.numbers.TheConstants.Number.{SOURCE_FILE}
use Rattle.squawk_lexed.specs.LexedText.{token_start, total_len}
use Rattle.squawk_lexed.specs.LexedToken.{LexedToken}
use Rattle.squawk_lexed.specs.Stored.{kinds_of}
use Rattle.squawk_lexed.specs.Weave.{kinds_without_trivia, weave, weave_from}
use Rattle.squawk_statements.specs.Children.{parts}
use Rattle.squawk_statements.specs.First.{first_shape}
use Rattle.squawk_statements.specs.Plain.{children_by, node_of, unknown_statement_error}
use Rattle.squawk_statements.specs.declared.division.Division.{Division}
use Rattle.squawk_statements.specs.declared.first.ChildShape.{ChildShape}
use Rattle.squawk_tree.specs.Steps.{without_errors}

-- ---- kinds

-- whether a token is among the steps
abbrev pub has_token : List Step → Bool
has_token [] = false
has_token (Enter kind ∷ xs) = has_token xs
has_token (Token kind ∷ xs) = true
has_token (Exit ∷ xs) = has_token xs
has_token (Error number ∷ xs) = has_token xs

-- whether no `Error` is among the steps, and a token after each `Enter`
abbrev pub is_inside : List Step → Bool
is_inside [] = true
is_inside (Enter kind ∷ xs) = has_token xs && is_inside xs
is_inside (Token kind ∷ xs) = is_inside xs
is_inside (Exit ∷ xs) = is_inside xs
is_inside (Error number ∷ xs) = false

-- the steps are a tree of these kinds: the node of a child, with the error of an unknown statement,
-- and inside it tokens and nodes that have tokens
pub record IsChildSteps (kinds : List ℕ) (steps : List Step) : Type 0 where
  pub balanced : is_balanced steps ≡ true
  pub tokens : token_kinds steps ≡ kinds
  pub inner : List Step
  pub whole : steps ≡ Enter (node_of kinds) ∷ unknown_statement_error (node_of kinds) ++ inner
  pub inside : is_inside inner ≡ true

-- the steps for the kinds of each child are such steps
abbrev pub AreChildSteps : (List ℕ → List Step) → Type 0
AreChildSteps child = (kinds : List ℕ) → IsChildSteps kinds (child kinds)

-- a grammar of texts, by the steps of each child of the root
pub record IsGrammarOf (d : Division) (child told : List ℕ → List Step) : Type 0 where
  -- its steps for a text are those of the children, under a root
  pub root : (kinds : List ℕ) → told kinds
      ≡ Enter SOURCE_FILE ∷ children_by child (parts role d kinds) ++ Exit ∷ []
  -- they are lawful
  pub lawful : (kinds : List ℕ) → IsTrue (has_no_trivia kinds) → IsLawful kinds (told kinds)
  -- so are those of a child
  pub children : AreChildSteps child

-- ---- tokens

-- The steps of a child of these tokens, the first of which begins at an offset. A trivia token is a
-- leaf; the tokens of any other child are woven into the steps of its kinds.
abbrev pub woven_by : (List ℕ → List Step) → ℕ → List LexedToken → List StrStep
woven_by child at [] = []
woven_by child at (t ∷ ts) =
    if is_trivia_kind t.kind then out.Token t.kind at (at + t.len) ∷ []
    else weave_from at (t ∷ ts) (child (kinds_without_trivia (t ∷ ts)))

-- the steps of the children of these tokens, the first of which begins at an offset
abbrev pub woven_children_by : (List ℕ → List Step) → ℕ → List (List LexedToken) → List StrStep
woven_children_by child at [] = []
woven_children_by child at (part ∷ rest) =
    woven_by child at part ++ woven_children_by child (at + total_len part) rest

-- the steps of a text of these tokens
abbrev pub woven_text : (List ℕ → List Step) → List LexedToken → List StrStep
woven_text told ts = weave ts (told (kinds_without_trivia ts))

-- the steps, without errors, of the child of n tokens from an index on
abbrev pub child_at : (List ℕ → List Step) → List LexedToken → (from n : ℕ) → List StrStep
child_at child ts from n =
    without_errors (woven_by child (token_start ts from) (take n (drop from ts)))

-- the tokens from an index on begin with a child of this shape, which has this node
pub record IsFirstNode (d : Division) (ts : List LexedToken) (from : ℕ) (shape : ChildShape)
    (node : ℕ) : Type 0 where
  pub first : shape ≡ first_shape d (kinds_of (drop from ts))
  pub node_is : shape.node ≡ Some node
  pub some : 1 ≤ shape.tokens
  pub within : from + shape.tokens ≤ length ts
