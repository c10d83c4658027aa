-- What holds of every child of the root.
use Rattle.std.specs.Prelude.{◌≡◌, ℕ, ◌&&◌, Bool, true, false, IsTrue, List, [], ◌∷◌, All, Option, Some, None, length, take}
use Rattle.squawk_events.specs.declared.steps.StrStep.{StrStep}
use Rattle.squawk_events.specs.declared.steps.StrStep.TheVariants.{Enter, Token}
use Rattle.squawk_lexed.specs.LexedText.{are_sound}
use Rattle.squawk_lexed.specs.LexedToken.{LexedToken, lexed_role}
use Rattle.squawk_lexed.specs.Stored.{kinds_of}
use Rattle.squawk_statements.specs.Children.{first_child_len}
use Rattle.squawk_statements.specs.First.{child_node}
use Rattle.squawk_statements.specs.declared.division.Division.{Division}
use Rattle.squawk_tree.specs.Join.{ChildTree, child_of}
use Rattle.squawk_tree.specs.Steps.{is_balanced, has_no_errors, leaves, tiles}
use Rattle.squawk_tree.specs.Tree.{IsErrorWithin}

-- whether the steps are one `Token`, or a balanced list without an `Error`
abbrev pub is_leaf_or_node : List StrStep → Bool
is_leaf_or_node [] = false
is_leaf_or_node (Token kind start end ∷ []) = true
is_leaf_or_node (x ∷ xs) = is_balanced (x ∷ xs) && has_no_errors (x ∷ xs)

-- the node of a child with these steps: the kind of its first `Enter`; none for a leaf
abbrev pub node_of_steps : List StrStep → Option ℕ
node_of_steps (Enter kind ∷ xs) = Some kind
node_of_steps xs = None

-- the steps are a leaf or a node, their tokens cover the child from its start to its end, and the
-- errors lie in it
pub record IsChildTree (child : ChildTree) : Type 0 where
  pub leaf_or_node : IsTrue (is_leaf_or_node child.steps)
  pub tiled : IsTrue (tiles 0 (leaves child.steps) child.len)
  pub errors_within : All (IsErrorWithin child.len) child.errors

-- it is such a child, with a leaf for each of these tokens and the node of their kinds
pub record IsChildOf (ts : List LexedToken) (child : ChildTree) : Type 0 where
  pub tree : IsChildTree child
  pub tokens : length (leaves child.steps) ≡ length ts
  pub node : node_of_steps child.steps ≡ child_node (kinds_of ts)

-- the tokens of the first child of these
abbrev pub own_tokens : Division → List LexedToken → List LexedToken
own_tokens division ts = take (first_child_len lexed_role division ts) ts

-- the child of the tokens of a first child is such a child
abbrev pub ChildrenAreTrees : Type 0
ChildrenAreTrees = (division : Division) (token : LexedToken) (tokens : List LexedToken)
    → IsTrue (are_sound (own_tokens division (token ∷ tokens)))
    → IsChildOf (own_tokens division (token ∷ tokens))
    (child_of division (own_tokens division (token ∷ tokens)))
