-- The line that the command `make` writes.
use Rattle.std.specs.Prelude.{ℕ, suc, Bool, true, false, List, [], ◌∷◌, ◌++◌, length, codes, decimal, is_some}
use Rattle.squawk_events.specs.declared.steps.StrStep.{StrStep}
use Rattle.squawk_events.specs.declared.steps.StrStep.TheVariants.{Enter, Token, Exit, Error}
use Rattle.squawk_lexer.specs.Classes.{line_feed}
use Rattle.squawk_tree.specs.Steps.{RootChild, Leaf, Node, leaves, root_children}
use Rattle.squawk_tree.specs.Tree.{Tree}
use Rattle.squawk_tree.specs.declared.children.ChildSpan.{ChildSpan}

-- the number of nodes among children of the root
abbrev pub node_count : List RootChild → ℕ
node_count [] = 0
node_count (Leaf ∷ children) = node_count children
node_count (Node tokens ∷ children) = suc (node_count children)

-- the summary of a tree: the bytes of its text, its leaves, the children of its root, the nodes
-- among these, and its errors
abbrev pub summary_line : Tree → List ℕ
summary_line tree = codes "bytes " ++ decimal tree.len
    ++ codes " tokens " ++ decimal (length (leaves tree.steps))
    ++ codes " children " ++ decimal (length (root_children tree.steps))
    ++ codes " nodes " ++ decimal (node_count (root_children tree.steps))
    ++ codes " errors " ++ decimal (length tree.errors) ++ line_feed ∷ []

-- What the contracts of private functions cite

-- the step is a `Token`
abbrev pub is_token : StrStep → Bool
is_token (Enter kind) = false
is_token (Token kind start end) = true
is_token Exit = false
is_token (Error number at) = false

-- the child is a node
abbrev pub is_node : ChildSpan → Bool
is_node child = is_some child.node
