-- The first child of the root, and its node.
use Rattle.std.specs.Prelude.{◌≡◌, ℕ, List, [], ◌∷◌, ◌++◌, map, take, Option, Some, None}
use Rattle.squawk_kinds.specs.declared.numbers.TheConstants.Number as kind
use Rattle.squawk_kinds.specs.Role.{Role, role, Trivia, Semicolon, Terminator, Command, Open, Close, Other}
use Rattle.squawk_statements.specs.Children.{first_child}
use Rattle.squawk_events.specs.Kinds.{without_trivia}
use Rattle.squawk_statements.specs.Opening.{statement_node}
use Rattle.squawk_statements.specs.declared.division.Division.{Division}
use Rattle.squawk_statements.specs.declared.first.ChildShape.{ChildShape}

-- the node of a child by the role of its first kind and by its kinds without trivia
abbrev pub node_by : Role → List ℕ → Option ℕ
node_by Trivia ks = None
node_by Semicolon ks = Some kind.EMPTY_STMT
node_by Terminator ks = Some kind.PSQL_COMMAND
node_by Command ks = Some kind.PSQL_COMMAND
node_by Open ks = Some (statement_node ks)
node_by Close ks = Some (statement_node ks)
node_by Other ks = Some (statement_node ks)

-- the node of a child of these kinds, trivia included; none for a leaf
abbrev pub child_node : List ℕ → Option ℕ
child_node [] = None
child_node (k ∷ ks) = node_by (role k) (without_trivia (k ∷ ks))

-- the shape of the first child of a list of kinds, trivia included
abbrev pub first_shape : Division → List ℕ → ChildShape
first_shape division kinds = let child = first_child division (map role kinds) in record {
  tokens = child.tokens;
  node = child_node (take child.tokens kinds);
  closed = child.closed;
}

-- this is the shape of the first child of every list that begins with these kinds
abbrev pub IsFirstOfLonger : Division → List ℕ → ChildShape → Type 0
IsFirstOfLonger division kinds shape = (others : List ℕ)
    → first_shape division (kinds ++ others) ≡ shape
