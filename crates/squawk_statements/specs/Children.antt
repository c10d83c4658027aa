-- How the tokens of a text are divided into the children of the root, by their roles.
--
-- Outside a statement, trivia is a leaf, and a semicolon, terminator or command is a node by
-- itself. Any other token begins a statement, which extends to the first token that ends it: a
-- terminator, or a semicolon, where the division counts it. Without such a token it extends to the
-- last token that is not trivia.
use Rattle.std.specs.Prelude.{ℕ, zero, suc, ◌==◌, ◌-◌, ◌&&◌, Bool, true, false, List, [], ◌∷◌, map, take, Option, Some, None, option_map, if◌then◌else◌}
use Rattle.squawk_kinds.specs.Role.{Role, Trivia, Semicolon, Terminator, Command, Open, Close, Other, is_trivia}
use Rattle.squawk_statements.specs.declared.division.Division.{Division}
use Rattle.squawk_statements.specs.declared.division.Division.TheVariants.{Flat, Grouped}

-- whether a semicolon ends a statement in which n groups are open
abbrev pub ends_at_semicolon : Division → ℕ → Bool
ends_at_semicolon Flat n = true
ends_at_semicolon Grouped zero = true
ends_at_semicolon Grouped (suc n) = false

-- whether a token of this role ends a statement in which n groups are open
abbrev pub ends_statement : Division → ℕ → Role → Bool
ends_statement d n Trivia = false
ends_statement d n Semicolon = ends_at_semicolon d n
ends_statement d n Terminator = true
ends_statement d n Command = false
ends_statement d n Open = false
ends_statement d n Close = false
ends_statement d n Other = false

-- the number of open groups after a token that does not end the statement, where n are open before
-- it
abbrev pub open_groups_after : ℕ → Role → ℕ
open_groups_after n Trivia = n
open_groups_after n Semicolon = n
open_groups_after n Terminator = n
open_groups_after n Command = n
open_groups_after n Open = suc n
open_groups_after zero Close = zero
open_groups_after (suc n) Close = n
open_groups_after n Other = n

-- the number of tokens up to and including the first that ends the statement, where n groups are
-- open before them; none if no token ends it
abbrev pub statement_end : Division → ℕ → List Role → Option ℕ
statement_end d n [] = None
statement_end d n (f ∷ fs) = if ends_statement d n f then Some 1
    else option_map suc (statement_end d (open_groups_after n f) fs)

-- the number of tokens up to and including the last that is not trivia
abbrev pub trimmed_len : List Role → ℕ
trimmed_len [] = 0
trimmed_len (f ∷ fs) = if is_trivia f && trimmed_len fs == 0 then 0 else suc (trimmed_len fs)

-- a child of the root: how many tokens it has, whether it is a node, and whether it is closed, so
-- that no further token can belong to it
pub record Child : Type 0 where
  pub tokens : ℕ
  pub is_node : Bool
  pub closed : Bool

-- a leaf of trivia
abbrev pub trivia_child : Child
trivia_child = record { tokens = 1; is_node = false; closed = true }

-- a node of one semicolon, terminator or command
abbrev pub single_token : Child
single_token = record { tokens = 1; is_node = true; closed = true }

-- a statement at the start of a list of roles, by its end if it has one; without an end it holds
-- everything but trailing trivia
abbrev pub statement_to : Option ℕ → List Role → Child
statement_to (Some n) fs = record { tokens = n; is_node = true; closed = true }
statement_to None fs = record { tokens = trimmed_len fs; is_node = true; closed = false }

-- the statement at the start of a list of roles
abbrev pub statement : Division → List Role → Child
statement d fs = statement_to (statement_end d 0 fs) fs

-- a semicolon, terminator or command, which outside a statement is a child by itself
abbrev pub is_single_token : Role → Bool
is_single_token Trivia = false
is_single_token Semicolon = true
is_single_token Terminator = true
is_single_token Command = true
is_single_token Open = false
is_single_token Close = false
is_single_token Other = false

-- the first child of a list of roles; the empty list has none, and its value serves only to make
-- the definition total
abbrev pub first_child : Division → List Role → Child
first_child d [] = trivia_child
first_child d (f ∷ fs) =
    if is_trivia f then trivia_child
    else if is_single_token f then single_token
    else statement d (f ∷ fs)

-- The children of a list whose first `inside` roles belong to a child that began before it.
abbrev pub children_from : ℕ → Division → List Role → List Child
children_from inside d [] = []
children_from zero d (f ∷ fs) = first_child d (f ∷ fs)
    ∷ children_from ((first_child d (f ∷ fs)).tokens - 1) d fs
children_from (suc inside) d (f ∷ fs) = children_from inside d fs

-- the root's children
abbrev pub children : Division → List Role → List Child
children d fs = children_from 0 d fs

-- how many elements of a list belong to its first child
abbrev pub first_child_len : {A : Type 0} → (A → Role) → Division → List A → ℕ
first_child_len role_of d xs = (first_child d (map role_of xs)).tokens

-- The sublist of each child, of a list whose first `inside` elements belong to a child that began
-- before it.
abbrev pub parts_from : {A : Type 0} → (A → Role) → ℕ → Division → List A → List (List A)
parts_from role_of inside d [] = []
parts_from role_of zero d (x ∷ xs) = take (first_child_len role_of d (x ∷ xs)) (x ∷ xs)
    ∷ parts_from role_of (first_child_len role_of d (x ∷ xs) - 1) d xs
parts_from role_of (suc inside) d (x ∷ xs) = parts_from role_of inside d xs

-- the sublist of each child of the root
abbrev pub parts : {A : Type 0} → (A → Role) → Division → List A → List (List A)
parts role_of d xs = parts_from role_of 0 d xs
