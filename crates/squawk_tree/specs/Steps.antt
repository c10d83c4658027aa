-- A tree as a list of steps, and what is read off it.
use Rattle.std.specs.Prelude.{ℕ, zero, suc, ◌+◌, ◌==◌, ◌&&◌, nat_lt, Bool, true, false, List, [], ◌∷◌, if◌then◌else◌}
use Rattle.squawk_events.specs.declared.steps.StrStep.{StrStep}
use Rattle.squawk_events.specs.declared.steps.StrStep.TheVariants.{Enter, Token, Exit, Error}
use Rattle.squawk_statements.specs.Children.{Child}

-- with d nodes open before these steps, none is open after the last, and one at least before that
abbrev pub closes : ℕ → List StrStep → Bool
closes d [] = d == 0
closes zero (x ∷ xs) = false
closes (suc d) (Enter kind ∷ xs) = closes (suc (suc d)) xs
closes (suc d) (Token kind start end ∷ xs) = closes (suc d) xs
closes (suc d) (Exit ∷ xs) = closes d xs
closes (suc d) (Error number at ∷ xs) = closes (suc d) xs

-- the first step is an `Enter`, and the last is its `Exit`
abbrev pub is_balanced : List StrStep → Bool
is_balanced (Enter kind ∷ xs) = closes 1 xs
is_balanced xs = false

-- no step is an `Error`
abbrev pub has_no_errors : List StrStep → Bool
has_no_errors [] = true
has_no_errors (Enter kind ∷ xs) = has_no_errors xs
has_no_errors (Token kind start end ∷ xs) = has_no_errors xs
has_no_errors (Exit ∷ xs) = has_no_errors xs
has_no_errors (Error number at ∷ xs) = false

-- the steps other than `Error` steps
abbrev pub without_errors : List StrStep → List StrStep
without_errors [] = []
without_errors (Enter kind ∷ xs) = Enter kind ∷ without_errors xs
without_errors (Token kind start end ∷ xs) = Token kind start end ∷ without_errors xs
without_errors (Exit ∷ xs) = Exit ∷ without_errors xs
without_errors (Error number at ∷ xs) = without_errors xs

-- the `Token` steps
abbrev pub only_tokens : List StrStep → List StrStep
only_tokens [] = []
only_tokens (Enter kind ∷ xs) = only_tokens xs
only_tokens (Token kind start end ∷ xs) = Token kind start end ∷ only_tokens xs
only_tokens (Exit ∷ xs) = only_tokens xs
only_tokens (Error number at ∷ xs) = only_tokens xs

-- the ranges of the tokens
abbrev pub leaves : List StrStep → List (ℕ × ℕ)
leaves [] = []
leaves (Enter kind ∷ xs) = leaves xs
leaves (Token kind start end ∷ xs) = (start, end) ∷ leaves xs
leaves (Exit ∷ xs) = leaves xs
leaves (Error number at ∷ xs) = leaves xs

-- nonempty ranges that follow one another from `at` to `end`
abbrev pub tiles : ℕ → List (ℕ × ℕ) → ℕ → Bool
tiles at [] end = at == end
tiles at (r ∷ rs) end = r.0 == at && (nat_lt at r.1 && tiles r.1 rs end)

-- the ranges from `at` to the first end, and from each end to the next
abbrev pub ranges_through : ℕ → List ℕ → List (ℕ × ℕ)
ranges_through at [] = []
ranges_through at (end ∷ ends) = (at, end) ∷ ranges_through end ends

-- a child of the root: a leaf, or a node with its number of tokens
pub data RootChild : Type 0 where
  Leaf : RootChild
  Node : (tokens : ℕ) → RootChild

-- the root's children in these steps, where d nodes are open inside the root and the outermost of
-- them has n tokens before these steps
abbrev pub root_children_from : (d n : ℕ) → List StrStep → List RootChild
root_children_from d n [] = []
root_children_from zero n (Token kind start end ∷ xs) = Leaf ∷ root_children_from 0 0 xs
root_children_from zero n (Enter kind ∷ xs) = root_children_from 1 0 xs
root_children_from zero n (Exit ∷ xs) = []
root_children_from zero n (Error number at ∷ xs) = root_children_from 0 0 xs
root_children_from (suc d) n (Token kind start end ∷ xs) = root_children_from (suc d) (n + 1) xs
root_children_from (suc d) n (Enter kind ∷ xs) = root_children_from (suc (suc d)) n xs
root_children_from (suc zero) n (Exit ∷ xs) = Node n ∷ root_children_from 0 0 xs
root_children_from (suc (suc d)) n (Exit ∷ xs) = root_children_from (suc d) n xs
root_children_from (suc d) n (Error number at ∷ xs) = root_children_from (suc d) n xs

-- the children of the root: what is directly inside the first `Enter`
abbrev pub root_children : List StrStep → List RootChild
root_children (Enter kind ∷ xs) = root_children_from 0 0 xs
root_children xs = []

-- a child of the division as a child of the root
abbrev pub root_child : Child → RootChild
root_child child = if child.is_node then Node child.tokens else Leaf
