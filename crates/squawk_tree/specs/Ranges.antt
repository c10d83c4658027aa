-- The byte range of each step of a tree: of a token its own, of an `Enter` and its `Exit` that of
-- the node. A node begins at the end of the last token before its `Enter`, and ends at the end of
-- the last token before its `Exit`; before the first token that offset is 0.
use Rattle.std.specs.Prelude.{ℕ, zero, suc, List, [], ◌∷◌}
use Rattle.squawk_events.specs.declared.steps.StrStep.{StrStep}
use Rattle.squawk_events.specs.declared.steps.StrStep.TheVariants.{Enter, Token, Exit, Error}

-- the end of a node that is open at the offset `at` with d nodes open inside it
abbrev pub node_end : (d at : ℕ) → List StrStep → ℕ
node_end d at [] = at
node_end d at (Token kind start end ∷ xs) = node_end d end xs
node_end d at (Enter kind ∷ xs) = node_end (suc d) at xs
node_end zero at (Exit ∷ xs) = at
node_end (suc d) at (Exit ∷ xs) = node_end d at xs
node_end d at (Error number offset ∷ xs) = node_end d at xs

-- the first of these offsets, or 0
abbrev pub first_offset : List ℕ → ℕ
first_offset [] = 0
first_offset (p ∷ ps) = p

-- all but the first
abbrev pub other_offsets : List ℕ → List ℕ
other_offsets [] = []
other_offsets (p ∷ ps) = ps

-- the ranges of steps from the offset `at` on, where the open nodes begin at these offsets, the
-- innermost first
abbrev pub ranges_from : (open_nodes : List ℕ) (at : ℕ) → List StrStep → List (ℕ × ℕ)
ranges_from open_nodes at [] = []
ranges_from open_nodes at (Enter kind ∷ xs) = (at, node_end 0 at xs)
    ∷ ranges_from (at ∷ open_nodes) at xs
ranges_from open_nodes at (Token kind start end ∷ xs) = (start, end) ∷ ranges_from open_nodes end xs
ranges_from open_nodes at (Exit ∷ xs) = (first_offset open_nodes, at)
    ∷ ranges_from (other_offsets open_nodes) at xs
ranges_from open_nodes at (Error number offset ∷ xs) = (at, at) ∷ ranges_from open_nodes at xs

-- the ranges of all steps
abbrev pub ranges : List StrStep → List (ℕ × ℕ)
ranges steps = ranges_from [] 0 steps
