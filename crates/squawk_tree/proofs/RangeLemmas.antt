-- There is a range for each step.
use Rattle.std.proofs.Common.{◌≡◌, ℕ, suc, List, [], ◌∷◌, length, ap, refl}
use Rattle.squawk_events.specs.declared.steps.StrStep.{StrStep}
use Rattle.squawk_events.specs.declared.steps.StrStep.TheVariants.{Enter, Token, Exit, Error}
use Rattle.squawk_tree.specs.Ranges.{ranges_from, other_offsets}

-- there are as many ranges as steps
pub length_ranges_from : (open_nodes : List ℕ) (at : ℕ) (steps : List StrStep)
    → length (ranges_from open_nodes at steps) ≡ length steps
length_ranges_from open_nodes at [] = refl
length_ranges_from open_nodes at (Enter kind ∷ xs) =
    ap suc (length_ranges_from (at ∷ open_nodes) at xs)
length_ranges_from open_nodes at (Token kind start end ∷ xs) =
    ap suc (length_ranges_from open_nodes end xs)
length_ranges_from open_nodes at (Exit ∷ xs) =
    ap suc (length_ranges_from (other_offsets open_nodes) at xs)
length_ranges_from open_nodes at (Error number offset ∷ xs) =
    ap suc (length_ranges_from open_nodes at xs)
