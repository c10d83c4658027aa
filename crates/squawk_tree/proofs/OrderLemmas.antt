-- No range of a tree ends before its start.
use Rattle.std.proofs.Common.{◌≡◌, ℕ, zero, suc, ◌<◌, ◌≤◌, nat_eq, nat_lt, true, ◌&&◌, List, [], ◌∷◌, subst, arith}
use Rattle.std.proofs.lemmas.Bool.{and_parts, eqb-true, ltb-true}
use Rattle.std.specs.Prelude.{⊤, Some, IfSome, slice_get}
use Rattle.squawk_events.specs.declared.steps.StrStep.{StrStep}
use Rattle.squawk_events.specs.declared.steps.StrStep.TheVariants.{Enter, Token, Exit, Error}
use Rattle.squawk_tree.specs.Ranges.{node_end, first_offset, other_offsets, ranges, ranges_from}
use Rattle.squawk_tree.specs.Steps.{leaves, tiles}

-- the first of ranges that tile begins where they do
record FirstTile (at : ℕ) (r : ℕ × ℕ) (rs : List (ℕ × ℕ)) (end : ℕ) : Type 0 where
  starts : r.0 ≡ at
  some : at < r.1
  rest : tiles r.1 rs end ≡ true

first_tile : (at : ℕ) (r : ℕ × ℕ) (rs : List (ℕ × ℕ)) (end : ℕ) → tiles at (r ∷ rs) end ≡ true
    → FirstTile at r rs end
first_tile at r rs end h =
    let a = and_parts (nat_eq r.0 at) (nat_lt at r.1 && tiles r.1 rs end) h in
    let b = and_parts (nat_lt at r.1) (tiles r.1 rs end) a.1 in
    record { starts = eqb-true r.0 at a.0; some = ltb-true at r.1 b.0; rest = b.1 }

-- a node does not end before it begins
node_end_le : (d at end : ℕ) (xs : List StrStep) → tiles at (leaves xs) end ≡ true
    → at ≤ node_end d at xs
node_end_le d at end [] h = omega arith
node_end_le d at end (Token kind start stop ∷ xs) h =
    let first = first_tile at (start, stop) (leaves xs) end h in
    let some = first.some in
    let rest = node_end_le d stop end xs first.rest in
    omega arith
node_end_le d at end (Enter kind ∷ xs) h = node_end_le (suc d) at end xs h
node_end_le zero at end (Exit ∷ xs) h = omega arith
node_end_le (suc d) at end (Exit ∷ xs) h = node_end_le d at end xs h
node_end_le d at end (Error number offset ∷ xs) h = node_end_le d at end xs h

-- offsets of at most `at`
AreUpTo : ℕ → List ℕ → Type 0
AreUpTo at [] = ⊤
AreUpTo at (p ∷ ps) = (p ≤ at) × AreUpTo at ps

-- bounds of the offsets at which open nodes begin
up_to_le : (m n : ℕ) (ps : List ℕ) → m ≤ n → AreUpTo m ps → AreUpTo n ps
unfolding AreUpTo
up_to_le m n [] le h = tt
up_to_le m n (p ∷ ps) le h = (let first : p ≤ m = h.0 in omega arith, up_to_le m n ps le h.1)

first_offset_le : (at : ℕ) (ps : List ℕ) → AreUpTo at ps → first_offset ps ≤ at
unfolding AreUpTo
first_offset_le at [] h = omega arith
first_offset_le at (p ∷ ps) h = h.0

other_offsets_up_to : (at : ℕ) (ps : List ℕ) → AreUpTo at ps → AreUpTo at (other_offsets ps)
unfolding AreUpTo
other_offsets_up_to at [] h = tt
other_offsets_up_to at (p ∷ ps) h = h.1

-- the range does not end before its start
abbrev pub IsOrdered : ℕ × ℕ → Type 0
IsOrdered r = r.0 ≤ r.1

-- no range ends before its start: from an offset, and of a whole tree
ordered_from : (open_nodes : List ℕ) (at end : ℕ) (xs : List StrStep) (i : ℕ)
    → tiles at (leaves xs) end ≡ true → AreUpTo at open_nodes
    → IfSome (slice_get (ranges_from open_nodes at xs) i) IsOrdered
unfolding AreUpTo
ordered_from open_nodes at end [] i h up = tt
ordered_from open_nodes at end (Enter kind ∷ xs) zero h up = node_end_le 0 at end xs h
ordered_from open_nodes at end (Enter kind ∷ xs) (suc i) h up =
    ordered_from (at ∷ open_nodes) at end xs i h (omega arith, up)
ordered_from open_nodes at end (Token kind start stop ∷ xs) zero h up =
    let first = first_tile at (start, stop) (leaves xs) end h in
    let starts = first.starts in
    let some = first.some in
    omega arith
ordered_from open_nodes at end (Token kind start stop ∷ xs) (suc i) h up =
    let first = first_tile at (start, stop) (leaves xs) end h in
    let some = first.some in
    ordered_from open_nodes stop end xs i first.rest (up_to_le at stop open_nodes (omega arith) up)
ordered_from open_nodes at end (Exit ∷ xs) zero h up = first_offset_le at open_nodes up
ordered_from open_nodes at end (Exit ∷ xs) (suc i) h up =
    ordered_from (other_offsets open_nodes) at end xs i h (other_offsets_up_to at open_nodes up)
ordered_from open_nodes at end (Error number offset ∷ xs) zero h up = omega arith
ordered_from open_nodes at end (Error number offset ∷ xs) (suc i) h up =
    ordered_from open_nodes at end xs i h up

pub ordered : (steps : List StrStep) (end i : ℕ) (r : ℕ × ℕ) → tiles 0 (leaves steps) end ≡ true
    → slice_get (ranges steps) i ≡ Some r → r.0 ≤ r.1
unfolding AreUpTo
ordered steps end i r h is =
    subst (λ o. IfSome o IsOrdered) is (ordered_from [] 0 end steps i h tt)
