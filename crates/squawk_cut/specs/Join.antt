-- The tree of root children in order.
use Rattle.std.specs.Prelude.{ℕ, ◌+◌, ◌&&◌, nat_le, Bool, true, List, [], ◌∷◌, map}
use Rattle.squawk_events.specs.declared.steps.StrStep.{StrStep}
use Rattle.squawk_events.specs.declared.steps.StrStep.TheVariants.{Enter, Token, Exit, Error}
use Rattle.squawk_cut.specs.ChildValue.{ChildValue, child_tree}
use Rattle.squawk_tree.specs.Join.{join}
use Rattle.squawk_tree.specs.Tree.{Tree}

-- the length of children in bytes
abbrev pub child_bytes : List ChildValue → ℕ
child_bytes [] = 0
child_bytes (c ∷ cs) = c.bytes + child_bytes cs

-- the tree of these children, where the offsets of each are shifted by the bytes before it
abbrev pub join_of : List ChildValue → Tree
join_of cs = join (map child_tree cs)

-- ---- what contracts of private functions cite

-- whether the offsets of a step are at most `len`
abbrev pub step_within : ℕ → StrStep → Bool
step_within len (Enter kind) = true
step_within len (Token kind start end) = nat_le start len && nat_le end len
step_within len Exit = true
step_within len (Error number at) = nat_le at len

-- whether those of all steps are
abbrev pub steps_within : ℕ → List StrStep → Bool
steps_within len [] = true
steps_within len (x ∷ xs) = step_within len x && steps_within len xs
