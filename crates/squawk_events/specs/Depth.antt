-- The number of nodes that steps leave open.
use Rattle.std.specs.Prelude.{◌≡◌, ℕ, ◌+◌, ◌-◌, List, [], ◌∷◌}
use Rattle.squawk_events.specs.declared.steps.Step.{Step}
use Rattle.squawk_events.specs.declared.steps.Step.TheVariants.{Enter, Token, Exit, Error}

-- the number of Enter steps
abbrev pub enters_of : List Step → ℕ
enters_of [] = 0
enters_of (Enter kind ∷ xs) = enters_of xs + 1
enters_of (Token kind ∷ xs) = enters_of xs
enters_of (Exit ∷ xs) = enters_of xs
enters_of (Error number ∷ xs) = enters_of xs

-- the number of Exit steps
abbrev pub exits_of : List Step → ℕ
exits_of [] = 0
exits_of (Enter kind ∷ xs) = exits_of xs
exits_of (Token kind ∷ xs) = exits_of xs
exits_of (Exit ∷ xs) = exits_of xs + 1
exits_of (Error number ∷ xs) = exits_of xs

-- the Enter steps less the Exit steps, of steps in which no node ends before it starts
abbrev pub depth_of : List Step → ℕ
depth_of steps = enters_of steps - exits_of steps

-- this is the depth of the steps, in which no more nodes end than start
abbrev pub IsDepth : ℕ → List Step → Type 0
IsDepth depth steps = (depth + exits_of steps ≡ enters_of steps) × (depth ≡ depth_of steps)
