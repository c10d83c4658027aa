-- The counts of Enter and Exit steps: over appended steps they add up, and they are at most the
-- number of steps.
use Rattle.std.proofs.Common.{◌≡◌, ◌+◌, ◌≤◌, List, [], ◌∷◌, ◌++◌, length, arith}
use Rattle.squawk_events.specs.Depth.{enters_of, exits_of}
use Rattle.squawk_events.specs.declared.steps.Step.{Step}
use Rattle.squawk_events.specs.declared.steps.Step.TheVariants.{Enter, Token, Exit, Error}

pub enters_of_append : (xs ys : List Step) → enters_of (xs ++ ys) ≡ enters_of xs + enters_of ys
enters_of_append [] ys = omega arith
enters_of_append (Enter kind ∷ xs) ys = omega (arith, enters_of_append xs ys)
enters_of_append (Token kind ∷ xs) ys = enters_of_append xs ys
enters_of_append (Exit ∷ xs) ys = enters_of_append xs ys
enters_of_append (Error number ∷ xs) ys = enters_of_append xs ys

pub exits_of_append : (xs ys : List Step) → exits_of (xs ++ ys) ≡ exits_of xs + exits_of ys
exits_of_append [] ys = omega arith
exits_of_append (Enter kind ∷ xs) ys = exits_of_append xs ys
exits_of_append (Token kind ∷ xs) ys = exits_of_append xs ys
exits_of_append (Exit ∷ xs) ys = omega (arith, exits_of_append xs ys)
exits_of_append (Error number ∷ xs) ys = exits_of_append xs ys

pub enters_of_le : (xs : List Step) → enters_of xs ≤ length xs
enters_of_le [] = omega arith
enters_of_le (Enter kind ∷ xs) = omega (arith, enters_of_le xs)
enters_of_le (Token kind ∷ xs) = omega (arith, enters_of_le xs)
enters_of_le (Exit ∷ xs) = omega (arith, enters_of_le xs)
enters_of_le (Error number ∷ xs) = omega (arith, enters_of_le xs)
