-- Lawful steps: a tree whose tokens have given kinds.
use Rattle.std.specs.Prelude.{◌≡◌, ℕ, zero, suc, ◌==◌, ◌&&◌, nat_le, Bool, true, false, IsTrue, List, [], ◌∷◌}
use Rattle.squawk_events.specs.declared.steps.Step.{Step}
use Rattle.squawk_events.specs.declared.steps.Step.TheVariants.{Enter, Token, Exit, Error}

-- whether d open nodes are all closed at the end of the steps, and not before
abbrev pub closes : ℕ → List Step → Bool
closes d [] = d == 0
closes zero (x ∷ xs) = false
closes (suc d) (Enter kind ∷ xs) = closes (suc (suc d)) xs
closes (suc d) (Token kind ∷ xs) = closes (suc d) xs
closes (suc d) (Exit ∷ xs) = closes d xs
closes (suc d) (Error number ∷ xs) = closes (suc d) xs

-- whether the first step is an Enter and the last one its Exit
abbrev pub is_balanced : List Step → Bool
is_balanced (Enter kind ∷ xs) = closes 1 xs
is_balanced xs = false

-- the kinds of the tokens, in order
abbrev pub token_kinds : List Step → List ℕ
token_kinds [] = []
token_kinds (Enter kind ∷ xs) = token_kinds xs
token_kinds (Token kind ∷ xs) = kind ∷ token_kinds xs
token_kinds (Exit ∷ xs) = token_kinds xs
token_kinds (Error number ∷ xs) = token_kinds xs

-- whether the number of each error is from 1 to 10
abbrev pub has_lawful_numbers : List Step → Bool
has_lawful_numbers [] = true
has_lawful_numbers (Enter kind ∷ xs) = has_lawful_numbers xs
has_lawful_numbers (Token kind ∷ xs) = has_lawful_numbers xs
has_lawful_numbers (Exit ∷ xs) = has_lawful_numbers xs
has_lawful_numbers (Error number ∷ xs) = nat_le 1 number
    && (nat_le number 10 && has_lawful_numbers xs)

-- the steps are a tree, its tokens have these kinds, and its errors have messages
pub record IsLawful (kinds : List ℕ) (steps : List Step) : Type 0 where
  pub balanced : IsTrue (is_balanced steps)
  pub tokens : token_kinds steps ≡ kinds
  pub numbers : IsTrue (has_lawful_numbers steps)
