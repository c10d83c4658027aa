-- For a test alone: a grammar that makes no groups. Each statement is one node, which ends with its
-- semicolon; a last statement without one has an error at its end. The law of the trait `Grammar`
-- may cite definitions alone, so its proof stands here.
use Rattle.std.specs.Prelude.{◌≡◌, ℕ, Bool, true, false, cond, IsTrue, ◌==◌, List, [], ◌∷◌, refl}
use Rattle.std.proofs.Common.{ap}
use Rattle.squawk_events.specs.Kinds.{has_no_trivia}
use Rattle.squawk_events.specs.Lawful.{IsLawful, closes, token_kinds, has_lawful_numbers}
use Rattle.squawk_events.specs.declared.steps.Step.{Step}
use Rattle.squawk_events.specs.declared.steps.Step.TheVariants.{Enter, Token, Exit, Error}
use Rattle.squawk_kinds.specs.declared.numbers.TheConstants.Number.{ERROR, SEMICOLON, SOURCE_FILE}

-- the steps of kinds; the first argument says whether a statement is open before them
abbrev pub ungrouped_from : Bool → List ℕ → List Step
ungrouped_from false [] = Exit ∷ []
ungrouped_from true [] = Error 10 ∷ Exit ∷ Exit ∷ []
ungrouped_from false (k ∷ ks) = Enter ERROR ∷ Token k
    ∷ cond (k == SEMICOLON) (Exit ∷ ungrouped_from false ks) (ungrouped_from true ks)
ungrouped_from true (k ∷ ks) = Token k
    ∷ cond (k == SEMICOLON) (Exit ∷ ungrouped_from false ks) (ungrouped_from true ks)

-- the steps of a text
abbrev pub ungrouped : List ℕ → List Step
ungrouped kinds = Enter SOURCE_FILE ∷ ungrouped_from false kinds

-- the number of open nodes
abbrev pub ungrouped_depth : Bool → ℕ
ungrouped_depth false = 1
ungrouped_depth true = 2

-- one of two lists has a property that both have
either : (P : List Step → Type 0) (b : Bool) (xs ys : List Step) → P xs → P ys → P (cond b xs ys)
either P true xs ys first second = first
either P false xs ys first second = second

-- each node is closed
ungrouped_closes : (inside : Bool) (ks : List ℕ)
    → closes (ungrouped_depth inside) (ungrouped_from inside ks) ≡ true
ungrouped_closes false [] = refl
ungrouped_closes true [] = refl
ungrouped_closes false (k ∷ ks) =
    either (λ xs. closes 2 xs ≡ true) (k == SEMICOLON) (Exit ∷ ungrouped_from false ks)
    (ungrouped_from true ks) (ungrouped_closes false ks) (ungrouped_closes true ks)
ungrouped_closes true (k ∷ ks) =
    either (λ xs. closes 2 xs ≡ true) (k == SEMICOLON) (Exit ∷ ungrouped_from false ks)
    (ungrouped_from true ks) (ungrouped_closes false ks) (ungrouped_closes true ks)

-- the tokens have the kinds
ungrouped_tokens : (inside : Bool) (ks : List ℕ) → token_kinds (ungrouped_from inside ks) ≡ ks
ungrouped_tokens false [] = refl
ungrouped_tokens true [] = refl
ungrouped_tokens false (k ∷ ks) =
    ap (λ all. k ∷ all) (either (λ xs. token_kinds xs ≡ ks) (k == SEMICOLON)
    (Exit ∷ ungrouped_from false ks) (ungrouped_from true ks) (ungrouped_tokens false ks)
    (ungrouped_tokens true ks))
ungrouped_tokens true (k ∷ ks) =
    ap (λ all. k ∷ all) (either (λ xs. token_kinds xs ≡ ks) (k == SEMICOLON)
    (Exit ∷ ungrouped_from false ks) (ungrouped_from true ks) (ungrouped_tokens false ks)
    (ungrouped_tokens true ks))

-- the errors have a message
ungrouped_numbers : (inside : Bool) (ks : List ℕ)
    → has_lawful_numbers (ungrouped_from inside ks) ≡ true
ungrouped_numbers false [] = refl
ungrouped_numbers true [] = refl
ungrouped_numbers false (k ∷ ks) =
    either (λ xs. has_lawful_numbers xs ≡ true) (k == SEMICOLON) (Exit ∷ ungrouped_from false ks)
    (ungrouped_from true ks) (ungrouped_numbers false ks) (ungrouped_numbers true ks)
ungrouped_numbers true (k ∷ ks) =
    either (λ xs. has_lawful_numbers xs ≡ true) (k == SEMICOLON) (Exit ∷ ungrouped_from false ks)
    (ungrouped_from true ks) (ungrouped_numbers false ks) (ungrouped_numbers true ks)

-- the steps are lawful
pub ungrouped_lawful : (kinds : List ℕ) → IsTrue (has_no_trivia kinds)
    → IsLawful kinds (ungrouped kinds)
ungrouped_lawful kinds none = record {
  balanced = ungrouped_closes false kinds;
  tokens = ungrouped_tokens false kinds;
  numbers = ungrouped_numbers false kinds;
}
