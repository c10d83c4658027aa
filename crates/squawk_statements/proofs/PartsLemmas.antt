-- The parts of a list are its first child and the parts of the rest.
use Rattle.std.proofs.Common.{◌≡◌, ℕ, zero, suc, ◌+◌, ◌-◌, append_assoc, ◌≤◌, ◌<◌, List, [], ◌∷◌, ◌++◌, length, take, drop, map, ap, refl, sym, ◌∙◌, arith}
use Rattle.std.proofs.lemmas.List.{length-drop, take_rest, drop-drop}
use Rattle.squawk_kinds.specs.Role.{Role}
use Rattle.squawk_kinds.specs.Role.{role}
use Rattle.squawk_events.specs.declared.steps.Step.{Step}
use Rattle.squawk_statements.specs.Plain.{child_steps, children_by}
use Rattle.squawk_statements.specs.Children.{parts_from, parts, first_child, first_child_len}
use Rattle.squawk_statements.specs.PlainIsLawful.{first_child_some, suc_minus_one}
use Rattle.squawk_statements.specs.declared.division.Division.{Division}

-- the parts after those elements that belong to an earlier child
pub parts_from_skip : {A : Type 0} (role_of : A → Role) (n : ℕ) (d : Division) (xs : List A)
    → parts_from role_of n d xs ≡ parts_from role_of 0 d (drop n xs)
parts_from_skip role_of zero d xs = refl
parts_from_skip role_of (suc n) d [] = refl
parts_from_skip role_of (suc n) d (x ∷ xs) = parts_from_skip role_of n d xs

-- the parts of a list that is not empty are its first child and the parts of the rest
pub parts_step : {A : Type 0} (role_of : A → Role) (d : Division) (xs : List A) (n : ℕ)
    → 0 < length xs → n ≡ (first_child d (map role_of xs)).tokens
    → parts role_of d xs ≡ take n xs ∷ parts role_of d (drop n xs)
parts_step role_of d [] n some is = absurd (omega arith)
parts_step role_of d (x ∷ xs) n some is =
    by n is (first_child_some d (role_of x) (map role_of xs))
  where
    by : (n : ℕ) → n ≡ first_child_len role_of d (x ∷ xs)
        → 1 ≤ first_child_len role_of d (x ∷ xs)
        → parts role_of d (x ∷ xs) ≡ take n (x ∷ xs) ∷ parts role_of d (drop n (x ∷ xs))
    by zero is some = absurd (omega (arith, is))
    by (suc n) is some =
        ap (λ m. take m (x ∷ xs) ∷ parts_from role_of (m - 1) d xs) (sym is)
        ∙ ap (λ m. take (suc n) (x ∷ xs) ∷ parts_from role_of m d xs) (suc_minus_one n)
        ∙ ap (λ rest. take (suc n) (x ∷ xs) ∷ rest) (parts_from_skip role_of n d xs)

-- one more child's steps
pub steps_more : (before after start : List Step) (d : Division) (kinds rest part : List ℕ)
    (at n : ℕ) → at < length kinds
    → rest ≡ take (length kinds - at) (drop at kinds) → n ≡ (first_child d (map role rest)).tokens
    → part ≡ take (at + n - at) (drop at kinds)
    → before ++ children_by (child_steps d) (parts role d (drop at kinds)) ≡ start
    → after ≡ before ++ child_steps d part
    → after ++ children_by (child_steps d) (parts role d (drop (at + n) kinds)) ≡ start
steps_more before after start d kinds rest part at n some rest_is n_is part_is so_far more =
    let whole : rest ≡ drop at kinds = rest_is ∙ take_rest kinds at in
    let size : length (drop at kinds) ≡ length kinds - at = length-drop at kinds in
    let count : n ≡ (first_child d (map role (drop at kinds))).tokens = rw whole at n_is in
    let step = parts_step role d (drop at kinds) n (omega arith) count in
    let here : part ≡ take n (drop at kinds) = part_is
    ∙ ap (λ m. take m (drop at kinds)) (omega arith) in
    let there : drop n (drop at kinds) ≡ drop (at + n) kinds = drop-drop n at kinds in
    rw more (append_assoc before (child_steps d part)
    (children_by (child_steps d) (parts role d (drop (at + n) kinds)))
    ∙ rw (here, ← there) (ap (λ ps. before ++ children_by (child_steps d) ps) (sym step)) ∙ so_far)
