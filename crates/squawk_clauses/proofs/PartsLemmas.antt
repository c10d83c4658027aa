-- The parts of a list are its first child and the parts of the rest.
use Rattle.std.proofs.Common.{◌≡◌, ℕ, zero, suc, ◌+◌, ◌-◌, append_assoc, ◌≤◌, ◌<◌, List, [], ◌∷◌, ◌++◌, length, take, drop, map, ap, refl, sym, ◌∙◌, arith}
use Rattle.std.proofs.lemmas.List.{length-drop, take_rest, drop-drop}
use Rattle.squawk_kinds.specs.Role.{role}
use Rattle.squawk_events.specs.declared.steps.Step.{Step}
use Rattle.squawk_statements.specs.Children.{parts_from, parts, first_child, first_child_len}
use Rattle.squawk_statements.specs.Plain.{children_by}
use Rattle.squawk_statements.specs.PlainIsLawful.{first_child_some, suc_minus_one}
use Rattle.squawk_statements.specs.First.{child_node, first_shape}
use Rattle.squawk_statements.specs.declared.division.Division.{Division}
use Rattle.squawk_statements.specs.declared.first.ChildShape.{ChildShape}
use Rattle.squawk_clauses.specs.Clauses.{clause_child_steps}

-- the parts after those elements that belong to an earlier child
parts_from_skip : (n : ℕ) (d : Division) (kinds : List ℕ)
    → parts_from role n d kinds ≡ parts_from role 0 d (drop n kinds)
parts_from_skip zero d kinds = refl
parts_from_skip (suc n) d [] = refl
parts_from_skip (suc n) d (k ∷ ks) = parts_from_skip n d ks

-- the parts of a list that is not empty are its first child and the parts of the rest
parts_step : (d : Division) (kinds : List ℕ) (n : ℕ) → 0 < length kinds
    → n ≡ (first_child d (map role kinds)).tokens
    → parts role d kinds ≡ take n kinds ∷ parts role d (drop n kinds)
parts_step d [] n some is = absurd (omega arith)
parts_step d (k ∷ ks) n some is = by n is (first_child_some d (role k) (map role ks))
  where
    by : (n : ℕ) → n ≡ first_child_len role d (k ∷ ks)
        → 1 ≤ first_child_len role d (k ∷ ks)
        → parts role d (k ∷ ks) ≡ take n (k ∷ ks) ∷ parts role d (drop n (k ∷ ks))
    by zero is some = absurd (omega (arith, is))
    by (suc n) is some =
        ap (λ m. take m (k ∷ ks) ∷ parts_from role (m - 1) d ks) (sym is)
        ∙ ap (λ m. take (suc n) (k ∷ ks) ∷ parts_from role m d ks) (suc_minus_one n)
        ∙ ap (λ rest. take (suc n) (k ∷ ks) ∷ rest) (parts_from_skip n d ks)

-- one more child's steps
pub steps_more : (before after start : List Step) (d : Division) (kinds rest part : List ℕ)
    (at : ℕ) (shape : ChildShape) → at < length kinds
    → rest ≡ take (length kinds - at) (drop at kinds) → shape ≡ first_shape d rest
    → part ≡ take (at + shape.tokens - at) (drop at kinds)
    → before ++ children_by (clause_child_steps d) (parts role d (drop at kinds)) ≡ start
    → after ≡ before ++ clause_child_steps d part
    → after ++ children_by (clause_child_steps d) (parts role d (drop (at + shape.tokens) kinds))
    ≡ start
steps_more before after start d kinds rest part at shape some rest_is shape_is part_is so_far more =
    let n = shape.tokens in
    let n_is : n ≡ (first_child d (map role rest)).tokens =
    ap (λ (s : ChildShape). s.tokens) shape_is in
    let whole : rest ≡ drop at kinds = rest_is ∙ take_rest kinds at in
    let size : length (drop at kinds) ≡ length kinds - at = length-drop at kinds in
    let count : n ≡ (first_child d (map role (drop at kinds))).tokens = rw whole at n_is in
    let step = parts_step d (drop at kinds) n (omega arith) count in
    let here : part ≡ take n (drop at kinds) = part_is
    ∙ ap (λ m. take m (drop at kinds)) (omega arith) in
    let there : drop n (drop at kinds) ≡ drop (at + n) kinds = drop-drop n at kinds in
    rw more (append_assoc before (clause_child_steps d part)
    (children_by (clause_child_steps d) (parts role d (drop (at + n) kinds)))
    ∙ rw (here, ← there) (ap (λ ps. before ++ children_by (clause_child_steps d) ps) (sym step))
    ∙ so_far)

-- the node of the first child, by its own kinds
pub node_of_part : (d : Division) (kinds rest : List ℕ) (at : ℕ) (shape : ChildShape)
    → rest ≡ take (length kinds - at) (drop at kinds) → shape ≡ first_shape d rest
    → shape.node ≡ child_node (take (at + shape.tokens - at) (drop at kinds))
node_of_part d kinds rest at shape rest_is shape_is =
    let whole : rest ≡ drop at kinds = rest_is ∙ take_rest kinds at in
    let count : (first_child d (map role rest)).tokens ≡ at + shape.tokens - at =
    sym (ap (λ (s : ChildShape). s.tokens) shape_is) ∙ omega arith in
    ap (λ (s : ChildShape). s.node) shape_is
    ∙ ap (λ n. child_node (take n rest)) count
    ∙ ap (λ ks. child_node (take (at + shape.tokens - at) ks)) whole
