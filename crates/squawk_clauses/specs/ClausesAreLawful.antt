-- The steps of the clause grammar are lawful: balanced, with these kinds as their tokens.
use Rattle.std.specs.Prelude.{◌≡◌, ℕ, zero, suc, ◌==◌, ◌&&◌, ◌||◌, nat_le, Bool, true, false, IsTrue, List, [], ◌∷◌, ◌++◌, Option, Some, None, is_some, refl, if◌then◌else◌}
use Rattle.std.proofs.Common.{ap, sym, ◌∙◌, append_assoc}
use Rattle.squawk_events.specs.Kinds.{has_no_trivia}
use Rattle.squawk_events.specs.Lawful.{IsLawful, closes, token_kinds, has_lawful_numbers}
use Rattle.squawk_events.specs.declared.steps.Step.{Step}
use Rattle.squawk_events.specs.declared.steps.Step.TheVariants.{Enter, Token, Exit, Error}
use Rattle.squawk_kinds.specs.Role.{Role, role, Trivia, Semicolon, Terminator, Command, Open, Close, Other}
use Rattle.squawk_kinds.specs.declared.numbers.TheConstants.Number as kind
use Rattle.squawk_statements.specs.Children.{parts}
use Rattle.squawk_statements.specs.Plain.{node_of, exits, groups_open_after, child_steps, children_by}
use Rattle.squawk_statements.specs.PlainIsLawful.{raised, steps_by, closes_exits, closes_kind, closes_child, plain_lawful}
use Rattle.squawk_statements.specs.declared.division.Division.{Division}
use Rattle.squawk_statements.specs.declared.division.Division.TheVariants.{Flat, Grouped}
use Rattle.squawk_clauses.specs.Clauses.{clauses, clause_of, clause_child_steps, clause_end, clause_start, in_clause_after, is_clause_node, select_child_steps, select_kind_steps, select_steps}
use Rattle.squawk_clauses.specs.PlainWithoutClauses.{select_steps_by, in_clause_by, plain_without_clauses}
use Rattle.squawk_clauses.specs.Without.{without_clauses_from}

-- ---- balance: each clause that is opened is closed

-- one more open node if a clause is open
abbrev depth_with_clause : Bool → ℕ → ℕ
depth_with_clause true m = suc m
depth_with_clause false m = m

closes_end : (in_clause : Bool) (m : ℕ) (xs : List Step)
    → closes (suc (depth_with_clause in_clause m)) (clause_end in_clause ++ xs) ≡ closes (suc m) xs
closes_end true m xs = refl
closes_end false m xs = refl

closes_start : (n m : ℕ) (in_clause : Bool) (next_clause : Option ℕ) (xs : List Step)
    → closes (suc (depth_with_clause in_clause m)) (clause_start in_clause next_clause ++ xs)
    ≡ closes (suc (depth_with_clause (in_clause || is_some next_clause) m)) xs
closes_start n m true None xs = refl
closes_start n m false None xs = refl
closes_start n m true (Some node) xs = refl
closes_start n m false (Some node) xs = refl

closes_start_in : (n m kind : ℕ) (in_clause : Bool) (xs : List Step)
    → closes (raised n (suc (depth_with_clause in_clause m)))
    (clause_start in_clause (clause_of n kind) ++ xs)
    ≡ closes (raised n (suc (depth_with_clause (in_clause || is_some (clause_of n kind)) m))) xs
closes_start_in zero m kind in_clause xs =
    closes_start 0 m in_clause (clause_of 0 kind) xs
closes_start_in (suc n) m kind true xs = refl
closes_start_in (suc n) m kind false xs = refl

closes_ending : (n m kind : ℕ) (in_clause : Bool) (xs : List Step)
    → closes (raised n (suc (depth_with_clause in_clause m)))
    ((exits n ++ clause_end in_clause ++ Token kind ∷ []) ++ xs) ≡ closes (suc m) xs
closes_ending n m kind in_clause xs =
    ap (closes (raised n (suc (depth_with_clause in_clause m))))
    (append_assoc (exits n ++ clause_end in_clause) (Token kind ∷ []) xs
    ∙ append_assoc (exits n) (clause_end in_clause) (Token kind ∷ xs))
    ∙ closes_exits n (depth_with_clause in_clause m) (clause_end in_clause ++ Token kind ∷ xs)
    ∙ closes_end in_clause m (Token kind ∷ xs)

closes_other : (d : Division) (n m kind : ℕ) (f : Role) (in_clause : Bool) (xs : List Step)
    → closes (raised n (suc (depth_with_clause in_clause m)))
    ((clause_start in_clause (clause_of n kind) ++ steps_by d n kind f) ++ xs)
    ≡ closes (raised (groups_open_after d n f) (suc (depth_with_clause (in_clause
    || is_some (clause_of n kind)) m))) xs
closes_other d n m kind f in_clause xs =
    ap (closes (raised n (suc (depth_with_clause in_clause m))))
    (append_assoc (clause_start in_clause (clause_of n kind)) (steps_by d n kind f) xs)
    ∙ closes_start_in n m kind in_clause (steps_by d n kind f ++ xs)
    ∙ closes_kind d n (depth_with_clause (in_clause || is_some (clause_of n kind)) m) kind f xs

closes_select_kind : (d : Division) (n m kind : ℕ) (f : Role) (in_clause : Bool) (xs : List Step)
    → closes (raised n (suc (depth_with_clause in_clause m)))
    (select_steps_by d in_clause n kind f ++ xs)
    ≡ closes (raised (groups_open_after d n f)
    (suc (depth_with_clause (in_clause_by d in_clause n kind f) m))) xs
closes_select_kind d n m kind Trivia b xs = closes_other d n m kind Trivia b xs
closes_select_kind Flat n m kind Semicolon b xs = closes_ending n m kind b xs
closes_select_kind Grouped zero m kind Semicolon b xs = closes_ending 0 m kind b xs
closes_select_kind Grouped (suc n) m kind Semicolon b xs =
    closes_other Grouped (suc n) m kind Semicolon b xs
closes_select_kind d n m kind Terminator b xs = closes_ending n m kind b xs
closes_select_kind d n m kind Command b xs = closes_other d n m kind Command b xs
closes_select_kind d n m kind Open b xs = closes_other d n m kind Open b xs
closes_select_kind d n m kind Close b xs = closes_other d n m kind Close b xs
closes_select_kind d n m kind Other b xs = closes_other d n m kind Other b xs

pub closes_select : (d : Division) (in_clause : Bool) (n m : ℕ) (kinds : List ℕ) (xs : List Step)
    → closes (raised n (suc (depth_with_clause in_clause m)))
    (select_steps d in_clause n kinds ++ xs) ≡ closes (suc m) xs
closes_select d in_clause n m [] xs =
    ap (closes (raised n (suc (depth_with_clause in_clause m))))
    (append_assoc (exits n) (clause_end in_clause) xs)
    ∙ closes_exits n (depth_with_clause in_clause m) (clause_end in_clause ++ xs)
    ∙ closes_end in_clause m xs
closes_select d in_clause n m (kind ∷ kinds) xs =
    let after = groups_open_after d n (role kind) in
    let in_after = in_clause_after d in_clause n kind in
    ap (closes (raised n (suc (depth_with_clause in_clause m))))
    (append_assoc (select_kind_steps d in_clause n kind) (select_steps d in_after after kinds) xs)
    ∙ closes_select_kind d n m kind (role kind) in_clause
    (select_steps d in_after after kinds ++ xs)
    ∙ closes_select d in_after after m kinds xs

closes_clause_child : (d : Division) (m : ℕ) (kinds : List ℕ) (xs : List Step)
    → closes (suc m) (clause_child_steps d kinds ++ xs) ≡ closes (suc m) xs
closes_clause_child d m kinds xs = by (node_of kinds == kind.SELECT)
  where
    by : (b : Bool) → closes (suc m) ((if b then select_child_steps d kinds
        else child_steps d kinds) ++ xs) ≡ closes (suc m) xs
    by true = ap (closes (suc (suc m))) (append_assoc (select_steps d false 0 kinds) (Exit ∷ []) xs)
        ∙ closes_select d false 0 (suc m) kinds (Exit ∷ xs)
    by false = closes_child d m kinds xs

closes_clause_children : (d : Division) (m : ℕ) (ps : List (List ℕ)) (xs : List Step)
    → closes (suc m) (children_by (clause_child_steps d) ps ++ xs) ≡ closes (suc m) xs
closes_clause_children d m [] xs = refl
closes_clause_children d m (p ∷ ps) xs =
    ap (closes (suc m))
    (append_assoc (clause_child_steps d p) (children_by (clause_child_steps d) ps) xs)
    ∙ closes_clause_child d m p (children_by (clause_child_steps d) ps ++ xs)
    ∙ closes_clause_children d m ps xs

-- ---- tokens and numbers: they are those of the steps without the nodes of clauses

-- one of two lists has a property that both have
either : (P : List Step → Type 0) (b : Bool) (xs ys : List Step) → P xs → P ys
    → P (if b then xs else ys)
either P true xs ys first second = first
either P false xs ys first second = second

pub tokens_without : (nodes : List Bool) (xs : List Step)
    → token_kinds (without_clauses_from nodes xs) ≡ token_kinds xs
tokens_without nodes [] = refl
tokens_without nodes (Enter kind ∷ xs) =
    either (λ ys. token_kinds ys ≡ token_kinds xs) (is_clause_node kind)
    (without_clauses_from (true ∷ nodes) xs) (Enter kind ∷ without_clauses_from (false ∷ nodes) xs)
    (tokens_without (true ∷ nodes) xs) (tokens_without (false ∷ nodes) xs)
tokens_without nodes (Token kind ∷ xs) = ap (λ ks. kind ∷ ks) (tokens_without nodes xs)
tokens_without [] (Exit ∷ xs) = tokens_without [] xs
tokens_without (true ∷ nodes) (Exit ∷ xs) = tokens_without nodes xs
tokens_without (false ∷ nodes) (Exit ∷ xs) = tokens_without nodes xs
tokens_without nodes (Error number ∷ xs) = tokens_without nodes xs

numbers_without : (nodes : List Bool) (xs : List Step)
    → has_lawful_numbers (without_clauses_from nodes xs) ≡ has_lawful_numbers xs
numbers_without nodes [] = refl
numbers_without nodes (Enter kind ∷ xs) =
    either (λ ys. has_lawful_numbers ys ≡ has_lawful_numbers xs) (is_clause_node kind)
    (without_clauses_from (true ∷ nodes) xs) (Enter kind ∷ without_clauses_from (false ∷ nodes) xs)
    (numbers_without (true ∷ nodes) xs) (numbers_without (false ∷ nodes) xs)
numbers_without nodes (Token kind ∷ xs) = numbers_without nodes xs
numbers_without [] (Exit ∷ xs) = numbers_without [] xs
numbers_without (true ∷ nodes) (Exit ∷ xs) = numbers_without nodes xs
numbers_without (false ∷ nodes) (Exit ∷ xs) = numbers_without nodes xs
numbers_without nodes (Error number ∷ xs) =
    ap (λ b. nat_le 1 number && (nat_le number 10 && b)) (numbers_without nodes xs)

-- the steps of kinds without trivia are lawful
pub clauses_lawful : (d : Division) (kinds : List ℕ) → IsTrue (has_no_trivia kinds)
    → IsLawful kinds (clauses d kinds)
clauses_lawful d kinds none =
    let law = plain_lawful d kinds none in record {
      balanced = closes_clause_children d 0 (parts role d kinds) (Exit ∷ []);
      tokens = sym (tokens_without [] (clauses d kinds))
          ∙ ap token_kinds (plain_without_clauses d kinds) ∙ law.tokens;
      numbers = sym (numbers_without [] (clauses d kinds))
          ∙ ap has_lawful_numbers (plain_without_clauses d kinds) ∙ law.numbers;
    }
