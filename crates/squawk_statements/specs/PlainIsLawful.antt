-- The steps of a list of kinds are lawful: balanced, with these kinds as their tokens. A law of the
-- trait `Grammar` may cite definitions alone, so its proof stands here.
use Rattle.std.specs.Prelude.{◌≡◌, ◌≤◌, ◌-◌, ℕ, zero, suc, ◌==◌, Bool, true, false, IsTrue, List, [], ◌∷◌, ◌++◌, take, drop, map, Option, Some, None, option_map, refl, if◌then◌else◌}
use Rattle.std.proofs.Common.{ap, sym, ◌∙◌, append_assoc, arith}
use Rattle.std.proofs.lemmas.List.{take-append-drop, append-nil}
use Rattle.squawk_events.specs.Kinds.{has_no_trivia}
use Rattle.squawk_events.specs.Lawful.{IsLawful, is_balanced, closes, token_kinds, has_lawful_numbers}
use Rattle.squawk_kinds.specs.Role.{Role, role, Trivia, Semicolon, Terminator, Command, Open, Close, Other, is_trivia}
use Rattle.squawk_kinds.specs.declared.numbers.TheConstants.Number.{ERROR}
use Rattle.squawk_events.specs.declared.steps.Step.{Step}
use Rattle.squawk_events.specs.declared.steps.Step.TheVariants.{Enter, Token, Exit, Error}
use Rattle.squawk_statements.specs.Children.{ends_statement, parts, parts_from, first_child, first_child_len, statement_to, statement_end}
use Rattle.squawk_statements.specs.Plain.{plain, node_of, body_steps, exits, kind_steps, groups_open_after, enters_before, exits_after, unknown_statement_error, child_steps, children_by}
use Rattle.squawk_statements.specs.declared.division.Division.{Division}
use Rattle.squawk_statements.specs.declared.division.Division.TheVariants.{Flat, Grouped}

-- ---- balance: the steps of kinds, of children and of a list of children close each node that they
-- open, so steps that follow them close the same number of nodes with them as without them

-- n + m, by recursion on n
abbrev pub raised : ℕ → ℕ → ℕ
raised zero m = m
raised (suc n) m = suc (raised n m)

pub closes_exits : (n m : ℕ) (xs : List Step) → closes (raised n (suc m)) (exits n ++ xs)
    ≡ closes (suc m) xs
closes_exits zero m xs = refl
closes_exits (suc n) m xs = closes_exits n m xs

closes_token : (n m kind : ℕ) (xs : List Step)
    → closes (raised n (suc m)) (Token kind ∷ xs) ≡ closes (raised n (suc m)) xs
closes_token zero m kind xs = refl
closes_token (suc n) m kind xs = refl

closes_end : (n m kind : ℕ) (xs : List Step)
    → closes (raised n (suc m)) ((exits n ++ Token kind ∷ []) ++ xs) ≡ closes (suc m) xs
closes_end n m kind xs =
    ap (closes (raised n (suc m))) (append_assoc (exits n) (Token kind ∷ []) xs)
    ∙ closes_exits n m (Token kind ∷ xs)

-- the steps of a kind of this role
abbrev pub steps_by : Division → ℕ → ℕ → Role → List Step
steps_by d n kind f = if ends_statement d n f then exits n ++ Token kind ∷ []
    else enters_before f ++ Token kind ∷ exits_after n f

pub closes_kind : (d : Division) (n m kind : ℕ) (f : Role) (xs : List Step)
    → closes (raised n (suc m)) (steps_by d n kind f ++ xs)
    ≡ closes (raised (groups_open_after d n f) (suc m)) xs
closes_kind d n m kind Trivia xs = closes_token n m kind xs
closes_kind Flat n m kind Semicolon xs = closes_end n m kind xs
closes_kind Grouped zero m kind Semicolon xs = refl
closes_kind Grouped (suc n) m kind Semicolon xs = refl
closes_kind d n m kind Terminator xs = closes_end n m kind xs
closes_kind d n m kind Command xs = closes_token n m kind xs
closes_kind d zero m kind Open xs = refl
closes_kind d (suc n) m kind Open xs = refl
closes_kind d zero m kind Close xs = refl
closes_kind d (suc n) m kind Close xs = refl
closes_kind d n m kind Other xs = closes_token n m kind xs

closes_body : (d : Division) (n m : ℕ) (kinds : List ℕ) (xs : List Step)
    → closes (raised n (suc m)) (body_steps d n kinds ++ xs) ≡ closes (suc m) xs
closes_body d n m [] xs = closes_exits n m xs
closes_body d n m (kind ∷ kinds) xs =
    ap (closes (raised n (suc m))) (append_assoc (kind_steps d n kind)
    (body_steps d (groups_open_after d n (role kind)) kinds) xs)
    ∙ closes_kind d n m kind (role kind) (body_steps d (groups_open_after d n (role kind)) kinds
    ++ xs)
    ∙ closes_body d (groups_open_after d n (role kind)) m kinds xs

closes_unknown : (b : Bool) (m : ℕ) (xs : List Step)
    → closes (suc m) ((if b then Error 10 ∷ [] else []) ++ xs) ≡ closes (suc m) xs
closes_unknown true m xs = refl
closes_unknown false m xs = refl

pub closes_child : (d : Division) (m : ℕ) (kinds : List ℕ) (xs : List Step)
    → closes (suc m) (child_steps d kinds ++ xs) ≡ closes (suc m) xs
closes_child d m kinds xs =
    let inner = unknown_statement_error (node_of kinds) in
    ap (closes (suc (suc m))) (append_assoc (inner ++ body_steps d 0 kinds) (Exit ∷ []) xs
    ∙ append_assoc inner (body_steps d 0 kinds) (Exit ∷ xs))
    ∙ closes_unknown (node_of kinds == ERROR) (suc m) (body_steps d 0 kinds ++ Exit ∷ xs)
    ∙ closes_body d 0 (suc m) kinds (Exit ∷ xs)

closes_children : (d : Division) (m : ℕ) (ps : List (List ℕ)) (xs : List Step)
    → closes (suc m) (children_by (child_steps d) ps ++ xs) ≡ closes (suc m) xs
closes_children d m [] xs = refl
closes_children d m (p ∷ ps) xs =
    ap (closes (suc m)) (append_assoc (child_steps d p) (children_by (child_steps d) ps) xs)
    ∙ closes_child d m p (children_by (child_steps d) ps ++ xs) ∙ closes_children d m ps xs

-- ---- tokens: the Token steps of kinds, of a child and of a list of children have these kinds in
-- order

tokens_append : (xs ys : List Step) → token_kinds (xs ++ ys) ≡ token_kinds xs ++ token_kinds ys
tokens_append [] ys = refl
tokens_append (Enter kind ∷ xs) ys = tokens_append xs ys
tokens_append (Token kind ∷ xs) ys = ap (λ ks. kind ∷ ks) (tokens_append xs ys)
tokens_append (Exit ∷ xs) ys = tokens_append xs ys
tokens_append (Error number ∷ xs) ys = tokens_append xs ys

tokens_exits : (n : ℕ) (xs : List Step) → token_kinds (exits n ++ xs) ≡ token_kinds xs
tokens_exits zero xs = refl
tokens_exits (suc n) xs = tokens_exits n xs

tokens_end : (n kind : ℕ) (xs : List Step) → token_kinds ((exits n ++ Token kind ∷ []) ++ xs)
    ≡ kind ∷ token_kinds xs
tokens_end n kind xs = ap token_kinds (append_assoc (exits n) (Token kind ∷ []) xs)
    ∙ tokens_exits n (Token kind ∷ xs)

tokens_kind : (d : Division) (n kind : ℕ) (f : Role) (xs : List Step)
    → token_kinds (steps_by d n kind f ++ xs) ≡ kind ∷ token_kinds xs
tokens_kind d n kind Trivia xs = refl
tokens_kind Flat n kind Semicolon xs = tokens_end n kind xs
tokens_kind Grouped zero kind Semicolon xs = refl
tokens_kind Grouped (suc n) kind Semicolon xs = refl
tokens_kind d n kind Terminator xs = tokens_end n kind xs
tokens_kind d n kind Command xs = refl
tokens_kind d n kind Open xs = refl
tokens_kind d zero kind Close xs = refl
tokens_kind d (suc n) kind Close xs = refl
tokens_kind d n kind Other xs = refl

tokens_body : (d : Division) (n : ℕ) (kinds : List ℕ) (xs : List Step)
    → token_kinds (body_steps d n kinds ++ xs) ≡ kinds ++ token_kinds xs
tokens_body d n [] xs = tokens_exits n xs
tokens_body d n (kind ∷ kinds) xs =
    ap token_kinds (append_assoc (kind_steps d n kind)
    (body_steps d (groups_open_after d n (role kind)) kinds) xs)
    ∙ tokens_kind d n kind (role kind) (body_steps d (groups_open_after d n (role kind)) kinds
    ++ xs)
    ∙ ap (λ ks. kind ∷ ks) (tokens_body d (groups_open_after d n (role kind)) kinds xs)

tokens_unknown : (b : Bool) (xs : List Step) → token_kinds ((if b then Error 10 ∷ [] else []) ++ xs)
    ≡ token_kinds xs
tokens_unknown true xs = refl
tokens_unknown false xs = refl

tokens_child : (d : Division) (kinds : List ℕ) (xs : List Step)
    → token_kinds (child_steps d kinds ++ xs) ≡ kinds ++ token_kinds xs
tokens_child d kinds xs =
    let inner = unknown_statement_error (node_of kinds) in
    ap token_kinds (append_assoc (inner ++ body_steps d 0 kinds) (Exit ∷ []) xs
    ∙ append_assoc inner (body_steps d 0 kinds) (Exit ∷ xs))
    ∙ tokens_unknown (node_of kinds == ERROR) (body_steps d 0 kinds ++ Exit ∷ xs)
    ∙ tokens_body d 0 kinds (Exit ∷ xs)

-- the lists one after another
abbrev joined : {A : Type 0} → List (List A) → List A
joined [] = []
joined (xs ∷ rest) = xs ++ joined rest

-- a first child has at least one token
pub first_child_some : (d : Division) (f : Role) (fs : List Role)
    → 1 ≤ (first_child d (f ∷ fs)).tokens
first_child_some d f fs = by f
  where
    statement_some : (f : Role) (end : Option ℕ) → is_trivia f ≡ false
        → 1 ≤ (statement_to (option_map suc end) (f ∷ fs)).tokens
    statement_some f (Some n) not_trivia = omega arith
    statement_some f None not_trivia = rw not_trivia (omega arith)

    by : (f : Role) → 1 ≤ (first_child d (f ∷ fs)).tokens
    by Trivia = omega arith
    by Semicolon = omega arith
    by Terminator = omega arith
    by Command = omega arith
    by Open = statement_some Open (statement_end d 1 fs) refl
    by Close = statement_some Close (statement_end d 0 fs) refl
    by Other = statement_some Other (statement_end d 0 fs) refl

-- arithmetic
pub suc_minus_one : (n : ℕ) → suc n - 1 ≡ n
suc_minus_one n = omega arith

-- a list is its first n elements and the rest
take_then_drop : {A : Type 0} (n : ℕ) (x : A) (xs : List A) → 1 ≤ n
    → take n (x ∷ xs) ++ drop (n - 1) xs ≡ x ∷ xs
take_then_drop zero x xs some = absurd (omega arith)
take_then_drop (suc n) x xs some =
    ap (λ m. x ∷ (take n xs ++ drop m xs)) (suc_minus_one n)
    ∙ ap (λ ys. x ∷ ys) (take-append-drop n xs)

-- the parts of a list, one after another, are the list without the elements of an earlier child
joined_parts : {A : Type 0} (role_of : A → Role) (n : ℕ) (d : Division) (xs : List A)
    → joined (parts_from role_of n d xs) ≡ drop n xs
joined_parts role_of zero d [] = refl
joined_parts role_of (suc n) d [] = refl
joined_parts role_of zero d (x ∷ xs) =
    let len = first_child_len role_of d (x ∷ xs) in
    ap (λ ys. take len (x ∷ xs) ++ ys) (joined_parts role_of (len - 1) d xs)
    ∙ take_then_drop len x xs (first_child_some d (role_of x) (map role_of xs))
joined_parts role_of (suc n) d (x ∷ xs) = joined_parts role_of n d xs

-- the tokens of a list of children
tokens_children : (d : Division) (ps : List (List ℕ)) (xs : List Step)
    → token_kinds (children_by (child_steps d) ps ++ xs) ≡ joined ps ++ token_kinds xs
tokens_children d [] xs = refl
tokens_children d (p ∷ ps) xs =
    ap token_kinds (append_assoc (child_steps d p) (children_by (child_steps d) ps) xs)
    ∙ tokens_child d p (children_by (child_steps d) ps ++ xs)
    ∙ ap (λ ks. p ++ ks) (tokens_children d ps xs)
    ∙ sym (append_assoc p (joined ps) (token_kinds xs))

-- ---- numbers: the steps of kinds, of a child and of a list of children have lawful error numbers

numbers_exits : (n : ℕ) (xs : List Step) → has_lawful_numbers (exits n ++ xs)
    ≡ has_lawful_numbers xs
numbers_exits zero xs = refl
numbers_exits (suc n) xs = numbers_exits n xs

numbers_end : (n kind : ℕ) (xs : List Step)
    → has_lawful_numbers ((exits n ++ Token kind ∷ []) ++ xs) ≡ has_lawful_numbers xs
numbers_end n kind xs = ap has_lawful_numbers (append_assoc (exits n) (Token kind ∷ []) xs)
    ∙ numbers_exits n (Token kind ∷ xs)

numbers_kind : (d : Division) (n kind : ℕ) (f : Role) (xs : List Step)
    → has_lawful_numbers (steps_by d n kind f ++ xs) ≡ has_lawful_numbers xs
numbers_kind d n kind Trivia xs = refl
numbers_kind Flat n kind Semicolon xs = numbers_end n kind xs
numbers_kind Grouped zero kind Semicolon xs = refl
numbers_kind Grouped (suc n) kind Semicolon xs = refl
numbers_kind d n kind Terminator xs = numbers_end n kind xs
numbers_kind d n kind Command xs = refl
numbers_kind d n kind Open xs = refl
numbers_kind d zero kind Close xs = refl
numbers_kind d (suc n) kind Close xs = refl
numbers_kind d n kind Other xs = refl

numbers_body : (d : Division) (n : ℕ) (kinds : List ℕ) (xs : List Step)
    → has_lawful_numbers (body_steps d n kinds ++ xs) ≡ has_lawful_numbers xs
numbers_body d n [] xs = numbers_exits n xs
numbers_body d n (kind ∷ kinds) xs =
    ap has_lawful_numbers (append_assoc (kind_steps d n kind)
    (body_steps d (groups_open_after d n (role kind)) kinds) xs)
    ∙ numbers_kind d n kind (role kind) (body_steps d (groups_open_after d n (role kind)) kinds
    ++ xs)
    ∙ numbers_body d (groups_open_after d n (role kind)) kinds xs

numbers_unknown : (b : Bool) (xs : List Step)
    → has_lawful_numbers ((if b then Error 10 ∷ [] else []) ++ xs) ≡ has_lawful_numbers xs
numbers_unknown true xs = refl
numbers_unknown false xs = refl

numbers_child : (d : Division) (kinds : List ℕ) (xs : List Step)
    → has_lawful_numbers (child_steps d kinds ++ xs) ≡ has_lawful_numbers xs
numbers_child d kinds xs =
    let inner = unknown_statement_error (node_of kinds) in
    ap has_lawful_numbers (append_assoc (inner ++ body_steps d 0 kinds) (Exit ∷ []) xs
    ∙ append_assoc inner (body_steps d 0 kinds) (Exit ∷ xs))
    ∙ numbers_unknown (node_of kinds == ERROR) (body_steps d 0 kinds ++ Exit ∷ xs)
    ∙ numbers_body d 0 kinds (Exit ∷ xs)

numbers_children : (d : Division) (ps : List (List ℕ)) (xs : List Step)
    → has_lawful_numbers (children_by (child_steps d) ps ++ xs) ≡ has_lawful_numbers xs
numbers_children d [] xs = refl
numbers_children d (p ∷ ps) xs =
    ap has_lawful_numbers (append_assoc (child_steps d p) (children_by (child_steps d) ps) xs)
    ∙ numbers_child d p (children_by (child_steps d) ps ++ xs) ∙ numbers_children d ps xs

-- the steps of kinds without trivia are lawful
pub plain_lawful : (d : Division) (kinds : List ℕ) → IsTrue (has_no_trivia kinds)
    → IsLawful kinds (plain d kinds)
plain_lawful d kinds none = record {
  balanced = closes_children d 0 (parts role d kinds) (Exit ∷ []);
  tokens = tokens_children d (parts role d kinds) (Exit ∷ [])
      ∙ append-nil (joined (parts role d kinds)) ∙ joined_parts role 0 d kinds;
  numbers = numbers_children d (parts role d kinds) (Exit ∷ []);
}

-- a child's steps are a tree of its kinds
pub child_balanced : (d : Division) (kinds : List ℕ) → is_balanced (child_steps d kinds) ≡ true
child_balanced d kinds =
    let inner = unknown_statement_error (node_of kinds) in
    ap (closes 1) (append_assoc inner (body_steps d 0 kinds) (Exit ∷ []))
    ∙ closes_unknown (node_of kinds == ERROR) 0 (body_steps d 0 kinds ++ Exit ∷ [])
    ∙ closes_body d 0 0 kinds (Exit ∷ [])

-- the tokens of a child's steps have its kinds, in order
pub child_tokens : (d : Division) (kinds : List ℕ) → token_kinds (child_steps d kinds) ≡ kinds
child_tokens d kinds = ap token_kinds (sym (append-nil (child_steps d kinds)))
    ∙ tokens_child d kinds [] ∙ append-nil kinds

-- the errors in a child's steps have lawful numbers
pub child_numbers : (d : Division) (kinds : List ℕ)
    → has_lawful_numbers (child_steps d kinds) ≡ true
child_numbers d kinds = ap has_lawful_numbers (sym (append-nil (child_steps d kinds)))
    ∙ numbers_child d kinds []
