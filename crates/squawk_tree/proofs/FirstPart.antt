-- The tokens of a first child, as its first token and the number of those after it.
use Rattle.std.proofs.Common.{◌≡◌, ℕ, zero, suc, ◌-◌, false, List, [], ◌∷◌, take, drop, map, refl, ap, ◌∙◌, arith}
use Rattle.std.specs.Prelude.{Option, Some, None, option_map}
use Rattle.squawk_kinds.specs.Role.{Role, is_trivia, Trivia, Semicolon, Terminator, Command, Open, Close, Other}
use Rattle.squawk_statements.specs.Children.{statement_end, statement_to, trimmed_len, first_child, parts, parts_from}
use Rattle.squawk_statements.specs.declared.division.Division.{Division}

-- the number of tokens after the first of a statement, by the index at which it ends among them
abbrev pub rest_len : Option ℕ → List Role → ℕ
rest_len (Some n) fs = n
rest_len None fs = trimmed_len fs

-- the number of tokens after the first of a child
abbrev pub more : Division → Role → List Role → ℕ
more d Trivia fs = 0
more d Semicolon fs = 0
more d Terminator fs = 0
more d Command fs = 0
more d Open fs = rest_len (statement_end d 1 fs) fs
more d Close fs = rest_len (statement_end d 0 fs) fs
more d Other fs = rest_len (statement_end d 0 fs) fs

-- the number of elements after the first of the first child of a list
abbrev pub more_of : {A : Type 0} → (A → Role) → Division → A → List A → ℕ
more_of role_of d x xs = more d (role_of x) (map role_of xs)

-- the number of tokens of a first child
pub first_tokens : (d : Division) (f : Role) (fs : List Role)
    → (first_child d (f ∷ fs)).tokens ≡ suc (more d f fs)
first_tokens d f fs = by f
  where
    statement_tokens : (f : Role) (end : Option ℕ) → is_trivia f ≡ false
        → (statement_to (option_map suc end) (f ∷ fs)).tokens ≡ suc (rest_len end fs)
    statement_tokens f (Some n) not_trivia = refl
    statement_tokens f None not_trivia = rw not_trivia refl

    by : (f : Role) → (first_child d (f ∷ fs)).tokens ≡ suc (more d f fs)
    by Trivia = refl
    by Semicolon = refl
    by Terminator = refl
    by Command = refl
    by Open = statement_tokens Open (statement_end d 1 fs) refl
    by Close = statement_tokens Close (statement_end d 0 fs) refl
    by Other = statement_tokens Other (statement_end d 0 fs) refl

-- one more and one less
pub suc_minus_one : (n : ℕ) → suc n - 1 ≡ n
suc_minus_one n = omega arith

-- the parts of a list whose first n elements belong to a child before it
pub skip : {A : Type 0} (role_of : A → Role) (n : ℕ) (d : Division) (xs : List A)
    → parts_from role_of n d xs ≡ parts_from role_of 0 d (drop n xs)
skip role_of zero d xs = refl
skip role_of (suc n) d [] = refl
skip role_of (suc n) d (x ∷ xs) = skip role_of n d xs

-- the parts of a list are that of its first child and those of the rest
pub first_part : {A : Type 0} (role_of : A → Role) (d : Division) (x : A) (xs : List A)
    → parts role_of d (x ∷ xs) ≡ (x ∷ take (more_of role_of d x xs) xs)
    ∷ parts role_of d (drop (more_of role_of d x xs) xs)
first_part role_of d x xs =
    let m = more_of role_of d x xs in
    ap (λ n. take n (x ∷ xs) ∷ parts_from role_of (n - 1) d xs)
    (first_tokens d (role_of x) (map role_of xs))
    ∙ ap (λ n. (x ∷ take m xs) ∷ parts_from role_of n d xs) (suc_minus_one m)
    ∙ ap (λ rest. (x ∷ take m xs) ∷ rest) (skip role_of m d xs)
