-- A closed first child is also the first child of every longer list.
use Rattle.std.proofs.Common.{◌≡◌, ℕ, suc, Bool, true, false, cond, List, [], ◌∷◌, ◌++◌, map, length, take, ◌<◌, ◌≤◌, arith, refl, ap, ◌∙◌}
use Rattle.std.proofs.lemmas.List.{map-append, take-append-le}
use Rattle.std.specs.Prelude.{Option, Some, None, option_map}
use Rattle.squawk_kinds.specs.Role.{role}
use Rattle.squawk_kinds.specs.Role.{Role, is_trivia}
use Rattle.squawk_statements.specs.Children.{Child, ends_statement, open_groups_after, statement_end, statement, statement_to, first_child, trivia_child, single_token, is_single_token}
use Rattle.squawk_statements.specs.First.{child_node, first_shape}
use Rattle.squawk_statements.specs.declared.first.ChildShape.{ChildShape}
use Rattle.squawk_statements.specs.declared.division.Division.{Division}

-- an end that was found is found again; where there was none, there may be one
abbrev Longer : Option ℕ → Option ℕ → Type 0
Longer None b = Unit {0}
Longer (Some n) b = b ≡ Some n

-- the same one token further on
one_more : (a b : Option ℕ) → Longer a b → Longer (option_map suc a) (option_map suc b)
one_more None b h = tt
one_more (Some n) b h = ap (option_map suc) h

-- more roles do not move the end of a statement
closing_longer : (d : Division) (g : ℕ) (fs gs : List Role)
    → Longer (statement_end d g fs) (statement_end d g (fs ++ gs))
closing_longer d g [] gs = tt
closing_longer d g (f ∷ fs) gs =
    by (ends_statement d g f) (closing_longer d (open_groups_after g f) fs gs)
  where
    by : (b : Bool)
        → Longer (statement_end d (open_groups_after g f) fs)
        (statement_end d (open_groups_after g f) (fs ++ gs))
        → Longer (cond b (Some 1) (option_map suc (statement_end d (open_groups_after g f) fs)))
        (cond b (Some 1) (option_map suc (statement_end d (open_groups_after g f) (fs ++ gs))))
    by true h = refl
    by false h = one_more (statement_end d (open_groups_after g f) fs)
        (statement_end d (open_groups_after g f) (fs ++ gs)) h

-- a closed statement stays the same
statement_longer : (a b : Option ℕ) (fs gs : List Role) → Longer a b
    → (statement_to a fs).closed ≡ true → statement_to b gs ≡ statement_to a fs
statement_longer None b fs gs h closed = absurd (cc)
statement_longer (Some n) b fs gs h closed = ap (λ end. statement_to end gs) h

-- and so does a closed first child: over roles, and over kinds
longer : (d : Division) (f : Role) (fs gs : List Role) → (first_child d (f ∷ fs)).closed ≡ true
    → first_child d ((f ∷ fs) ++ gs) ≡ first_child d (f ∷ fs)
longer d f fs gs = by (is_trivia f) (is_single_token f)
  where
    by : (trivia single : Bool)
        → (cond trivia trivia_child (cond single single_token (statement d (f ∷ fs)))).closed
        ≡ true
        → cond trivia trivia_child (cond single single_token (statement d (f ∷ fs ++ gs)))
        ≡ cond trivia trivia_child (cond single single_token (statement d (f ∷ fs)))
    by true single closed = refl
    by false true closed = refl
    by false false closed =
        statement_longer (statement_end d 0 (f ∷ fs)) (statement_end d 0 (f ∷ fs ++ gs)) (f ∷ fs)
        (f ∷ fs ++ gs) (closing_longer d 0 (f ∷ fs) gs) closed

pub first_longer : (d : Division) (kinds others : List ℕ) → 0 < length kinds
    → (first_child d (map role kinds)).closed ≡ true
    → first_child d (map role (kinds ++ others)) ≡ first_child d (map role kinds)
first_longer d [] others some h = absurd (omega arith)
first_longer d (k ∷ kinds) others some h =
    ap (λ fs. first_child d (role k ∷ fs)) (map-append role kinds others)
    ∙ longer d (role k) (map role kinds) (map role others) h

-- and its shape
pub shape_longer : (d : Division) (kinds others : List ℕ) → 0 < length kinds
    → (first_child d (map role kinds)).closed ≡ true
    → (first_child d (map role kinds)).tokens ≤ length kinds
    → first_shape d (kinds ++ others) ≡ first_shape d kinds
shape_longer d kinds others some closed within =
    let same = first_longer d kinds others some closed in
    ap (λ (child : Child). shape_by child (kinds ++ others)) same
    ∙ ap (λ ks. record {
      tokens = (first_child d (map role kinds)).tokens;
      node =
          child_node ks;
      closed = (first_child d (map role kinds)).closed;
    })
    (take-append-le ((first_child d (map role kinds)).tokens) kinds others within)
  where
    shape_by : Child → List ℕ → ChildShape
    shape_by child ks = record {
      tokens = child.tokens;
      node =
          child_node (take (child.tokens) ks);
      closed = child.closed;
    }
