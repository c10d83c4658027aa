-- A closed first child is decided by its own kinds.
use Rattle.std.proofs.Common.{◌≡◌, ℕ, zero, suc, Bool, true, false, cond, List, [], ◌∷◌, ◌++◌, map, length, take, ◌<◌, ◌≤◌, ◌==◌, ◌&&◌, arith, refl, sym, ap, ◌∙◌, subst}
use Rattle.std.proofs.lemmas.List.{length-map, map-append, take-append-le}
use Rattle.std.specs.Prelude.{Option, Some, None, option_map}
use Rattle.squawk_kinds.specs.Role.{Role, role, is_trivia, Trivia, Semicolon, Terminator, Command, Open, Close, Other}
use Rattle.squawk_statements.specs.Children.{Child, ends_statement, open_groups_after, statement_end, statement, statement_to, trimmed_len, first_child, trivia_child, single_token, is_single_token}
use Rattle.squawk_statements.specs.First.{child_node}
use Rattle.squawk_statements.specs.Laws.{FirstChildrenWithin, FirstChildrenStay}
use Rattle.squawk_statements.specs.declared.division.Division.{Division}
use Rattle.squawk_statements.specs.declared.first.ChildShape.{ChildShape}

-- one less on both sides
some_less : (a : Option ℕ) (n : ℕ) → option_map suc a ≡ Some (suc n) → a ≡ Some n
some_less None n h = absurd (cc)
some_less (Some m) n h = cc

-- the index after one is not 0
not_zero : (a : Option ℕ) → option_map suc a ≡ Some zero → ⊥
not_zero None h = cc
not_zero (Some m) h = cc

-- no statement ends before its first token
end_not_zero : (d : Division) (g : ℕ) (fs : List Role) → statement_end d g fs ≡ Some zero → ⊥
end_not_zero d g [] h = cc
end_not_zero d g (f ∷ fs) h = by (ends_statement d g f) h
  where
    by : (b : Bool)
        → cond b (Some 1) (option_map suc (statement_end d (open_groups_after g f) fs)) ≡ Some zero
        → ⊥
    by true e = cc
    by false e = not_zero (statement_end d (open_groups_after g f) fs) e

-- a statement that ends among the first tokens ends there whatever follows them
end_stays : (d : Division) (g : ℕ) (fs xs ys : List Role) (n : ℕ)
    → statement_end d g (fs ++ xs) ≡ Some n → n ≤ length fs → statement_end d g (fs ++ ys) ≡ Some n
end_stays d g [] xs ys zero h le = absurd (end_not_zero d g xs h)
end_stays d g [] xs ys (suc n) h le = absurd (omega arith)
end_stays d g (f ∷ fs) xs ys n h le =
    by (ends_statement d g f) n h le (λ m e l. end_stays d (open_groups_after g f) fs xs ys m e l)
  where
    by : (b : Bool) (n : ℕ)
        → cond b (Some 1) (option_map suc (statement_end d (open_groups_after g f) (fs ++ xs)))
        ≡ Some n → n ≤ suc (length fs)
        → ((m : ℕ) → statement_end d (open_groups_after g f) (fs ++ xs) ≡ Some m → m ≤ length fs
        → statement_end d (open_groups_after g f) (fs ++ ys) ≡ Some m)
        → cond b (Some 1) (option_map suc (statement_end d (open_groups_after g f) (fs ++ ys)))
        ≡ Some n
    by true n h le step = h
    by false zero h le step =
        absurd (not_zero (statement_end d (open_groups_after g f) (fs ++ xs)) h)
    by false (suc n) h le step =
        ap (option_map suc)
        (step n (some_less (statement_end d (open_groups_after g f) (fs ++ xs)) n h) (omega arith))

-- a closed statement stays the same where its end does
statement_stays : (a b : Option ℕ) (us vs : List Role) (len : ℕ)
    → (statement_to a us).closed ≡ true → (statement_to a us).tokens ≤ len
    → ((n : ℕ) → a ≡ Some n → n ≤ len → b ≡ Some n) → statement_to b vs ≡ statement_to a us
statement_stays None b us vs len closed le step = absurd (cc)
statement_stays (Some n) b us vs len closed le step =
    ap (λ end. statement_to end vs) (step n refl le)

-- a first child, by the tests on its first token
abbrev by_tests : (trivia single : Bool) → Division → List Role → Child
by_tests trivia single d fs =
    cond trivia trivia_child (cond single single_token (statement d fs))

-- and so does a closed first child
first_stays : (d : Division) (f : Role) (fs xs ys : List Role)
    → (first_child d (f ∷ (fs ++ xs))).closed ≡ true
    → (first_child d (f ∷ (fs ++ xs))).tokens ≤ suc (length fs)
    → first_child d (f ∷ (fs ++ ys)) ≡ first_child d (f ∷ (fs ++ xs))
first_stays d f fs xs ys = by (is_trivia f) (is_single_token f)
  where
    by : (trivia single : Bool)
        → (by_tests trivia single d (f ∷ (fs ++ xs))).closed ≡ true
        → (by_tests trivia single d (f ∷ (fs ++ xs))).tokens ≤ suc (length fs)
        → by_tests trivia single d (f ∷ (fs ++ ys)) ≡ by_tests trivia single d (f ∷ (fs ++ xs))
    by true single closed le = refl
    by false true closed le = refl
    by false false closed le =
        statement_stays (statement_end d 0 (f ∷ (fs ++ xs))) (statement_end d 0 (f ∷ (fs ++ ys)))
        (f ∷ (fs ++ xs)) (f ∷ (fs ++ ys)) (suc (length fs)) closed le
        (λ n e l. end_stays d 0 (f ∷ fs) xs ys n e l)

-- ---- the number of tokens of a first child

-- a first child has at least one token
statement_some : (end : Option ℕ) (fs : List Role) → 0 < trimmed_len fs
    → 0 < (statement_to (option_map suc end) fs).tokens
statement_some None fs some = some
statement_some (Some n) fs some = omega arith

first_some : (d : Division) (fs : List Role) → 0 < (first_child d fs).tokens
first_some d [] = omega arith
first_some d (Trivia ∷ fs) = omega arith
first_some d (Semicolon ∷ fs) = omega arith
first_some d (Terminator ∷ fs) = omega arith
first_some d (Command ∷ fs) = omega arith
first_some d (Open ∷ fs) = statement_some (statement_end d 1 fs) (Open ∷ fs) (omega arith)
first_some d (Close ∷ fs) = statement_some (statement_end d 0 fs) (Close ∷ fs) (omega arith)
first_some d (Other ∷ fs) = statement_some (statement_end d 0 fs) (Other ∷ fs) (omega arith)

-- a first child has no more tokens than there are
trimmed_within : (fs : List Role) → trimmed_len fs ≤ length fs
trimmed_within [] = omega arith
trimmed_within (f ∷ fs) = by (is_trivia f && trimmed_len fs == 0) (trimmed_within fs)
  where
    by : (b : Bool) → trimmed_len fs ≤ length fs → cond b 0 (suc (trimmed_len fs)) ≤ suc (length fs)
    by true h = omega arith
    by false h = omega arith

-- an index, if there is one, of at most `len`
abbrev Within : Option ℕ → ℕ → Type 0
Within None len = Unit {0}
Within (Some n) len = n ≤ len

within_more : (o : Option ℕ) (len : ℕ) → Within o len → Within (option_map suc o) (suc len)
within_more None len h = tt
within_more (Some n) len h = omega arith

end_within : (d : Division) (g : ℕ) (fs : List Role) → Within (statement_end d g fs) (length fs)
end_within d g [] = tt
end_within d g (f ∷ fs) = by (ends_statement d g f) (end_within d (open_groups_after g f) fs)
  where
    by : (b : Bool) → Within (statement_end d (open_groups_after g f) fs) (length fs)
        → Within (cond b (Some 1) (option_map suc (statement_end d (open_groups_after g f) fs)))
        (suc (length fs))
    by true h = omega arith
    by false h = within_more (statement_end d (open_groups_after g f) fs) (length fs) h

statement_within : (end : Option ℕ) (fs : List Role) → Within end (length fs)
    → (statement_to end fs).tokens ≤ length fs
statement_within None fs h = trimmed_within fs
statement_within (Some n) fs h = h

first_within : (d : Division) (f : Role) (fs : List Role)
    → (first_child d (f ∷ fs)).tokens ≤ suc (length fs)
first_within d f fs = by (is_trivia f) (is_single_token f)
  where
    by : (trivia single : Bool)
        → (by_tests trivia single d (f ∷ fs)).tokens ≤ suc (length fs)
    by true single = omega arith
    by false true = omega arith
    by false false = statement_within (statement_end d 0 (f ∷ fs)) (f ∷ fs)
        (end_within d 0 (f ∷ fs))

-- ---- the laws

-- the shape of a child of these kinds
shape_by : Child → List ℕ → ChildShape
shape_by child ks = record {
  tokens = child.tokens;
  node = child_node (take child.tokens ks);
  closed = child.closed;
}

-- the same number of kinds of each list that begins with `own`
shape_own : (child : Child) (own xs ys : List ℕ) → child.tokens ≤ length own
    → shape_by child (own ++ xs) ≡ shape_by child (own ++ ys)
unfolding shape_by
shape_own child own xs ys small =
    ap (λ ks. record { tokens = child.tokens; node = child_node ks; closed = child.closed })
    (take-append-le child.tokens own xs small ∙ sym (take-append-le child.tokens own ys small))

pub stay : FirstChildrenStay
unfolding shape_by
stay d [] rest other closed len =
    absurd (let some : 0 < (first_child d (map role rest)).tokens = first_some d (map role rest) in
    let none : (first_child d (map role rest)).tokens ≡ 0 = len in omega (arith, some, none))
stay d (k ∷ ks) rest other closed len =
    let one = map-append role ks rest in
    let two = map-append role ks other in
    let child : List Role → Child = λ fs. first_child d (role k ∷ fs) in
    let size : length (map role ks) ≡ length ks = length-map ks role in
    let closed_in : (child (map role ks ++ map role rest)).closed ≡ true =
    subst (λ fs. (first_child d (role k ∷ fs)).closed ≡ true) one closed in
    let tokens_in : (child (map role ks ++ map role rest)).tokens ≡ suc (length ks) =
    subst (λ fs. (first_child d (role k ∷ fs)).tokens ≡ suc (length ks)) one len in
    let same : child (map role (ks ++ other)) ≡ child (map role (ks ++ rest)) =
    ap child two
    ∙ first_stays d (role k) (map role ks) (map role rest) (map role other) closed_in
    (omega (arith, tokens_in, size)) ∙ sym (ap child one) in
    let small : (child (map role (ks ++ rest))).tokens ≤ length (k ∷ ks) = omega (arith, len) in
    ap (λ (c : Child). shape_by c ((k ∷ ks) ++ other)) same
    ∙ shape_own (child (map role (ks ++ rest))) (k ∷ ks) other rest small

pub within : FirstChildrenWithin
within d [] some = absurd (omega arith)
within d (k ∷ ks) some =
    let size : length (map role ks) ≡ length ks = length-map ks role in
    let le : (first_child d (role k ∷ map role ks)).tokens ≤ suc (length (map role ks)) =
    first_within d (role k) (map role ks) in
    (first_some d (role k ∷ map role ks), omega (arith, le, size))
