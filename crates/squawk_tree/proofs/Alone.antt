-- The tokens of a child, divided by themselves, are one child.
use Rattle.std.proofs.Common.{◌≡◌, ℕ, zero, suc, ◌==◌, ◌≤◌, Bool, true, false, ◌&&◌, cond, List, [], ◌∷◌, length, take, drop, map, ap, refl, sym, ◌∙◌, arith}
use Rattle.std.proofs.lemmas.List.{length-take-le, take_all, drop_all, take-map}
use Rattle.std.specs.Prelude.{Option, Some, None, option_map}
use Rattle.squawk_tree.specs.Join.{child_of, join}
use Rattle.squawk_tree.specs.ParseOf.{parse_of_tokens}
use Rattle.squawk_lexed.specs.LexedText.{are_sound}
use Rattle.squawk_lexed.specs.LexedToken.{LexedToken, lexed_role}
use Rattle.squawk_kinds.specs.Role.{Role, is_trivia, Trivia, Semicolon, Terminator, Command, Open, Close, Other}
use Rattle.squawk_statements.specs.Children.{ends_statement, open_groups_after, statement_end, trimmed_len, first_child_len, parts}
use Rattle.squawk_tree.proofs.FirstPart.{rest_len, more, more_of, first_tokens, first_part}
use Rattle.squawk_kinds.specs.Role.{role}
use Rattle.squawk_statements.specs.declared.division.Division.{Division}
use Rattle.squawk_tree.proofs.JoinIsParse.{parse_joined}
use Rattle.squawk_tree.proofs.RootLemmas.{more_within}

-- the tokens up to the end of a statement contain that end, at the same index
statement_end_take : (d : Division) (g : ℕ) (fs : List Role) (k : ℕ) → statement_end d g fs ≡ Some k
    → statement_end d g (take k fs) ≡ Some k
statement_end_take d g [] k h = cc
statement_end_take d g (f ∷ fs) k h =
    by (ends_statement d g f) refl (statement_end d (open_groups_after g f) fs) refl h (λ j e.
    statement_end_take d (open_groups_after g f) fs j e)
  where
    by : (b : Bool) → ends_statement d g f ≡ b → (o : Option ℕ)
        → statement_end d (open_groups_after g f) fs ≡ o
        → cond b (Some 1) (option_map suc o) ≡ Some k
        → ((j : ℕ) → statement_end d (open_groups_after g f) fs ≡ Some j
        → statement_end d (open_groups_after g f) (take j fs) ≡ Some j)
        → statement_end d g (take k (f ∷ fs)) ≡ Some k
    by true is o found e more =
        let one : k ≡ 1 = cc in
        rw one (rw is refl)
    by false is None found e more = cc
    by false is (Some j) found e more =
        let next : k ≡ suc j = cc in
        rw next (rw is (ap (option_map suc) (more j found)))

-- where no statement ends in a list, none ends in a prefix of it
no_end_take : (d : Division) (g n : ℕ) (fs : List Role) → statement_end d g fs ≡ None
    → statement_end d g (take n fs) ≡ None
no_end_take d g zero fs h = refl
no_end_take d g (suc n) [] h = refl
no_end_take d g (suc n) (f ∷ fs) h =
    by (ends_statement d g f) (statement_end d (open_groups_after g f) fs) refl h (λ e.
    no_end_take d (open_groups_after g f) n fs e)
  where
    by : (b : Bool) (o : Option ℕ) → statement_end d (open_groups_after g f) fs ≡ o
        → cond b (Some 1) (option_map suc o) ≡ None
        → (statement_end d (open_groups_after g f) fs ≡ None
        → statement_end d (open_groups_after g f) (take n fs) ≡ None)
        → cond b (Some 1) (option_map suc (statement_end d (open_groups_after g f) (take n fs)))
        ≡ None
    by true o found e more = cc
    by false None found e more = ap (option_map suc) (more found)
    by false (Some j) found e more = cc

-- trimming twice is trimming once
trimmed_len_take : (fs : List Role) → trimmed_len (take (trimmed_len fs) fs) ≡ trimmed_len fs
trimmed_len_take [] = refl
trimmed_len_take (f ∷ fs) = by (is_trivia f && trimmed_len fs == 0) refl (trimmed_len_take fs)
  where
    by : (b : Bool) → (is_trivia f && trimmed_len fs == 0) ≡ b
        → trimmed_len (take (trimmed_len fs) fs) ≡ trimmed_len fs
        → trimmed_len (take (cond b 0 (suc (trimmed_len fs))) (f ∷ fs))
        ≡ cond b 0 (suc (trimmed_len fs))
    by true is more = refl
    by false is more = ap (λ n. cond (is_trivia f && n == 0) 0 (suc n)) more
        ∙ ap (λ b. cond b 0 (suc (trimmed_len fs))) is

-- The tokens of a child are as many where no others follow it: of a statement, and of any child.
rest_len_alone : (d : Division) (g : ℕ) (fs : List Role)
    → rest_len (statement_end d g (take (rest_len (statement_end d g fs) fs) fs))
    (take (rest_len (statement_end d g fs) fs) fs) ≡ rest_len (statement_end d g fs) fs
rest_len_alone d g fs = by (statement_end d g fs) refl
  where
    by : (o : Option ℕ) → statement_end d g fs ≡ o
        → rest_len (statement_end d g (take (rest_len o fs) fs)) (take (rest_len o fs) fs)
        ≡ rest_len o fs
    by None is = ap (λ o. rest_len o (take (trimmed_len fs) fs))
        (no_end_take d g (trimmed_len fs) fs is) ∙ trimmed_len_take fs
    by (Some k) is = ap (λ o. rest_len o (take k fs)) (statement_end_take d g fs k is)

more_alone : (d : Division) (f : Role) (fs : List Role)
    → more d f (take (more d f fs) fs) ≡ more d f fs
more_alone d Trivia fs = refl
more_alone d Semicolon fs = refl
more_alone d Terminator fs = refl
more_alone d Command fs = refl
more_alone d Open fs = rest_len_alone d 1 fs
more_alone d Close fs = rest_len_alone d 0 fs
more_alone d Other fs = rest_len_alone d 0 fs

-- the tokens of a child, divided by themselves, are one part
parts_alone : (d : Division) (t : LexedToken) (ts : List LexedToken)
    → parts lexed_role d (t ∷ take (more_of lexed_role d t ts) ts)
    ≡ (t ∷ take (more_of lexed_role d t ts) ts) ∷ []
parts_alone d t ts =
    let m = more_of lexed_role d t ts in
    let us = take m ts in
    let fits : m ≤ length ts = more_within d t ts in
    let size : length us ≡ m = length-take-le m ts fits in
    let roles : map lexed_role us ≡ take m (map lexed_role ts) = sym (take-map lexed_role m ts) in
    let same : more_of lexed_role d t us ≡ m = ap (λ fs. more d (role t.kind) fs) roles
    ∙ more_alone d (role t.kind) (map lexed_role ts) in
    let whole : take (more_of lexed_role d t us) us ≡ us =
    take_all (more_of lexed_role d t us) us (omega arith) in
    let none : drop (more_of lexed_role d t us) us ≡ [] =
    drop_all (more_of lexed_role d t us) us (omega arith) in
    first_part lexed_role d t us
    ∙ ap (λ xs. (t ∷ xs) ∷ parts lexed_role d (drop (more_of lexed_role d t us) us)) whole
    ∙ ap (λ rest. (t ∷ us) ∷ parts lexed_role d rest) none

-- the parse of the tokens of a child is that child under a root
pub parse_alone : (d : Division) (t : LexedToken) (ts : List LexedToken)
    → are_sound (take (first_child_len lexed_role d (t ∷ ts)) (t ∷ ts)) ≡ true
    → parse_of_tokens d (take (first_child_len lexed_role d (t ∷ ts)) (t ∷ ts))
    ≡ join (child_of d (take (first_child_len lexed_role d (t ∷ ts)) (t ∷ ts)) ∷ [])
parse_alone d t ts sound =
    let own : List LexedToken = t ∷ take (more_of lexed_role d t ts) ts in
    let own_is : take (first_child_len lexed_role d (t ∷ ts)) (t ∷ ts) ≡ own =
    ap (λ n. take n (t ∷ ts)) (first_tokens d (role t.kind) (map lexed_role ts)) in
    parse_joined d (take (first_child_len lexed_role d (t ∷ ts)) (t ∷ ts)) sound
    ∙ ap (λ ps. join (map (child_of d) ps)) (ap (parts lexed_role d) own_is
    ∙ parts_alone d t ts ∙ ap (λ p. p ∷ []) (sym own_is))
