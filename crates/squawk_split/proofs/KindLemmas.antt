-- Kinds by their roles.
use Rattle.std.proofs.Common.{◌≡◌, ◌⊎◌, inl, inr, ℕ, zero, suc, ◌+◌, ◌≤◌, Bool, true, false, [], ◌∷◌, refl, sym, ap, ◌∙◌, ◌||◌, eqb, cond, arith}
use Rattle.std.proofs.lemmas.Bool.{cases_eq}
use Rattle.std.proofs.lemmas.Bool.Decides.{nat_tests}
use Rattle.squawk_events.specs.Kinds.{is_trivia_kind}
use Rattle.squawk_kinds.specs.Role.{Role, role, Trivia, Semicolon, Terminator, Command, Open, Close, Other, is_trivia}
use Rattle.squawk_kinds.specs.declared.numbers.TheConstants.Number as kind
use Rattle.squawk_lexed.specs.Weave.{non_trivia_kind}
use Rattle.squawk_split.specs.CopyFromStdin.{open_parens_after}
use Rattle.squawk_statements.specs.Children.{ends_statement, open_groups_after}
use Rattle.squawk_statements.specs.declared.division.Division.{Division}

-- trivia by kind and by role
trivia_is : (k : ℕ) → is_trivia_kind k ≡ is_trivia (role k)
unfolding role is_trivia_kind
trivia_is k =
    by (eqb k kind.WHITESPACE || eqb k kind.COMMENT) (eqb k kind.SEMICOLON)
    (eqb k kind.PSQL_TERMINATOR_TEXT) (eqb k kind.PSQL_COMMAND_TEXT) (eqb k kind.L_PAREN)
    (eqb k kind.R_PAREN)
  where
    by : (a b c d e f : Bool) → a ≡ is_trivia (cond a Trivia (cond b Semicolon (cond c Terminator
        (cond d Command (cond e Open (cond f Close Other))))))
    by true b c d e f = refl
    by false true c d e f = refl
    by false false true d e f = refl
    by false false false true e f = refl
    by false false false false true f = refl
    by false false false false false true = refl
    by false false false false false false = refl

pub trivia_has_no_kind : (k : ℕ) → is_trivia (role k) ≡ true → non_trivia_kind k ≡ []
trivia_has_no_kind k t = ap (λ b. cond b [] (k ∷ [])) (trivia_is k ∙ t)

pub other_has_its_kind : (k : ℕ) → is_trivia (role k) ≡ false → non_trivia_kind k ≡ k ∷ []
other_has_its_kind k t = ap (λ b. cond b [] (k ∷ [])) (trivia_is k ∙ t)

pub ending_is_not_trivia : (d : Division) (n : ℕ) (f : Role) → ends_statement d n f ≡ true
    → is_trivia f ≡ false
ending_is_not_trivia d n Trivia e = absurd (cc)
ending_is_not_trivia d n Semicolon e = refl
ending_is_not_trivia d n Terminator e = refl
ending_is_not_trivia d n Command e = refl
ending_is_not_trivia d n Open e = refl
ending_is_not_trivia d n Close e = refl
ending_is_not_trivia d n Other e = refl

pub trivia_keeps_groups : (n : ℕ) (f : Role) → is_trivia f ≡ true → open_groups_after n f ≡ n
trivia_keeps_groups n Trivia t = refl
trivia_keeps_groups n Semicolon t = absurd (cc)
trivia_keeps_groups n Terminator t = absurd (cc)
trivia_keeps_groups n Command t = absurd (cc)
trivia_keeps_groups n Open t = absurd (cc)
trivia_keeps_groups n Close t = absurd (cc)
trivia_keeps_groups n Other t = absurd (cc)

-- parentheses are counted as groups are
opened : (n : ℕ) → open_parens_after n kind.L_PAREN ≡ open_groups_after n (role kind.L_PAREN)
unfolding role
opened zero = refl
opened (suc n) = omega arith

closed : (n : ℕ) → open_parens_after n kind.R_PAREN ≡ open_groups_after n (role kind.R_PAREN)
unfolding role
closed zero = refl
closed (suc n) = refl

plain : (n k : ℕ) → eqb k kind.L_PAREN ≡ false → eqb k kind.R_PAREN ≡ false
    → open_parens_after n k ≡ n
plain zero k l r = rw l refl
plain (suc n) k l r = rw (l, r) (omega arith)

plain_groups : (n k : ℕ) → eqb k kind.L_PAREN ≡ false → eqb k kind.R_PAREN ≡ false
    → open_groups_after n (role k) ≡ n
unfolding role
plain_groups n k l r =
    rw (l, r) (by (eqb k kind.WHITESPACE || eqb k kind.COMMENT) (eqb k kind.SEMICOLON)
    (eqb k kind.PSQL_TERMINATOR_TEXT) (eqb k kind.PSQL_COMMAND_TEXT))
  where
    by : (a b c d : Bool) → open_groups_after n (cond a Trivia (cond b Semicolon (cond c Terminator
        (cond d Command Other)))) ≡ n
    by true b c d = refl
    by false true c d = refl
    by false false true d = refl
    by false false false true = refl
    by false false false false = refl

pub parens_are_groups : (n k : ℕ) → open_parens_after n k ≡ open_groups_after n (role k)
parens_are_groups n k = by (cases_eq k kind.L_PAREN) (cases_eq k kind.R_PAREN)
  where
    by : (k ≡ kind.L_PAREN) ⊎ (k ≡ kind.L_PAREN → ⊥) → (k ≡ kind.R_PAREN) ⊎ (k ≡ kind.R_PAREN → ⊥)
        → open_parens_after n k ≡ open_groups_after n (role k)
    by (inl is) right = ap (open_parens_after n) is ∙ opened n
        ∙ ap (λ x. open_groups_after n (role x)) (sym is)
    by (inr l) (inl is) = ap (open_parens_after n) is ∙ closed n
        ∙ ap (λ x. open_groups_after n (role x)) (sym is)
    by (inr l) (inr r) =
        let not_left : eqb k kind.L_PAREN ≡ false = grind (arith, nat_tests) in
        let not_right : eqb k kind.R_PAREN ≡ false = grind (arith, nat_tests) in
        plain n k not_left not_right ∙ sym (plain_groups n k not_left not_right)

-- a kind opens at most one group
pub groups_grow : (n : ℕ) (f : Role) → open_groups_after n f ≤ n + 1
groups_grow n Trivia = omega arith
groups_grow n Semicolon = omega arith
groups_grow n Terminator = omega arith
groups_grow n Command = omega arith
groups_grow n Open = omega arith
groups_grow zero Close = omega arith
groups_grow (suc n) Close = omega arith
groups_grow n Other = omega arith
