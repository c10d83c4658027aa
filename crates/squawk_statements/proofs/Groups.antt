-- A statement's kinds divide into plain kinds and groups, in exactly one way.
use Rattle.std.proofs.lemmas.Bool.{eqb-true}
use Rattle.std.proofs.lemmas.List.{append-nil}
use Rattle.std.specs.Prelude.{if◌then◌else◌, ◌==◌, ◌||◌, ℕ, zero, suc, ◌≡◌, ◌&&◌, not, Bool, true, false, List, [], ◌∷◌, ◌++◌, map, refl}
use Rattle.std.proofs.Common.{ap, sym, ◌∙◌, append_assoc}
use Rattle.squawk_kinds.specs.Role.{role}
use Rattle.squawk_kinds.specs.Role.{Role, Trivia, Semicolon, Terminator, Command, Open, Close, Other}
use Rattle.squawk_kinds.specs.declared.numbers.TheConstants.Number.{WHITESPACE, COMMENT, SEMICOLON, PSQL_TERMINATOR_TEXT, PSQL_COMMAND_TEXT, L_PAREN, R_PAREN, PAREN_EXPR}
use Rattle.squawk_events.specs.declared.steps.Step.TheVariants.{Enter, Token, Exit}
use Rattle.squawk_statements.specs.Groups.{Nesting, Done, Plain, Closed, Unclosed, nesting_kinds, nesting_steps, is_plain, all_closed, is_nesting, stays_open}
use Rattle.squawk_statements.specs.Laws.{groups_left_open}
use Rattle.squawk_statements.specs.Children.{ends_statement, open_groups_after}
use Rattle.squawk_statements.specs.Plain.{body_steps, exits, kind_steps, groups_open_after}
use Rattle.squawk_statements.specs.declared.division.Division.{Division}

-- ---- the steps of a nesting

-- both sides of a test that holds
split : (a b : Bool) → (a && b) ≡ true → (a ≡ true) × (b ≡ true)
split true b h = (refl, h)
split false b h = absurd (cc)

-- the roles of parentheses
is_open : role L_PAREN ≡ Open
unfolding role
is_open = refl

is_close : role R_PAREN ≡ Close
unfolding role
is_close = refl

-- a plain kind is one Token, and opens and closes no group
plain_step : (d : Division) (n kind : ℕ) (f : Role) → role kind ≡ f → is_plain n f ≡ true
    → ends_statement d n f ≡ false → (kind_steps d n kind ≡ Token kind ∷ [])
    × (groups_open_after d n (role kind) ≡ n)
plain_step d n kind Trivia e p h = (rw e refl, rw e refl)
plain_step d n kind Semicolon e p h = (rw (e, h) refl, rw (e, h) refl)
plain_step d n kind Terminator e p h = absurd (cc)
plain_step d n kind Command e p h = (rw e refl, rw e refl)
plain_step d n kind Open e p h = absurd (cc)
plain_step d zero kind Close e p h = (rw e refl, rw e refl)
plain_step d (suc n) kind Close e p h = absurd (cc)
plain_step d n kind Other e p h = (rw e refl, rw e refl)

-- a test that fails
not_false : (b : Bool) → not b ≡ true → b ≡ false
not_false true h = absurd (cc)
not_false false h = refl

-- the steps of a `(`, and of the `)` of a group, before other kinds
open_step : (d : Division) (n : ℕ) (ks : List ℕ)
    → body_steps d n (L_PAREN ∷ ks) ≡ Enter PAREN_EXPR ∷ Token L_PAREN ∷ body_steps d (suc n) ks
open_step d n ks = rw is_open refl

close_step : (d : Division) (n : ℕ) (ks : List ℕ)
    → body_steps d (suc n) (R_PAREN ∷ ks) ≡ Token R_PAREN ∷ Exit ∷ body_steps d n ks
close_step d n ks = rw is_close refl

-- the steps of a nesting whose groups have their `)`, before any kinds
pub closed_nesting_steps : (d : Division) (n : ℕ) (ps : Nesting) (ks : List ℕ)
    → is_nesting d n ps ≡ true → all_closed ps ≡ true
    → body_steps d n (nesting_kinds ps ++ ks) ≡ nesting_steps ps ++ body_steps d n ks
closed_nesting_steps d n Done ks h c = refl
closed_nesting_steps d n (Plain kind rest) ks h c =
    let a = split (is_plain n (role kind) && not (ends_statement d n (role kind)))
    (is_nesting d n rest) h in
    let b = split (is_plain n (role kind)) (not (ends_statement d n (role kind))) a.0 in
    let s = plain_step d n kind (role kind) refl b.0
    (not_false (ends_statement d n (role kind)) b.1) in
    ap (λ xs. xs ++ body_steps d (groups_open_after d n (role kind)) (nesting_kinds rest ++ ks)) s.0
    ∙ ap (λ m. Token kind ∷ body_steps d m (nesting_kinds rest ++ ks)) s.1
    ∙ ap (λ xs. Token kind ∷ xs) (closed_nesting_steps d n rest ks a.1 c)
closed_nesting_steps d n (Closed inside rest) ks h c =
    let a = split (is_nesting d (suc n) inside && all_closed inside) (is_nesting d n rest) h in
    let b = split (is_nesting d (suc n) inside) (all_closed inside) a.0 in
    open_step d n ((nesting_kinds inside ++ R_PAREN ∷ nesting_kinds rest) ++ ks)
    ∙ ap (λ zs. Enter PAREN_EXPR ∷ Token L_PAREN
    ∷ body_steps d (suc n) zs)
    (append_assoc (nesting_kinds inside) (R_PAREN ∷ nesting_kinds rest) ks)
    ∙ ap (λ xs. Enter PAREN_EXPR ∷ Token L_PAREN
    ∷ xs) (closed_nesting_steps d (suc n) inside (R_PAREN ∷ nesting_kinds rest ++ ks) b.0 b.1
    ∙ ap (λ xs. nesting_steps inside ++ xs) (close_step d n (nesting_kinds rest ++ ks)
    ∙ ap (λ xs. Token R_PAREN ∷ Exit ∷ xs) (closed_nesting_steps d n rest ks a.1 c))
    ∙ sym (append_assoc (nesting_steps inside) (Token R_PAREN ∷ Exit
    ∷ nesting_steps rest) (body_steps d n ks)))
closed_nesting_steps d n (Unclosed inside) ks h c = absurd (cc)

-- an Exit before n is n + 1
exit_last : (n : ℕ) → Exit ∷ exits n ≡ exits (suc n)
exit_last n = refl

-- the steps of a nesting, after which all open groups end
pub steps_of_nesting : (d : Division) (n : ℕ) (ps : Nesting) → is_nesting d n ps ≡ true
    → body_steps d n (nesting_kinds ps) ≡ nesting_steps ps ++ exits n
steps_of_nesting d n Done h = refl
steps_of_nesting d n (Plain kind rest) h =
    let a = split (is_plain n (role kind) && not (ends_statement d n (role kind)))
    (is_nesting d n rest) h in
    let b = split (is_plain n (role kind)) (not (ends_statement d n (role kind))) a.0 in
    let s = plain_step d n kind (role kind) refl b.0
    (not_false (ends_statement d n (role kind)) b.1) in
    ap (λ xs. xs ++ body_steps d (groups_open_after d n (role kind)) (nesting_kinds rest)) s.0
    ∙ ap (λ m. Token kind ∷ body_steps d m (nesting_kinds rest)) s.1
    ∙ ap (λ xs. Token kind ∷ xs) (steps_of_nesting d n rest a.1)
steps_of_nesting d n (Closed inside rest) h =
    let a = split (is_nesting d (suc n) inside && all_closed inside) (is_nesting d n rest) h in
    let b = split (is_nesting d (suc n) inside) (all_closed inside) a.0 in
    open_step d n (nesting_kinds inside ++ R_PAREN ∷ nesting_kinds rest)
    ∙ ap (λ xs. Enter PAREN_EXPR ∷ Token L_PAREN
    ∷ xs) (closed_nesting_steps d (suc n) inside (R_PAREN ∷ nesting_kinds rest) b.0 b.1
    ∙ ap (λ xs. nesting_steps inside ++ xs) (close_step d n (nesting_kinds rest)
    ∙ ap (λ xs. Token R_PAREN ∷ Exit ∷ xs) (steps_of_nesting d n rest a.1))
    ∙ sym (append_assoc (nesting_steps inside) (Token R_PAREN ∷ Exit ∷ nesting_steps rest)
    (exits n)))
steps_of_nesting d n (Unclosed inside) h =
    open_step d n (nesting_kinds inside)
    ∙ ap (λ xs. Enter PAREN_EXPR ∷ Token L_PAREN ∷ xs) (steps_of_nesting d (suc n) inside h
    ∙ sym (append_assoc (nesting_steps inside) (Exit ∷ []) (exits n)))

-- ---- such a division exists

-- the nesting inside the innermost open group up to its end, and then those in the groups around it
data Stack : Type 0 where
  Last : Nesting → Stack
  More : Nesting → Stack → Stack

-- a plain kind before them
push : ℕ → Stack → Stack
push k (Last p) = Last (Plain k p)
push k (More p s) = More (Plain k p) s

-- the `(` of the innermost group before them
enter : Stack → Stack
enter (Last p) = Last (Unclosed p)
enter (More p (Last q)) = Last (Closed p q)
enter (More p (More q s)) = More (Closed p q) s

-- the stack of kinds inside n groups, from that of the kinds after the first
divide_by : Role → ℕ → ℕ → (ℕ → Stack) → Stack
divide_by Open n k rest = enter (rest (suc n))
divide_by Close zero k rest = push k (rest zero)
divide_by Close (suc n) k rest = More Done (rest n)
divide_by Trivia n k rest = push k (rest n)
divide_by Semicolon n k rest = push k (rest n)
divide_by Terminator n k rest = push k (rest n)
divide_by Command n k rest = push k (rest n)
divide_by Other n k rest = push k (rest n)

divide : ℕ → List ℕ → Stack
divide n [] = Last Done
divide n (k ∷ ks) = divide_by (role k) n k (λ m. divide m ks)

-- their kinds, in order
stack_kinds : Stack → List ℕ
stack_kinds (Last p) = nesting_kinds p
stack_kinds (More p s) = nesting_kinds p ++ R_PAREN ∷ stack_kinds s

-- a kind before them, and a `(`, and all kinds that are divided
push_kinds : (k : ℕ) (s : Stack) → stack_kinds (push k s) ≡ k ∷ stack_kinds s
unfolding stack_kinds push
push_kinds k (Last p) = refl
push_kinds k (More p s) = refl

enter_kinds : (s : Stack) → stack_kinds (enter s) ≡ L_PAREN ∷ stack_kinds s
unfolding stack_kinds enter
enter_kinds (Last p) = refl
enter_kinds (More p (Last q)) = refl
enter_kinds (More p (More q s)) =
    ap (λ ks. L_PAREN ∷ ks) (append_assoc (nesting_kinds p) (R_PAREN ∷ nesting_kinds q) (R_PAREN
    ∷ stack_kinds s))

-- the only kinds with these roles are the parentheses
open_is : (k : ℕ) → role k ≡ Open → k ≡ L_PAREN
unfolding role
open_is k h =
    by (k == WHITESPACE || k == COMMENT) (k == SEMICOLON) (k == PSQL_TERMINATOR_TEXT)
    (k == PSQL_COMMAND_TEXT) (k == L_PAREN) (k == R_PAREN) refl h
  where
    by : (t a b c d e : Bool) → (k == L_PAREN) ≡ d
        → (if t then Trivia else if a then Semicolon else if b then Terminator
        else if c then Command else if d then Open else if e then Close else Other) ≡ Open
        → k ≡ L_PAREN
    by true a b c d e is h = cc
    by false true b c d e is h = cc
    by false false true c d e is h = cc
    by false false false true d e is h = cc
    by false false false false true e is h = eqb-true k L_PAREN is
    by false false false false false true is h = cc
    by false false false false false false is h = cc

close_is : (k : ℕ) → role k ≡ Close → k ≡ R_PAREN
unfolding role
close_is k h =
    by (k == WHITESPACE || k == COMMENT) (k == SEMICOLON) (k == PSQL_TERMINATOR_TEXT)
    (k == PSQL_COMMAND_TEXT) (k == L_PAREN) (k == R_PAREN) refl h
  where
    by : (t a b c d e : Bool) → (k == R_PAREN) ≡ e
        → (if t then Trivia else if a then Semicolon else if b then Terminator
        else if c then Command else if d then Open else if e then Close else Other) ≡ Close
        → k ≡ R_PAREN
    by true a b c d e is h = cc
    by false true b c d e is h = cc
    by false false true c d e is h = cc
    by false false false true d e is h = cc
    by false false false false true e is h = cc
    by false false false false false true is h = eqb-true k R_PAREN is
    by false false false false false false is h = cc

divide_kinds : (n : ℕ) (ks : List ℕ) → stack_kinds (divide n ks) ≡ ks
unfolding stack_kinds divide divide_by
divide_kinds n [] = refl
divide_kinds n (k ∷ ks) = by (role k) n refl (λ m. divide_kinds m ks)
  where
    by : (f : Role) (n : ℕ) → role k ≡ f → ((m : ℕ) → stack_kinds (divide m ks) ≡ ks)
        → stack_kinds (divide_by f n k (λ m. divide m ks)) ≡ k ∷ ks
    by Open n is more = enter_kinds (divide (suc n) ks) ∙ ap (λ zs. L_PAREN ∷ zs) (more (suc n))
        ∙ ap (λ j. j ∷ ks) (sym (open_is k is))
    by Close zero is more = push_kinds k (divide zero ks) ∙ ap (λ zs. k ∷ zs) (more zero)
    by Close (suc n) is more = ap (λ zs. R_PAREN ∷ zs) (more n)
        ∙ ap (λ j. j ∷ ks) (sym (close_is k is))
    by Trivia n is more = push_kinds k (divide n ks) ∙ ap (λ zs. k ∷ zs) (more n)
    by Semicolon n is more = push_kinds k (divide n ks) ∙ ap (λ zs. k ∷ zs) (more n)
    by Terminator n is more = push_kinds k (divide n ks) ∙ ap (λ zs. k ∷ zs) (more n)
    by Command n is more = push_kinds k (divide n ks) ∙ ap (λ zs. k ∷ zs) (more n)
    by Other n is more = push_kinds k (divide n ks) ∙ ap (λ zs. k ∷ zs) (more n)

-- whether each of a stack is a nesting inside as many groups as are open
are_stacked : Division → ℕ → Stack → Bool
are_stacked d n (Last p) = is_nesting d n p
are_stacked d zero (More p s) = false
are_stacked d (suc n) (More p s) = (is_nesting d (suc n) p && all_closed p) && are_stacked d n s

-- both tests hold
both : (a b : Bool) → a ≡ true → b ≡ true → (a && b) ≡ true
both a b h k = rw (h, k) refl

-- a plain kind before them, the `(` of a group, and all kinds that do not end the statement
push_stacked : (d : Division) (n k : ℕ) (s : Stack) → is_plain n (role k) ≡ true
    → ends_statement d n (role k) ≡ false → are_stacked d n s ≡ true
    → are_stacked d n (push k s) ≡ true
unfolding are_stacked push
push_stacked d n k (Last p) plain goes h = rw (plain, goes) h
push_stacked d zero k (More p s) plain goes h = absurd (cc)
push_stacked d (suc n) k (More p s) plain goes h = rw (plain, goes) h

enter_stacked : (d : Division) (n : ℕ) (s : Stack) → are_stacked d (suc n) s ≡ true
    → are_stacked d n (enter s) ≡ true
unfolding are_stacked enter
enter_stacked d n (Last p) h = h
enter_stacked d n (More p (Last q)) h = h
enter_stacked d zero (More p (More q s)) h = absurd (no (is_nesting d 1 p && all_closed p) h)
  where
    no : (a : Bool) → (a && false) ≡ true → ⊥
    no true h = cc
    no false h = cc
enter_stacked d (suc n) (More p (More q s)) h =
    let a = split (is_nesting d (suc (suc n)) p
    && all_closed p) ((is_nesting d (suc n) q && all_closed q) && are_stacked d n s) h in
    let b = split (is_nesting d (suc n) q && all_closed q) (are_stacked d n s) a.1 in
    let c = split (is_nesting d (suc n) q) (all_closed q) b.0 in
    both ((((is_nesting d (suc (suc n)) p && all_closed p) && is_nesting d (suc n) q))
    && all_closed q) (are_stacked d n s)
    (both ((is_nesting d (suc (suc n)) p && all_closed p)
    && is_nesting d (suc n) q) (all_closed q) (both (is_nesting d (suc (suc n)) p
    && all_closed p) (is_nesting d (suc n) q) a.0 c.0) c.1) b.1

divide_stacked : (d : Division) (n : ℕ) (ks : List ℕ) → stays_open d n ks ≡ true
    → are_stacked d n (divide n ks) ≡ true
unfolding are_stacked divide divide_by
divide_stacked d n [] h = refl
divide_stacked d n (k ∷ ks) h =
    let a = split (not (ends_statement d n (role k)))
    (stays_open d (open_groups_after n (role k)) ks) h in
    by (role k) n refl (not_false (ends_statement d n (role k)) a.0) a.1 (λ m e.
    divide_stacked d m ks e)
  where
    by : (f : Role) (n : ℕ) → role k ≡ f → ends_statement d n (role k) ≡ false
        → stays_open d (open_groups_after n (role k)) ks ≡ true
        → ((m : ℕ) → stays_open d m ks ≡ true → are_stacked d m (divide m ks) ≡ true)
        → are_stacked d n (divide_by f n k (λ m. divide m ks)) ≡ true
    by Open n is goes rest more =
        enter_stacked d n (divide (suc n) ks)
        (more (suc n) (ap (λ f. stays_open d (open_groups_after n f) ks) (sym is) ∙ rest))
    by Close zero is goes rest more =
        push_stacked d zero k (divide zero ks) (ap (is_plain zero) is) goes
        (more zero (ap (λ f. stays_open d (open_groups_after zero f) ks) (sym is) ∙ rest))
    by Close (suc n) is goes rest more =
        more n (ap (λ f. stays_open d (open_groups_after (suc n) f) ks) (sym is) ∙ rest)
    by Trivia n is goes rest more =
        push_stacked d n k (divide n ks) (ap (is_plain n) is) goes
        (more n (ap (λ f. stays_open d (open_groups_after n f) ks) (sym is) ∙ rest))
    by Semicolon n is goes rest more =
        push_stacked d n k (divide n ks) (ap (is_plain n) is) goes
        (more n (ap (λ f. stays_open d (open_groups_after n f) ks) (sym is) ∙ rest))
    by Terminator n is goes rest more =
        push_stacked d n k (divide n ks) (ap (is_plain n) is) goes
        (more n (ap (λ f. stays_open d (open_groups_after n f) ks) (sym is) ∙ rest))
    by Command n is goes rest more =
        push_stacked d n k (divide n ks) (ap (is_plain n) is) goes
        (more n (ap (λ f. stays_open d (open_groups_after n f) ks) (sym is) ∙ rest))
    by Other n is goes rest more =
        push_stacked d n k (divide n ks) (ap (is_plain n) is) goes
        (more n (ap (λ f. stays_open d (open_groups_after n f) ks) (sym is) ∙ rest))

-- kinds none of which ends the statement are those of a nesting, and have its steps
pub body_divides : (d : Division) (ks : List ℕ) → stays_open d 0 ks ≡ true → (ps : Nesting)
    × (nesting_kinds ps ≡ ks) × (is_nesting d 0 ps ≡ true) × (body_steps d 0 ks ≡ nesting_steps ps)
unfolding stack_kinds are_stacked
body_divides d ks h = by (divide 0 ks) (divide_kinds 0 ks) (divide_stacked d 0 ks h)
  where
    by : (s : Stack) → stack_kinds s ≡ ks → are_stacked d 0 s ≡ true → (ps : Nesting)
        × (nesting_kinds ps ≡ ks) × (is_nesting d 0 ps ≡ true)
        × (body_steps d 0 ks ≡ nesting_steps ps)
    by (Last p) kinds is = (
      p,
      kinds,
      is,
      ap (body_steps d 0) (sym kinds)
          ∙ steps_of_nesting d 0 p is ∙ append-nil (nesting_steps p),
    )
    by (More p s) kinds is = absurd (cc)

-- ---- there is only one

-- the innermost nesting as a group with its `)`
close_in : Nesting → Stack → Stack
close_in p (Last q) = Last (Closed p q)
close_in p (More q s) = More (Closed p q) s

enter_more : (p : Nesting) (s : Stack) → enter (More p s) ≡ close_in p s
unfolding enter close_in
enter_more p (Last q) = refl
enter_more p (More q s) = refl

-- a nesting whose groups have their `)`, before a stack
onto : Nesting → Stack → Stack
onto Done s = s
onto (Plain k rest) s = push k (onto rest s)
onto (Closed inside rest) s = close_in inside (onto rest s)
onto (Unclosed inside) s = s

onto_done : (p : Nesting) (s : Stack) → all_closed p ≡ true → onto p (More Done s) ≡ More p s
unfolding onto push close_in
onto_done Done s h = refl
onto_done (Plain k rest) s h = ap (push k) (onto_done rest s h)
onto_done (Closed inside rest) s h = ap (close_in inside) (onto_done rest s h)
onto_done (Unclosed inside) s h = absurd (cc)

-- the division of a `(`, of a `)` and of a plain kind
divide_open : (n : ℕ) (ks : List ℕ) → divide n (L_PAREN ∷ ks) ≡ enter (divide (suc n) ks)
unfolding divide divide_by
divide_open n ks = rw is_open refl

divide_close : (n : ℕ) (ks : List ℕ) → divide (suc n) (R_PAREN ∷ ks) ≡ More Done (divide n ks)
unfolding divide divide_by
divide_close n ks = rw is_close refl

divide_plain : (n k : ℕ) (ks : List ℕ) → is_plain n (role k) ≡ true
    → divide n (k ∷ ks) ≡ push k (divide n ks)
unfolding divide push divide_by
divide_plain n k ks h = by (role k) n h
  where
    by : (f : Role) (n : ℕ) → is_plain n f ≡ true
        → divide_by f n k (λ m. divide m ks) ≡ push k (divide n ks)
    by Open n h = absurd (cc)
    by Close zero h = refl
    by Close (suc n) h = absurd (cc)
    by Trivia n h = refl
    by Semicolon n h = refl
    by Terminator n h = refl
    by Command n h = refl
    by Other n h = refl

-- the stack of the kinds of such a nesting and others is the nesting before the stack of the others
divide_onto : (d : Division) (n : ℕ) (ps : Nesting) (ks : List ℕ) → is_nesting d n ps ≡ true
    → all_closed ps ≡ true → divide n (nesting_kinds ps ++ ks) ≡ onto ps (divide n ks)
unfolding onto
divide_onto d n Done ks h c = refl
divide_onto d n (Plain kind rest) ks h c =
    let a = split (is_plain n (role kind) && not (ends_statement d n (role kind)))
    (is_nesting d n rest) h in
    let b = split (is_plain n (role kind)) (not (ends_statement d n (role kind))) a.0 in
    divide_plain n kind (nesting_kinds rest ++ ks) b.0
    ∙ ap (push kind) (divide_onto d n rest ks a.1 c)
divide_onto d n (Closed inside rest) ks h c =
    let a = split (is_nesting d (suc n) inside && all_closed inside) (is_nesting d n rest) h in
    let b = split (is_nesting d (suc n) inside) (all_closed inside) a.0 in
    divide_open n ((nesting_kinds inside ++ R_PAREN ∷ nesting_kinds rest) ++ ks)
    ∙ ap (λ zs. enter (divide (suc n) zs)) (append_assoc (nesting_kinds inside) (R_PAREN
    ∷ nesting_kinds rest) ks)
    ∙ ap enter (divide_onto d (suc n) inside (R_PAREN ∷ nesting_kinds rest ++ ks) b.0 b.1
    ∙ ap (onto inside) (divide_close n (nesting_kinds rest ++ ks)
    ∙ ap (More Done) (divide_onto d n rest ks a.1 c))
    ∙ onto_done inside (onto rest (divide n ks)) b.1)
    ∙ enter_more inside (onto rest (divide n ks))
divide_onto d n (Unclosed inside) ks h c = absurd (cc)

-- and the stack of the kinds of any nesting is that nesting
divide_last : (d : Division) (n : ℕ) (ps : Nesting) → is_nesting d n ps ≡ true
    → divide n (nesting_kinds ps) ≡ Last ps
unfolding push enter divide
divide_last d n Done h = refl
divide_last d n (Plain kind rest) h =
    let a = split (is_plain n (role kind) && not (ends_statement d n (role kind)))
    (is_nesting d n rest) h in
    let b = split (is_plain n (role kind)) (not (ends_statement d n (role kind))) a.0 in
    divide_plain n kind (nesting_kinds rest) b.0 ∙ ap (push kind) (divide_last d n rest a.1)
divide_last d n (Closed inside rest) h =
    let a = split (is_nesting d (suc n) inside && all_closed inside) (is_nesting d n rest) h in
    let b = split (is_nesting d (suc n) inside) (all_closed inside) a.0 in
    divide_open n (nesting_kinds inside ++ R_PAREN ∷ nesting_kinds rest)
    ∙ ap enter (divide_onto d (suc n) inside (R_PAREN ∷ nesting_kinds rest) b.0 b.1
    ∙ ap (onto inside) (divide_close n (nesting_kinds rest)
    ∙ ap (More Done) (divide_last d n rest a.1))
    ∙ onto_done inside (Last rest) b.1)
divide_last d n (Unclosed inside) h = divide_open n (nesting_kinds inside)
    ∙ ap enter (divide_last d (suc n) inside h)

-- the innermost nesting
first_of_stack : Stack → Nesting
first_of_stack (Last p) = p
first_of_stack (More p s) = p

-- nestings with the same kinds are the same
pub division_is_unique : (d : Division) (ps qs : Nesting) → is_nesting d 0 ps ≡ true
    → is_nesting d 0 qs ≡ true → nesting_kinds ps ≡ nesting_kinds qs → ps ≡ qs
unfolding first_of_stack
division_is_unique d ps qs h k same = ap first_of_stack (sym (divide_last d 0 ps h)
    ∙ ap (divide 0) same ∙ divide_last d 0 qs k)

-- ---- the closing token

-- the token that ends a statement stands after all of its groups
pub ending_token_is_last : (d : Division) (n : ℕ) (ks : List ℕ) (k : ℕ) → stays_open d n ks ≡ true
    → ends_statement d (groups_left_open n (map role ks)) (role k) ≡ true
    → body_steps d n (ks ++ k ∷ []) ≡ body_steps d n ks ++ Token k ∷ []
ending_token_is_last d n [] k h e = rw e (append-nil (exits n ++ Token k ∷ []))
ending_token_is_last d n (j ∷ ks) k h e =
    let a = split (not (ends_statement d n (role j)))
    (stays_open d (open_groups_after n (role j)) ks) h in
    let goes : groups_open_after d n (role j) ≡ open_groups_after n (role j) =
    rw (not_false (ends_statement d n (role j)) a.0) refl in
    ap (λ xs. kind_steps d n j ++ xs)
    (ap (λ m. body_steps d m (ks ++ k ∷ [])) goes
    ∙ ending_token_is_last d (open_groups_after n (role j)) ks k a.1 e
    ∙ ap (λ m. body_steps d m ks ++ Token k ∷ []) (sym goes))
    ∙ sym (append_assoc (kind_steps d n j) (body_steps d (groups_open_after d n (role j)) ks)
    (Token k ∷ []))
