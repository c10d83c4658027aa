-- The clauses of a `SELECT` statement: where each begins and ends, and its steps.
use Rattle.std.proofs.Common.{◌≡◌, ◌<◌, ℕ, zero, suc, ◌||◌, not, Bool, true, false, List, [], ◌∷◌, ◌++◌, length, map, take, slice_index, Option, Some, None, is_some, refl, ap, sym, ◌∙◌, append_assoc, append-nil, subst, arith}
use Rattle.std.proofs.lemmas.Bool.{and_parts}
use Rattle.squawk_kinds.specs.Role.{Role, role, is_other, Trivia, Semicolon, Terminator, Command, Open, Close, Other}
use Rattle.squawk_events.specs.declared.steps.Step.{Step}
use Rattle.squawk_events.specs.declared.steps.Step.TheVariants.{Enter, Token, Exit}
use Rattle.squawk_statements.specs.Children.{ends_statement, open_groups_after}
use Rattle.squawk_statements.specs.Groups.{stays_open}
use Rattle.squawk_statements.specs.Laws.{groups_left_open}
use Rattle.squawk_statements.specs.Plain.{body_steps, exits, kind_steps}
use Rattle.squawk_statements.specs.declared.division.Division.{Division}
use Rattle.squawk_clauses.specs.Clauses.{clause_of, clause_end, clause_in, clause_rows, clause_start, select_steps}
use Rattle.squawk_clauses.specs.Divided.{AreClauses, NoClause, OneClause, ClausesDivideStatements, EndingTokenIsInNoClause}
use Rattle.squawk_clauses.proofs.Stays.{clause_kind_is_other, is_other_or_none}

not_false : (b : Bool) → not b ≡ true → b ≡ false
not_false true h = sym h
not_false false h = refl

-- ---- a kind that does not end the statement

select_other : (d : Division) (b : Bool) (n k : ℕ) (ks : List ℕ)
    → ends_statement d n (role k) ≡ false
    → select_steps d b n (k ∷ ks)
    ≡ (clause_start b (clause_of n k) ++ kind_steps d n k)
    ++ select_steps d (b || is_some (clause_of n k)) (open_groups_after n (role k)) ks
select_other d b n k ks goes = rw goes refl

body_other : (d : Division) (n k : ℕ) (ks : List ℕ) → ends_statement d n (role k) ≡ false
    → kind_steps d n k ++ body_steps d (open_groups_after n (role k)) ks
    ≡ body_steps d n (k ∷ ks)
body_other d n k ks goes = rw goes refl

-- ---- the token that ends a statement

ending_token : (d : Division) (b : Bool) (n : ℕ) (ks : List ℕ) (k : ℕ)
    → stays_open d n ks ≡ true
    → ends_statement d (groups_left_open n (map role ks)) (role k) ≡ true
    → select_steps d b n (ks ++ k ∷ []) ≡ select_steps d b n ks ++ Token k ∷ []
ending_token d b n [] k h e = rw e (append-nil (exits n ++ clause_end b ++ Token k ∷ []))
ending_token d b n (j ∷ ks) k h e =
    let parts = and_parts (not (ends_statement d n (role j)))
    (stays_open d (open_groups_after n (role j)) ks) h in
    let goes = not_false (ends_statement d n (role j)) parts.0 in
    let here = clause_start b (clause_of n j) ++ kind_steps d n j in
    let in_after = b || is_some (clause_of n j) in
    let after = open_groups_after n (role j) in
    select_other d b n j (ks ++ k ∷ []) goes
    ∙ ap (λ xs. here ++ xs) (ending_token d in_after after ks k parts.1 e)
    ∙ sym (append_assoc here (select_steps d in_after after ks) (Token k ∷ []))
    ∙ ap (λ xs. xs ++ Token k ∷ []) (sym (select_other d b n j ks goes))

pub ending_token_is_in_no_clause : EndingTokenIsInNoClause
ending_token_is_in_no_clause d kinds k h e = ending_token d false 0 kinds k h e

-- ---- the division into clauses

-- `NoneBegins` and `IsOutsideAfter` of kinds inside n groups
abbrev NoneFrom : ℕ → List ℕ → Type 0
NoneFrom n kinds = (i : ℕ) → i < length kinds → groups_left_open n (map role (take i kinds)) ≡ 0
    → clause_in clause_rows (slice_index kinds i) ≡ None

abbrev OutsideFrom : ℕ → List ℕ → List ℕ → Type 0
OutsideFrom n kinds more = 0 < length more → groups_left_open n (map role kinds) ≡ 0

-- kinds inside n groups, and maybe in a clause, are divided into the rest of this and clauses
record Divided (d : Division) (b : Bool) (n : ℕ) (kinds : List ℕ) : Type 0 where
  before : List ℕ
  after : List ℕ
  steps : List Step
  whole : before ++ after ≡ kinds
  none : NoneFrom n before
  outside : OutsideFrom n before after
  clauses : AreClauses d after steps
  same : select_steps d b n kinds ≡ body_steps d n before ++ (clause_end b ++ steps)

-- one more kind in no new clause
none_more : (n k : ℕ) (ks : List ℕ) → clause_of n k ≡ None
    → NoneFrom (open_groups_after n (role k)) ks → NoneFrom n (k ∷ ks)
none_more n k ks none rest zero within outside = by n outside none
  where
    by : (n : ℕ) → n ≡ 0 → clause_of n k ≡ None → clause_in clause_rows k ≡ None
    by zero is none = none
    by (suc n) is none = absurd (omega (arith, is))
none_more n k ks none rest (suc i) within outside = rest i (omega arith) outside

or_false : (b : Bool) → (b || false) ≡ b
or_false true = refl
or_false false = refl

or_true : (b : Bool) → (b || true) ≡ true
or_true true = refl
or_true false = refl

divided_plain : (d : Division) (b : Bool) (n k : ℕ) (ks : List ℕ)
    → ends_statement d n (role k) ≡ false → clause_of n k ≡ None
    → Divided d b (open_groups_after n (role k)) ks → Divided d b n (k ∷ ks)
divided_plain d b n k ks goes none rest = record {
  before = k ∷ rest.before;
  after = rest.after;
  steps = rest.steps;
  whole = ap (λ all. k ∷ all) rest.whole;
  none = none_more n k rest.before none rest.none;
  outside = rest.outside;
  clauses = rest.clauses;
  same = select_other d b n k ks goes
      ∙ rw (none, or_false b) (ap (λ xs. kind_steps d n k ++ xs) rest.same)
      ∙ sym (append_assoc (kind_steps d n k)
      (body_steps d (open_groups_after n (role k)) rest.before) (clause_end b ++ rest.steps))
      ∙ ap (λ xs. xs ++ (clause_end b ++ rest.steps)) (body_other d n k rest.before goes);
}

-- a kind that begins a clause is in no group, and neither is what follows it
other_stays : (f : Role) → is_other f ≡ true → open_groups_after 0 f ≡ 0
other_stays Trivia h = refl
other_stays Semicolon h = refl
other_stays Terminator h = refl
other_stays Command h = refl
other_stays Open h = absurd (cc h)
other_stays Close h = refl
other_stays Other h = refl

-- the steps of the kinds from a clause on
steps_from_clause : (b : Bool) (node : ℕ) (here others later steps : List Step)
    → later ≡ others ++ (Exit ∷ steps)
    → (clause_start b (Some node) ++ here) ++ later
    ≡ clause_end b ++ (Enter node ∷ (here ++ others) ++ Exit ∷ steps)
steps_from_clause true node here others later steps is =
    ap (λ xs. Exit ∷ Enter node ∷ here ++ xs) is
    ∙ ap (λ xs. Exit ∷ Enter node ∷ xs) (sym (append_assoc here others (Exit ∷ steps)))
steps_from_clause false node here others later steps is =
    ap (λ xs. Enter node ∷ here ++ xs) is
    ∙ ap (λ xs. Enter node ∷ xs) (sym (append_assoc here others (Exit ∷ steps)))

divided_clause : (d : Division) (b : Bool) (k node : ℕ) (ks : List ℕ)
    → ends_statement d 0 (role k) ≡ false → clause_in clause_rows k ≡ Some node
    → open_groups_after 0 (role k) ≡ 0
    → Divided d true 0 ks → Divided d b 0 (k ∷ ks)
divided_clause d b k node ks goes begins stays rest = record {
  before = [];
  after = k ∷ rest.before ++ rest.after;
  steps = Enter node ∷ body_steps d 0 (k ∷ rest.before) ++ Exit ∷ rest.steps;
  whole = ap (λ all. k ∷ all) rest.whole;
  none = λ i within outside. absurd (omega arith);
  outside = λ more. refl;
  clauses = OneClause node k rest.before rest.after rest.steps begins rest.none
      (λ more. ap (λ n. groups_left_open n (map role rest.before)) stays ∙ rest.outside more)
      rest.clauses;
  same = select_other d b 0 k ks goes
      ∙ rw (begins, or_true b, stays) (steps_from_clause b node (kind_steps d 0 k)
      (body_steps d 0 rest.before) (select_steps d true 0 ks) rest.steps rest.same)
      ∙ ap (λ xs. clause_end b ++ (Enter node ∷ xs ++ Exit ∷ rest.steps))
      (ap (λ n. kind_steps d 0 k ++ body_steps d n rest.before) (sym stays)
      ∙ body_other d 0 k rest.before goes);
}

divided : (d : Division) (b : Bool) (n : ℕ) (kinds : List ℕ) → stays_open d n kinds ≡ true
    → Divided d b n kinds
divided d b n [] h = record {
  before = [];
  after = [];
  steps = [];
  whole = refl;
  none = λ i within outside. absurd (omega arith);
  outside = λ more. absurd (omega arith);
  clauses = NoClause;
  same = ap (λ xs. exits n ++ xs) (sym (append-nil (clause_end b)));
}
divided d b n (k ∷ ks) h =
    let parts = and_parts (not (ends_statement d n (role k)))
    (stays_open d (open_groups_after n (role k)) ks) h in
    by n (not_false (ends_statement d n (role k)) parts.0) (clause_of n k) refl
    (clause_kind_is_other n k)
    (λ in_clause. divided d in_clause (open_groups_after n (role k)) ks parts.1)
  where
    by : (n : ℕ) → ends_statement d n (role k) ≡ false → (next_clause : Option ℕ)
        → clause_of n k ≡ next_clause → is_other_or_none (role k) next_clause ≡ true
        → ((in_clause : Bool) → Divided d in_clause (open_groups_after n (role k)) ks)
        → Divided d b n (k ∷ ks)
    by n goes None is other rest = divided_plain d b n k ks goes is (rest b)
    by zero goes (Some node) is other rest =
        let stays = other_stays (role k) other in
        divided_clause d b k node ks goes is stays
        (subst (λ m. Divided d true m ks) stays (rest true))
    by (suc n) goes (Some node) is other rest = absurd (cc is)

pub clauses_divide_statements : ClausesDivideStatements
clauses_divide_statements d kinds h =
    let found = divided d false 0 kinds h in record {
      before = found.before;
      after = found.after;
      clause_steps = found.steps;
      whole = found.whole;
      none = found.none;
      outside = found.outside;
      clauses = found.clauses;
      same = found.same;
    }
