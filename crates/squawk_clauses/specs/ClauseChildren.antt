-- The clause grammar is a grammar of children. A law of the trait `ChildGrammar` may cite
-- definitions alone, so the proof stands here.
use Rattle.std.specs.Prelude.{◌≡◌, ℕ, zero, suc, ◌==◌, Bool, true, false, List, [], ◌∷◌, ◌++◌, Option, Some, None, refl, if◌then◌else◌}
use Rattle.std.proofs.Common.{ap, sym, ◌∙◌, append_assoc}
use Rattle.std.proofs.lemmas.Bool.{eqb-true}
use Rattle.std.proofs.lemmas.List.{append-nil}
use Rattle.squawk_events.specs.Lawful.{token_kinds}
use Rattle.squawk_events.specs.declared.steps.Step.{Step}
use Rattle.squawk_events.specs.declared.steps.Step.TheVariants.{Enter, Token, Exit}
use Rattle.squawk_kinds.specs.Role.{Role, role, Trivia, Semicolon, Terminator, Command, Open, Close, Other}
use Rattle.squawk_kinds.specs.declared.numbers.TheConstants.Number as kind
use Rattle.squawk_statements.specs.Plain.{node_of, exits, groups_open_after, child_steps, unknown_statement_error}
use Rattle.squawk_statements.specs.PlainIsLawful.{steps_by, child_tokens}
use Rattle.squawk_statements.specs.declared.division.Division.{Division}
use Rattle.squawk_statements.specs.declared.division.Division.TheVariants.{Flat, Grouped}
use Rattle.squawk_tree.specs.ChildGrammar.{has_token, is_inside, IsChildSteps, IsGrammarOf}
use Rattle.squawk_tree.specs.PlainChildren.{inside_exits, inside_kind, plain_child}
use Rattle.squawk_clauses.specs.Clauses.{clauses, clause_of, clause_child_steps, clause_end, clause_start, in_clause_after, select_child_steps, select_kind_steps, select_steps}
use Rattle.squawk_clauses.specs.ClausesAreLawful.{closes_select, clauses_lawful, tokens_without}
use Rattle.squawk_clauses.specs.PlainWithoutClauses.{select_steps_by, without_child}

-- ---- no step inside a `SELECT` statement is an `Error`, and each node there has tokens

inside_clause_end : (b : Bool) (xs : List Step) → is_inside (clause_end b ++ xs) ≡ is_inside xs
inside_clause_end true xs = refl
inside_clause_end false xs = refl

inside_start : (b : Bool) (next_clause : Option ℕ) (xs : List Step) → has_token xs ≡ true
    → is_inside (clause_start b next_clause ++ xs) ≡ is_inside xs
inside_start b None xs h = refl
inside_start true (Some node) xs h = rw h refl
inside_start false (Some node) xs h = rw h refl

inside_ending : (n kind : ℕ) (b : Bool) (xs : List Step)
    → is_inside ((exits n ++ clause_end b ++ Token kind ∷ []) ++ xs) ≡ is_inside xs
inside_ending n kind b xs =
    ap is_inside (append_assoc (exits n ++ clause_end b) (Token kind ∷ []) xs
    ∙ append_assoc (exits n) (clause_end b) (Token kind ∷ xs))
    ∙ inside_exits n (clause_end b ++ Token kind ∷ xs) ∙ inside_clause_end b (Token kind ∷ xs)

inside_other : (d : Division) (n kind : ℕ) (f : Role) (b : Bool) (xs : List Step)
    → has_token (steps_by d n kind f ++ xs) ≡ true
    → is_inside ((clause_start b (clause_of n kind) ++ steps_by d n kind f) ++ xs)
    ≡ is_inside xs
inside_other d n kind f b xs h =
    ap is_inside (append_assoc (clause_start b (clause_of n kind)) (steps_by d n kind f) xs)
    ∙ inside_start b (clause_of n kind) (steps_by d n kind f ++ xs) h
    ∙ inside_kind d n kind f xs

inside_select_kind : (d : Division) (n kind : ℕ) (f : Role) (b : Bool) (xs : List Step)
    → is_inside (select_steps_by d b n kind f ++ xs) ≡ is_inside xs
inside_select_kind d n kind Trivia b xs = inside_other d n kind Trivia b xs refl
inside_select_kind Flat n kind Semicolon b xs = inside_ending n kind b xs
inside_select_kind Grouped zero kind Semicolon b xs = inside_ending 0 kind b xs
inside_select_kind Grouped (suc n) kind Semicolon b xs =
    inside_other Grouped (suc n) kind Semicolon b xs refl
inside_select_kind d n kind Terminator b xs = inside_ending n kind b xs
inside_select_kind d n kind Command b xs = inside_other d n kind Command b xs refl
inside_select_kind d n kind Open b xs = inside_other d n kind Open b xs refl
inside_select_kind d n kind Close b xs = inside_other d n kind Close b xs refl
inside_select_kind d n kind Other b xs = inside_other d n kind Other b xs refl

inside_select : (d : Division) (b : Bool) (n : ℕ) (kinds : List ℕ) (xs : List Step)
    → is_inside (select_steps d b n kinds ++ xs) ≡ is_inside xs
inside_select d b n [] xs =
    ap is_inside (append_assoc (exits n) (clause_end b) xs)
    ∙ inside_exits n (clause_end b ++ xs) ∙ inside_clause_end b xs
inside_select d b n (kind ∷ kinds) xs =
    let after = select_steps d (in_clause_after d b n kind) (groups_open_after d n (role kind))
    kinds in
    ap is_inside (append_assoc (select_kind_steps d b n kind) after xs)
    ∙ inside_select_kind d n kind (role kind) b (after ++ xs)
    ∙ inside_select d (in_clause_after d b n kind) (groups_open_after d n (role kind)) kinds xs

-- ---- the grammar

-- the tokens of a child
clause_tokens : (d : Division) (kinds : List ℕ)
    → token_kinds (clause_child_steps d kinds) ≡ kinds
clause_tokens d kinds =
    ap token_kinds (sym (append-nil (clause_child_steps d kinds)))
    ∙ sym (tokens_without [] (clause_child_steps d kinds ++ []))
    ∙ ap token_kinds (without_child d kinds [] [] ∙ append-nil (child_steps d kinds))
    ∙ child_tokens d kinds

-- the steps of a `SELECT` statement
select_child : (d : Division) (kinds : List ℕ) → node_of kinds ≡ kind.SELECT
    → token_kinds (select_child_steps d kinds) ≡ kinds
    → IsChildSteps kinds (select_child_steps d kinds)
select_child d kinds node tokens = record {
  balanced = closes_select d false 0 0 kinds (Exit ∷ []);
  tokens = tokens;
  inner = select_steps d false 0 kinds ++ Exit ∷ [];
  whole = ap (λ n. Enter n ∷ unknown_statement_error n ++ (select_steps d false 0 kinds
      ++ Exit ∷ [])) (sym node);
  inside = inside_select d false 0 kinds (Exit ∷ []);
}

-- the steps of a child
clause_child : (d : Division) (kinds : List ℕ) → IsChildSteps kinds (clause_child_steps d kinds)
clause_child d kinds = by (node_of kinds == kind.SELECT) refl (clause_tokens d kinds)
  where
    by : (b : Bool) → (node_of kinds == kind.SELECT) ≡ b
        → token_kinds (if b then select_child_steps d kinds else child_steps d kinds) ≡ kinds
        → IsChildSteps kinds (if b then select_child_steps d kinds else child_steps d kinds)
    by true is tokens = select_child d kinds (eqb-true (node_of kinds) kind.SELECT is) tokens
    by false is tokens = plain_child d kinds

pub clause_grammar : (d : Division) → IsGrammarOf d (clause_child_steps d) (clauses d)
clause_grammar d = record {
  root = λ kinds. refl;
  lawful = clauses_lawful d;
  children = clause_child d;
}
