-- The plain grammar is a grammar of children. A law of the trait `ChildGrammar` may cite
-- definitions alone, so the proof stands here.
use Rattle.std.specs.Prelude.{◌≡◌, ℕ, zero, suc, List, [], ◌∷◌, ◌++◌, refl}
use Rattle.std.proofs.Common.{ap, ◌∙◌, append_assoc}
use Rattle.squawk_events.specs.declared.steps.Step.{Step}
use Rattle.squawk_events.specs.declared.steps.Step.TheVariants.{Enter, Token, Exit}
use Rattle.squawk_kinds.specs.Role.{Role, role, Trivia, Semicolon, Terminator, Command, Open, Close, Other}
use Rattle.squawk_statements.specs.Plain.{plain, node_of, body_steps, exits, kind_steps, groups_open_after, unknown_statement_error, child_steps}
use Rattle.squawk_statements.specs.PlainIsLawful.{steps_by, plain_lawful, child_balanced, child_tokens}
use Rattle.squawk_statements.specs.declared.division.Division.{Division}
use Rattle.squawk_statements.specs.declared.division.Division.TheVariants.{Flat, Grouped}
use Rattle.squawk_tree.specs.ChildGrammar.{is_inside, IsChildSteps, IsGrammarOf}

-- ---- no step inside a child is an `Error`, and each node there has tokens

pub inside_exits : (n : ℕ) (xs : List Step) → is_inside (exits n ++ xs) ≡ is_inside xs
inside_exits zero xs = refl
inside_exits (suc n) xs = inside_exits n xs

inside_end : (n kind : ℕ) (xs : List Step)
    → is_inside ((exits n ++ Token kind ∷ []) ++ xs) ≡ is_inside xs
inside_end n kind xs = ap is_inside (append_assoc (exits n) (Token kind ∷ []) xs)
    ∙ inside_exits n (Token kind ∷ xs)

pub inside_kind : (d : Division) (n kind : ℕ) (f : Role) (xs : List Step)
    → is_inside (steps_by d n kind f ++ xs) ≡ is_inside xs
inside_kind d n kind Trivia xs = refl
inside_kind Flat n kind Semicolon xs = inside_end n kind xs
inside_kind Grouped zero kind Semicolon xs = refl
inside_kind Grouped (suc n) kind Semicolon xs = refl
inside_kind d n kind Terminator xs = inside_end n kind xs
inside_kind d n kind Command xs = refl
inside_kind d n kind Open xs = refl
inside_kind d zero kind Close xs = refl
inside_kind d (suc n) kind Close xs = refl
inside_kind d n kind Other xs = refl

inside_body : (d : Division) (n : ℕ) (kinds : List ℕ) (xs : List Step)
    → is_inside (body_steps d n kinds ++ xs) ≡ is_inside xs
inside_body d n [] xs = inside_exits n xs
inside_body d n (kind ∷ kinds) xs =
    let after = body_steps d (groups_open_after d n (role kind)) kinds in
    ap is_inside (append_assoc (kind_steps d n kind) after xs)
    ∙ inside_kind d n kind (role kind) (after ++ xs)
    ∙ inside_body d (groups_open_after d n (role kind)) kinds xs

-- ---- the grammar

-- the steps of a child
pub plain_child : (d : Division) (kinds : List ℕ) → IsChildSteps kinds (child_steps d kinds)
plain_child d kinds = record {
  balanced = child_balanced d kinds;
  tokens = child_tokens d kinds;
  inner = body_steps d 0 kinds ++ Exit ∷ [];
  whole = ap (λ xs. Enter (node_of kinds) ∷ xs)
      (append_assoc (unknown_statement_error (node_of kinds)) (body_steps d 0 kinds) (Exit ∷ []));
  inside = inside_body d 0 kinds (Exit ∷ []);
}

pub plain_grammar : (d : Division) → IsGrammarOf d (child_steps d) (plain d)
plain_grammar d = record {
  root = λ kinds. refl;
  lawful = plain_lawful d;
  children = plain_child d;
}
