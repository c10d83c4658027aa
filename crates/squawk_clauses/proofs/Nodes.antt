-- Kinds without trivia, and the node of a child of such kinds.
use Rattle.std.proofs.Common.{◌≡◌, ℕ, zero, suc, ◌==◌, IsTrue, Option, not, Bool, true, false, List, [], ◌∷◌, take, drop, ap, refl, ◌∙◌, sym, unwrap_or, if◌then◌else◌}
use Rattle.std.proofs.lemmas.Bool.{and_parts}
use Rattle.squawk_events.specs.Kinds.{has_no_trivia, is_trivia_kind, without_trivia}
use Rattle.squawk_kinds.specs.Role.{role}
use Rattle.squawk_kinds.specs.declared.numbers.TheConstants.Number.{ERROR, SELECT}
use Rattle.squawk_statements.specs.First.{child_node, node_by}
use Rattle.squawk_statements.specs.Plain.{node_of, child_steps}
use Rattle.squawk_statements.specs.declared.division.Division.{Division}
use Rattle.squawk_clauses.specs.Clauses.{clause_child_steps, select_child_steps}

-- kinds without trivia stay when trivia is left out
without_none : (kinds : List ℕ) → has_no_trivia kinds ≡ true → without_trivia kinds ≡ kinds
without_none [] h = refl
without_none (k ∷ ks) h =
    let parts = and_parts (not (is_trivia_kind k)) (has_no_trivia ks) h in
    by (is_trivia_kind k) parts.0 (without_none ks parts.1)
  where
    by : (b : Bool) → not b ≡ true → without_trivia ks ≡ ks
        → (if b then without_trivia ks else k ∷ without_trivia ks) ≡ k ∷ ks
    by true h rest = absurd (cc h)
    by false h rest = ap (λ all. k ∷ all) rest

-- the first of such kinds are such kinds
pub no_trivia_take : (n : ℕ) (kinds : List ℕ) → has_no_trivia kinds ≡ true
    → has_no_trivia (take n kinds) ≡ true
no_trivia_take zero kinds h = refl
no_trivia_take (suc n) [] h = refl
no_trivia_take (suc n) (k ∷ ks) h =
    let parts = and_parts (not (is_trivia_kind k)) (has_no_trivia ks) h in
    rw parts.0 (no_trivia_take n ks parts.1)

-- and so are the others
pub no_trivia_drop : (n : ℕ) (kinds : List ℕ) → has_no_trivia kinds ≡ true
    → has_no_trivia (drop n kinds) ≡ true
no_trivia_drop zero kinds h = h
no_trivia_drop (suc n) [] h = refl
no_trivia_drop (suc n) (k ∷ ks) h =
    no_trivia_drop n ks (and_parts (not (is_trivia_kind k)) (has_no_trivia ks) h).1

-- the node of a child of such kinds, by the definition that leaves trivia out
pub node_without_trivia : (kinds : List ℕ) → has_no_trivia kinds ≡ true
    → node_of kinds ≡ unwrap_or (child_node kinds) ERROR
node_without_trivia [] h = refl
node_without_trivia (k ∷ ks) h =
    ap (λ all. unwrap_or (node_by (role k) all) ERROR) (sym (without_none (k ∷ ks) h))

-- the steps of a child of such kinds, by its node
child_by_node : (d : Division) (node : Option ℕ) (kinds : List ℕ)
    → IsTrue (has_no_trivia kinds) → node ≡ child_node kinds
    → clause_child_steps d kinds ≡ (if unwrap_or node ERROR == SELECT
    then select_child_steps d kinds else child_steps d kinds)
child_by_node d own kinds h is =
    ap (λ n. if n == SELECT then select_child_steps d kinds else child_steps d kinds)
    (node_without_trivia kinds h ∙ ap (λ o. unwrap_or o ERROR) (sym is))

pub select_child : (d : Division) (node : Option ℕ) (kinds : List ℕ)
    → IsTrue (has_no_trivia kinds) → node ≡ child_node kinds
    → (unwrap_or node ERROR == SELECT) ≡ true
    → clause_child_steps d kinds ≡ select_child_steps d kinds
select_child d own kinds h is select = child_by_node d own kinds h is ∙ rw select refl

pub other_child : (d : Division) (node : Option ℕ) (kinds : List ℕ)
    → IsTrue (has_no_trivia kinds) → node ≡ child_node kinds
    → (unwrap_or node ERROR == SELECT) ≡ false → clause_child_steps d kinds ≡ child_steps d kinds
other_child d own kinds h is other = child_by_node d own kinds h is ∙ rw other refl

-- a part of such kinds
pub no_trivia_part : (at n : ℕ) (kinds : List ℕ) → IsTrue (has_no_trivia kinds)
    → IsTrue (has_no_trivia (take n (drop at kinds)))
no_trivia_part at n kinds h = no_trivia_take n (drop at kinds) (no_trivia_drop at kinds h)
