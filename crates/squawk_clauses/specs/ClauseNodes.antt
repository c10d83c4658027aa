-- The nodes of clauses are no nodes of statements. A law of the trait `Grammar` may cite
-- definitions alone, so the proofs for it stand here, in `PlainWithoutClauses` and in
-- `ClausesAreLawful`.
use Rattle.std.specs.Prelude.{◌≡◌, ℕ, zero, suc, ◌==◌, ◌&&◌, not, Bool, true, false, List, [], ◌∷◌, Option, Some, None, option_map, unwrap_or, refl, nat_lt, length, if◌then◌else◌}
use Rattle.std.proofs.Common.{sym}
use Rattle.std.proofs.lemmas.Bool.{and_parts}
use Rattle.squawk_kinds.specs.Role.{Role, role, Trivia, Semicolon, Terminator, Command, Open, Close, Other}
use Rattle.squawk_kinds.specs.declared.numbers.TheConstants.Number as kind
use Rattle.squawk_statements.specs.First.{node_by}
use Rattle.squawk_statements.specs.Opening.{Row, rows, other_rows, create_rows, alter_rows, drop_rows, key, is_prefix, longer, longest, opening_of, statement_node}
use Rattle.squawk_statements.specs.Plain.{node_of}
use Rattle.squawk_clauses.specs.Clauses.{ClauseRow, clause_rows, clause_in, clause_of, is_clause_node}

-- whether a kind is no node of a clause
abbrev is_no_clause : ℕ → Bool
is_no_clause kind = not (is_clause_node kind)

-- ---- a kind that begins a clause begins the node of a clause

-- whether each row has the node of a clause
abbrev have_clause_nodes : List ClauseRow → Bool
have_clause_nodes [] = true
have_clause_nodes (row ∷ rows) = is_clause_node row.1 && have_clause_nodes rows

-- whether this is the node of a clause, or none
abbrev pub is_clause_or_none : Option ℕ → Bool
is_clause_or_none None = true
is_clause_or_none (Some node) = is_clause_node node

found_clause : (rows : List ClauseRow) (k : ℕ) → have_clause_nodes rows ≡ true
    → is_clause_or_none (clause_in rows k) ≡ true
found_clause [] k h = refl
found_clause (row ∷ rows) k h =
    let parts = and_parts (is_clause_node row.1) (have_clause_nodes rows) h in
    by (k == row.0) parts.0 (found_clause rows k parts.1)
  where
    by : (b : Bool) → is_clause_node row.1 ≡ true
        → is_clause_or_none (clause_in rows k) ≡ true
        → is_clause_or_none (if b then Some row.1 else clause_in rows k) ≡ true
    by true here later = here
    by false here later = later

rows_have_clause_nodes : have_clause_nodes clause_rows ≡ true
unfolding is_clause_node clause_rows
rows_have_clause_nodes = refl

-- the node of a clause that a kind begins
pub clause_of_is_clause_node : (n k : ℕ) → is_clause_or_none (clause_of n k) ≡ true
clause_of_is_clause_node zero k = found_clause clause_rows k rows_have_clause_nodes
clause_of_is_clause_node (suc n) k = refl

-- ---- the node of a statement is none of a clause

-- whether no row of the opening table has the node of a clause
abbrev have_no_clauses : List Row → Bool
have_no_clauses [] = true
have_no_clauses (row ∷ rows) = is_no_clause row.1 && have_no_clauses rows

-- the node of a row that may have been found
abbrev found_node : Option Row → ℕ
found_node o = unwrap_or (option_map (λ (row : Row). row.1) o) kind.ERROR

error_is_no_clause : is_no_clause kind.ERROR ≡ true
unfolding is_clause_node clause_rows
error_is_no_clause = refl

longer_is_no_clause : (o other : Option Row) → is_no_clause (found_node o) ≡ true
    → is_no_clause (found_node other) ≡ true → is_no_clause (found_node (longer o other)) ≡ true
longer_is_no_clause None other h k = k
longer_is_no_clause (Some row) None h k = h
longer_is_no_clause (Some row) (Some other) h k = by (nat_lt (length row.0) (length other.0))
  where
    by : (b : Bool) → is_no_clause (found_node (if b then Some other else Some row)) ≡ true
    by true = k
    by false = h

longest_is_no_clause : (table : List Row) (ks : List ℕ) → have_no_clauses table ≡ true
    → is_no_clause (found_node (longest table ks)) ≡ true
longest_is_no_clause [] ks h = error_is_no_clause
longest_is_no_clause (row ∷ rows) ks h =
    let parts = and_parts (is_no_clause row.1) (have_no_clauses rows) h in
    longer_is_no_clause (if is_prefix row.0 ks then Some row else None) (longest rows ks)
    (by (is_prefix row.0 ks) parts.0) (longest_is_no_clause rows ks parts.1)
  where
    by : (b : Bool) → is_no_clause row.1 ≡ true
        → is_no_clause (found_node (if b then Some row else None)) ≡ true
    by true h = h
    by false h = error_is_no_clause

rows_have_no_clauses : have_no_clauses rows ≡ true
unfolding is_clause_node clause_rows rows other_rows create_rows alter_rows drop_rows
rows_have_no_clauses = refl

statement_is_no_clause : (ks : List ℕ) → is_no_clause (statement_node ks) ≡ true
unfolding opening_of
statement_is_no_clause ks = longest_is_no_clause rows (key ks) rows_have_no_clauses

node_by_is_no_clause : (f : Role) (ks : List ℕ)
    → is_no_clause (unwrap_or (node_by f ks) kind.ERROR) ≡ true
unfolding is_clause_node clause_rows
node_by_is_no_clause Trivia ks = refl
node_by_is_no_clause Semicolon ks = refl
node_by_is_no_clause Terminator ks = refl
node_by_is_no_clause Command ks = refl
node_by_is_no_clause Open ks = statement_is_no_clause ks
node_by_is_no_clause Close ks = statement_is_no_clause ks
node_by_is_no_clause Other ks = statement_is_no_clause ks

not_true : (b : Bool) → not b ≡ true → b ≡ false
not_true false h = refl
not_true true h = sym h

-- the node of a child
pub node_is_no_clause : (ks : List ℕ) → is_clause_node (node_of ks) ≡ false
node_is_no_clause [] = not_true (is_clause_node kind.ERROR) error_is_no_clause
node_is_no_clause (k ∷ ks) = not_true (is_clause_node (node_of (k ∷ ks)))
    (node_by_is_no_clause (role k) (k ∷ ks))
