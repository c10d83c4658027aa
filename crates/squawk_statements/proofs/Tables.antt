-- For each first kind, the first row of its table that fits is the longest of the whole table.
use Rattle.std.proofs.Common.{◌≡◌, ◌≢◌, ℕ, ◌<◌, nat_lt, ◌==◌, Bool, true, false, not, cond, ◌||◌, List, [], ◌∷◌, length, ap, refl, sym, ◌∙◌, eqb-true}
use Rattle.std.proofs.lemmas.Bool.{and_parts, ne_eqb, ltb-true}
use Rattle.std.specs.List.{filter, list_all}
use Rattle.std.specs.Prelude.{Option, Some, None}
use Rattle.squawk_kinds.specs.declared.numbers.TheConstants.Number as kind
use Rattle.squawk_statements.specs.Opening.{Row, other_rows, create_rows, alter_rows, drop_rows, rows, is_prefix, longer, longest}
use Rattle.squawk_statements.specs.Rows.{FirstMatchIsLongest}
use Rattle.squawk_statements.proofs.Longest.{is_first, are_ordered, find_longest, longest_filter}

-- whether a row may begin with a kind
unfoldable may_begin : ℕ → List ℕ → Bool
may_begin k [] = true
may_begin k (r ∷ rs) = r == k

-- a row that fits may begin with the first kind
may_begin_prefix : (k : ℕ) (ks row : List ℕ) → is_prefix row (k ∷ ks) ≡ true
    → may_begin k row ≡ true
unfolding may_begin
may_begin_prefix k ks [] h = refl
may_begin_prefix k ks (r ∷ rs) h = (and_parts (r == k) (is_prefix rs ks) h).0

-- an ordered table decides if it has exactly those rows of the whole that pass a test, which each
-- row that fits passes
decide_from : (test : Row → Bool) (k : ℕ) (table : List Row)
    → ((ks : List ℕ) (row : Row) → is_prefix row.0 (k ∷ ks) ≡ true → test row ≡ true)
    → filter test rows ≡ table → are_ordered table ≡ true → FirstMatchIsLongest k table
unfolding FirstMatchIsLongest
decide_from test k table all is ordered = λ ks.
    find_longest table (k ∷ ks) ordered ∙ ap (λ t. longest t (k ∷ ks)) (sym is)
    ∙ longest_filter test (k ∷ ks) (all ks) rows

-- the same, where the test is that the row may begin with the kind
decide_by : (k : ℕ) (table : List Row) → filter (λ (row : Row). may_begin k row.0) rows ≡ table
    → are_ordered table ≡ true → FirstMatchIsLongest k table
decide_by k table is ordered = decide_from (λ row. may_begin k row.0) k table (λ ks row h.
    may_begin_prefix k ks row.0 h) is ordered

-- the tables of CREATE, ALTER and DROP
pub decide_create : FirstMatchIsLongest kind.CREATE_KW create_rows
unfolding rows other_rows create_rows alter_rows drop_rows may_begin is_first are_ordered
decide_create = decide_by kind.CREATE_KW create_rows refl refl

pub decide_alter : FirstMatchIsLongest kind.ALTER_KW alter_rows
unfolding rows other_rows create_rows alter_rows drop_rows may_begin is_first are_ordered
decide_alter = decide_by kind.ALTER_KW alter_rows refl refl

pub decide_drop : FirstMatchIsLongest kind.DROP_KW drop_rows
unfolding rows other_rows create_rows alter_rows drop_rows may_begin is_first are_ordered
decide_drop = decide_by kind.DROP_KW drop_rows refl refl

-- a kind that has no table of its own
unfoldable is_other : ℕ → Bool
is_other k = not (k == kind.CREATE_KW || k == kind.ALTER_KW || k == kind.DROP_KW)

-- a row that may begin with such a kind
unfoldable is_other_row : List ℕ → Bool
is_other_row [] = true
is_other_row (r ∷ rs) = is_other r

-- a row that fits such a kind is one of them
is_other_row_prefix : (k : ℕ) (ks row : List ℕ) → is_other k ≡ true → is_prefix row (k ∷ ks) ≡ true
    → is_other_row row ≡ true
unfolding is_other_row
is_other_row_prefix k ks [] h p = refl
is_other_row_prefix k ks (r ∷ rs) h p =
    ap is_other (eqb-true r k (and_parts (r == k) (is_prefix rs ks) p).0) ∙ h

-- a kind that is none of the three
is_other_from : (k : ℕ) → k ≢ kind.CREATE_KW → k ≢ kind.ALTER_KW → k ≢ kind.DROP_KW
    → is_other k ≡ true
unfolding is_other
is_other_from k create alter drop =
    rw (ne_eqb k kind.CREATE_KW create, ne_eqb k kind.ALTER_KW alter, ne_eqb k kind.DROP_KW drop)
    refl

-- the table of the other kinds
pub decide_other : (k : ℕ) → k ≢ kind.CREATE_KW → k ≢ kind.ALTER_KW → k ≢ kind.DROP_KW
    → FirstMatchIsLongest k other_rows
unfolding rows other_rows create_rows alter_rows drop_rows is_other is_other_row is_first
    are_ordered
decide_other k create alter drop =
    let h = is_other_from k create alter drop in
    decide_from (λ row. is_other_row row.0) k other_rows (λ ks row p.
    is_other_row_prefix k ks row.0 h p) refl refl

-- the node of a row that was found is a kind
unfoldable pub IsKind : Option Row → Type 0
IsKind None = Unit {0}
IsKind (Some row) = row.1 < 2068

-- each row of the table has a kind as its node, so the longest row has: of two rows, of a table
-- whose rows pass the test, and of the whole table
is_kind_longer : (a b : Option Row) → IsKind a → IsKind b → IsKind (longer a b)
unfolding IsKind
is_kind_longer None b h k = k
is_kind_longer (Some row) None h k = h
is_kind_longer (Some row) (Some other) h k = by (nat_lt (length row.0) (length other.0))
  where
    by : (t : Bool) → IsKind (cond t (Some other) (Some row))
    by true = k
    by false = h

is_kind_longest : (table : List Row) (ks : List ℕ)
    → list_all (λ (row : Row). nat_lt row.1 2068) table ≡ true → IsKind (longest table ks)
unfolding IsKind
is_kind_longest [] ks h = tt
is_kind_longest (row ∷ table) ks h =
    let p = and_parts (nat_lt row.1 2068) (list_all (λ (row : Row). nat_lt row.1 2068) table) h in
    is_kind_longer (cond (is_prefix row.0 ks) (Some row) None) (longest table ks)
    (by (is_prefix row.0 ks)) (is_kind_longest table ks p.1)
  where
    by : (t : Bool) → IsKind (cond t (Some row) None)
    by true = ltb-true row.1 2068 (and_parts (nat_lt row.1 2068) (list_all (λ (row : Row).
        nat_lt row.1 2068) table) h).0
    by false = tt

pub is_kind_rows : (ks : List ℕ) → IsKind (longest rows ks)
unfolding rows other_rows create_rows alter_rows drop_rows
is_kind_rows ks = is_kind_longest rows ks refl
