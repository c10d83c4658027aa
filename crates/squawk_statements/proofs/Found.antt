-- The search of the rows finds the longest row that fits.
use Rattle.std.proofs.Common.{◌≡◌, ◌↔◌, ℕ, suc, ◌<◌, ◌≤◌, ◌-◌, ◌==◌, Bool, true, cond, ◌&&◌, List, [], ◌∷◌, length, take, drop, get_or, map, ap, refl, sym, subst, ◌∙◌, arith, drop-cons, eqb}
use Rattle.std.proofs.lemmas.Bool.{eq-eqb}
use Rattle.std.proofs.lemmas.List.{take_rest}
use Rattle.std.specs.List.{find, starts_with, list_any}
use Rattle.std.specs.Prelude.{is_some, ◌||◌, nat_lt, false, Option, Some, None, option_map, IsNone, IfSome}
use Rattle.squawk_statements.specs.Opening.{Row, rows, is_prefix, key, longer, longest, opening_of}
use Rattle.squawk_statements.specs.Rows.{FirstMatchIsLongest, row_of}
use Rattle.squawk_statements.specs.declared.rows.Row as table
use Rattle.squawk_statements.proofs.Tables.{IsKind, is_kind_rows}

-- the longest row for no kinds is none, since no row is empty
pub longest_empty : (ks : List ℕ) → length ks ≡ 0
    → None ≡ option_map (λ (row : Row). row.1) (longest rows ks)
unfolding rows Rattle.squawk_statements.specs.Opening.other_rows
    Rattle.squawk_statements.specs.Opening.create_rows
    Rattle.squawk_statements.specs.Opening.alter_rows
    Rattle.squawk_statements.specs.Opening.drop_rows
longest_empty [] h = refl
longest_empty (k ∷ ks) h = absurd (omega arith)

-- std's test of a prefix is the one of the definitions
starts_with_is_prefix : (row ks : List ℕ) → starts_with eqb ks row ≡ is_prefix row ks
starts_with_is_prefix [] ks = refl
starts_with_is_prefix (r ∷ rs) [] = refl
starts_with_is_prefix (r ∷ rs) (k ∷ ks) = ap (λ (t : Bool).
    r == k && t) (starts_with_is_prefix rs ks)

-- the test of a row's first kind and of the others together test the whole row
pub fits_both : (first : ℕ) (more ks : List ℕ) (result : Bool) → 0 < length ks
    → first ≡ get_or ks 0 0 → result ≡ starts_with eqb (take (length ks - 1) (drop 1 ks)) more
    → result ≡ is_prefix (first ∷ more) ks
fits_both first more [] result some same is = absurd (omega arith)
fits_both first more (k ∷ ks) result some same is =
    is ∙ ap (λ rest. starts_with eqb rest more) (take_rest (k ∷ ks) 1)
    ∙ starts_with_is_prefix more ks
    ∙ ap (λ (t : Bool). t && is_prefix more ks) (sym (eq-eqb first k same))

-- the first row that fits, of a table for the first kind, is the longest
pub found_first : (ks : List ℕ) (table : List Row) → 0 < length ks
    → FirstMatchIsLongest (get_or ks 0 0) table
    → find (λ (row : Row). is_prefix row.0 ks) table ≡ longest rows ks
unfolding FirstMatchIsLongest
found_first [] table some h = absurd (omega arith)
found_first (k ∷ ks) table some h = h ks

-- the row at an index is the longest, if it fits and no row before it does
pub found_here : (rows_here : List table.Row) (i : ℕ) (d : table.Row) (ks : List ℕ)
    → i < length rows_here
    → find (λ (row : Row). is_prefix row.0 ks) (map row_of (drop i rows_here)) ≡ longest rows ks
    → is_prefix (row_of (get_or rows_here i d)).0 ks ≡ true
    → longest rows ks ≡ Some (row_of (get_or rows_here i d))
found_here rows_here i d ks within so_far fits =
    let here : drop i rows_here ≡ get_or rows_here i d ∷ drop (suc i) rows_here =
    drop-cons rows_here i d within in
    sym so_far ∙ ap (λ rs. find (λ (row : Row). is_prefix row.0 ks) (map row_of rs)) here
    ∙ ap (λ t. cond t (Some (row_of (get_or rows_here i d))) (find (λ (row : Row).
    is_prefix row.0 ks) (map row_of (drop (suc i) rows_here)))) fits

-- the kind with the number of the longest row's node is the node that the definitions name
pub named : (result : Option ℕ) (ks : List ℕ) (row : Row) → (IsNone result ↔ (2068 ≤ row.1))
    → IfSome result (λ kind. kind ≡ row.1) → longest rows ks ≡ Some row
    → result ≡ option_map (λ (row : Row). row.1) (longest rows ks)
unfolding IsKind
named result ks row past number is = by result past number
    ∙ ap (option_map (λ (row : Row). row.1)) (sym is)
  where
    below : row.1 < 2068
    below = subst IsKind is (is_kind_rows ks)

    by : (r : Option ℕ) → (IsNone r ↔ (2068 ≤ row.1)) → IfSome r (λ kind. kind ≡ row.1)
        → r ≡ Some row.1
    by None p n = let over : 2068 ≤ row.1 = p.0 refl in absurd (omega (arith, below))
    by (Some k) p n = ap Some n

-- there is a longest row exactly if some row fits: of two, of a table, and after its node is taken
some_longer : (t : Bool) (row : Row) (found : Option Row)
    → is_some (longer (cond t (Some row) None) found) ≡ (t || is_some found)
some_longer false row found = refl
some_longer true row None = refl
some_longer true row (Some other) = by (nat_lt (length row.0) (length other.0))
  where
    by : (b : Bool) → is_some (cond b (Some other) (Some row)) ≡ true
    by true = refl
    by false = refl

some_longest : (table : List Row) (ks : List ℕ)
    → is_some (longest table ks) ≡ list_any (λ (row : Row). is_prefix row.0 ks) table
some_longest [] ks = refl
some_longest (row ∷ table) ks = some_longer (is_prefix row.0 ks) row (longest table ks)
    ∙ ap (λ (b : Bool). is_prefix row.0 ks || b) (some_longest table ks)

some_node : (found : Option Row) → is_some (option_map (λ (row : Row). row.1) found) ≡ is_some found
some_node None = refl
some_node (Some row) = refl

-- there is no node exactly if no row fits
pub none_opening : (result : Option ℕ) (ks : List ℕ) → result ≡ opening_of ks → IsNone result
    ↔ (list_any (λ (row : Row). is_prefix row.0 (key ks)) rows ≡ false)
unfolding opening_of
none_opening result ks is =
    let e : is_some result ≡ list_any (λ (row : Row). is_prefix row.0 (key ks)) rows = ap is_some is
    ∙ some_node (longest rows (key ks)) ∙ some_longest rows (key ks) in
    (λ h. sym e ∙ h, λ h. e ∙ h)
