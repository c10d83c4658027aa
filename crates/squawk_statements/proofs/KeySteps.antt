-- The key of a list of kinds, built kind by kind: what is in it so far (`so_far`), and then the
-- rest of the key (`key_rest`), is the key of all kinds at each step.
use Rattle.std.proofs.Common.{◌≡◌, ℕ, zero, suc, ◌+◌, ◌<◌, ◌≤◌, ◌==◌, Bool, true, false, cond, ◌&&◌, ◌||◌, nat_le, List, [], ◌∷◌, ◌++◌, length, take, drop, set, get_or, drop-cons, add-one, ap, refl, sym, ◌∙◌, append_assoc, arith, le_of_suc-le-suc}
use Rattle.std.proofs.lemmas.Bool.{and_parts, leb-true}
use Rattle.std.proofs.lemmas.List.{append-nil, take_all}
use Rattle.std.proofs.Math.Seq.{take-suc-set, take-append_seam}
use Rattle.std.specs.List.{list_all, prefix_len}
use Rattle.std.specs.Prelude.{Some, None}
use Rattle.squawk_kinds.specs.declared.numbers.TheConstants.Number as kind
use Rattle.squawk_events.specs.Kinds.{is_trivia_kind}
use Rattle.squawk_statements.specs.Opening.{Row, rows, other_rows, create_rows, alter_rows, drop_rows, is_prefix, is_modifier, longer, longest}
use Rattle.squawk_statements.specs.Rows.{without_trivia_if, key_rest, is_skipped_modifier, is_skipped}

-- ---- trivia is left out, or not

-- a kind that stays is the first of those that stay
read_one : (past : Bool) (k : ℕ) (ks : List ℕ) → (past && is_trivia_kind k) ≡ false
    → without_trivia_if past (k ∷ ks) ≡ k ∷ without_trivia_if past ks
read_one false k ks h = refl
read_one true k ks h = rw h refl

-- no kinds stay of none
read_none : (past : Bool) → without_trivia_if past [] ≡ []
read_none true = refl
read_none false = refl

-- a kind that is left out changes nothing
read_past : (past : Bool) (k : ℕ) (ks : List ℕ) → (past && is_trivia_kind k) ≡ true
    → without_trivia_if past (k ∷ ks) ≡ without_trivia_if past ks
read_past false k ks h = cc
read_past true k ks h = rw h refl

-- ---- modifiers

-- after a first kind c, a modifier of a CREATE is no part of the rest of the key; any other kind is
-- the first of the rest
left_out : (c k : ℕ) (ks : List ℕ) → (c == kind.CREATE_KW && is_modifier k) ≡ true
    → key_rest (c ∷ []) (k ∷ ks) ≡ key_rest (c ∷ []) ks
left_out c k ks h =
    by (c == kind.CREATE_KW) (is_modifier k) (and_parts (c == kind.CREATE_KW) (is_modifier k) h).0
    (and_parts (c == kind.CREATE_KW) (is_modifier k) h).1
  where
    by : (a b : Bool) → a ≡ true → b ≡ true
        → cond a (drop (cond b (1 + prefix_len is_modifier ks) 0) (k ∷ ks)) (k ∷ ks)
        ≡ cond a (drop (prefix_len is_modifier ks) ks) ks
    by true true x y = ap (λ n. drop n (k ∷ ks)) (let h : 1 + prefix_len is_modifier ks
        ≡ suc (prefix_len is_modifier ks) = omega arith in h)
    by true false x y = cc
    by false b x y = cc

kept_in : (c k : ℕ) (ks : List ℕ) → (c == kind.CREATE_KW && is_modifier k) ≡ false
    → key_rest (c ∷ []) (k ∷ ks) ≡ k ∷ ks
kept_in c k ks h = by (c == kind.CREATE_KW) (is_modifier k) h
  where
    by : (a b : Bool) → (a && b) ≡ false
        → cond a (drop (cond b (1 + prefix_len is_modifier ks) 0) (k ∷ ks)) (k ∷ ks) ≡ k ∷ ks
    by true true x = cc
    by true false x = refl
    by false b x = refl

-- a modifier that the key leaves out changes nothing in the rest of the key
skipped_modifier : (so_far : List ℕ) (k : ℕ) (ks : List ℕ) → is_skipped_modifier so_far k ≡ true
    → key_rest so_far (k ∷ ks) ≡ key_rest so_far ks
skipped_modifier [] k ks h = cc
skipped_modifier (c ∷ []) k ks h = left_out c k ks h
skipped_modifier (c ∷ d ∷ so_far) k ks h = cc

-- ---- one more kind

-- a kind that the key leaves out changes nothing in the rest of the key
pub skipped : (past : Bool) (so_far : List ℕ) (k : ℕ) (ks : List ℕ)
    → is_skipped past so_far k ≡ true
    → key_rest so_far (without_trivia_if past (k ∷ ks))
    ≡ key_rest so_far (without_trivia_if past ks)
skipped past so_far k ks h = by (past && is_trivia_kind k) refl
  where
    by : (t : Bool) → (past && is_trivia_kind k) ≡ t
        → key_rest so_far (without_trivia_if past (k ∷ ks))
        ≡ key_rest so_far (without_trivia_if past ks)
    by true is = ap (key_rest so_far) (read_past past k ks is)
    by false is = ap (key_rest so_far) (read_one past k ks is)
        ∙ skipped_modifier so_far k (without_trivia_if past ks)
        (other (past && is_trivia_kind k) (is_skipped_modifier so_far k) is h)
      where
        other : (a b : Bool) → a ≡ false → (a || b) ≡ true → b ≡ true
        other a b x y = cc

-- a kind that is no skipped modifier moves from the rest of the key to the end of what is in it
kept_on : (so_far : List ℕ) (k : ℕ) (ks : List ℕ) → is_skipped_modifier so_far k ≡ false
    → so_far ++ key_rest so_far (k ∷ ks) ≡ (so_far ++ k ∷ []) ++ key_rest (so_far ++ k ∷ []) ks
kept_on [] k ks h = refl
kept_on (c ∷ []) k ks h = ap (λ xs. c ∷ xs) (kept_in c k ks h)
kept_on (c ∷ d ∷ so_far) k ks h = ap (λ xs. c ∷ d ∷ xs) (sym (append_assoc so_far (k ∷ []) ks))

-- the same for a kind that the key keeps, where trivia may be left out
pub kept : (past : Bool) (so_far : List ℕ) (k : ℕ) (ks : List ℕ) → is_skipped past so_far k ≡ false
    → so_far ++ key_rest so_far (without_trivia_if past (k ∷ ks))
    ≡ (so_far ++ k ∷ []) ++ key_rest (so_far ++ k ∷ []) (without_trivia_if past ks)
kept past so_far k ks h =
    ap (λ xs. so_far ++ key_rest so_far xs) (read_one past k ks
    (first (past && is_trivia_kind k) (is_skipped_modifier so_far k) h))
    ∙ kept_on so_far k (without_trivia_if past ks) (second (past
    && is_trivia_kind k) (is_skipped_modifier so_far k) h)
  where
    first : (a b : Bool) → (a || b) ≡ false → a ≡ false
    first true b x = cc
    first false b x = refl

    second : (a b : Bool) → (a || b) ≡ false → b ≡ false
    second true b x = cc
    second false b x = x

-- a test both of whose branches are equal
same : (t : Bool) (xs : List ℕ) → cond t xs xs ≡ xs
same true xs = refl
same false xs = refl

-- after the last kind the rest of the key is empty
pub none_left : (past : Bool) (so_far : List ℕ)
    → so_far ++ key_rest so_far (without_trivia_if past []) ≡ so_far
none_left past so_far = ap (λ xs. so_far ++ key_rest so_far xs) (read_none past) ∙ by so_far
  where
    by : (xs : List ℕ) → xs ++ key_rest xs [] ≡ xs
    by [] = refl
    by (c ∷ []) = ap (λ ys. c ∷ ys) (same (c == kind.CREATE_KW) [])
    by (c ∷ d ∷ xs) = append-nil (c ∷ d ∷ xs)

-- ---- no row has more than four kinds

-- the first n kinds decide whether a row of at most n kinds fits, and so which row of such a table
-- is the longest
is_prefix_take : (n : ℕ) (row ks : List ℕ) → length row ≤ n
    → is_prefix row (take n ks) ≡ is_prefix row ks
is_prefix_take n [] ks h = refl
is_prefix_take zero (r ∷ row) ks h = absurd (omega arith)
is_prefix_take (suc n) (r ∷ row) [] h = refl
is_prefix_take (suc n) (r ∷ row) (k ∷ ks) h =
    ap (λ (t : Bool). r == k && t) (is_prefix_take n row ks (le_of_suc-le-suc h))

longest_take : (n : ℕ) (table : List Row) (ks : List ℕ)
    → list_all (λ (row : Row). nat_le (length row.0) n) table ≡ true
    → longest table (take n ks) ≡ longest table ks
longest_take n [] ks h = refl
longest_take n (row ∷ table) ks h =
    let p = and_parts (nat_le (length row.0) n) (list_all (λ (row : Row).
    nat_le (length row.0) n) table) h in
    ap (λ t. longer (cond t (Some row) None) (longest table (take n ks)))
    (is_prefix_take n row.0 ks (leb-true (length row.0) n p.0))
    ∙ ap (longer (cond (is_prefix row.0 ks) (Some row) None)) (longest_take n table ks p.1)

-- four kinds decide which row of the whole table is the longest
pub longest_four : (ks : List ℕ) → longest rows (take 4 ks) ≡ longest rows ks
unfolding rows other_rows create_rows alter_rows drop_rows
longest_four ks = longest_take 4 rows ks refl

-- ---- the loop

-- after the loop, what is in the key is its first four kinds: where no kinds are left, and where it
-- has four
pub key_end : (past : Bool) (so_far all : List ℕ) (whole : List ℕ) → length so_far ≤ 4 → all ≡ []
    → so_far ++ key_rest so_far (without_trivia_if past all) ≡ whole → so_far ≡ take 4 whole
key_end past so_far all whole le none h =
    let e : so_far ≡ whole = sym (none_left past so_far)
    ∙ ap (λ xs. so_far ++ key_rest so_far (without_trivia_if past xs)) (sym none) ∙ h in
    sym (take_all 4 so_far le) ∙ ap (take 4) e

pub key_full : (so_far rest whole : List ℕ) → length so_far ≡ 4 → so_far ++ rest ≡ whole
    → so_far ≡ take 4 whole
key_full so_far rest whole size h =
    sym (take-append_seam so_far rest) ∙ ap (λ n. take n (so_far ++ rest)) size ∙ ap (take 4) h

-- one step of the loop keeps the equation, where the key leaves out the kind
pub key_step_skipped : (past : Bool) (kinds : List ℕ) (i k d : ℕ) (so_far whole : List ℕ)
    → i < length kinds → k ≡ get_or kinds i d → is_skipped past so_far k ≡ true
    → so_far ++ key_rest so_far (without_trivia_if past (drop i kinds)) ≡ whole
    → so_far ++ key_rest so_far (without_trivia_if past (drop (i + 1) kinds)) ≡ whole
key_step_skipped past kinds i k d so_far whole within is pass h =
    let here : drop i kinds ≡ k ∷ drop (i + 1) kinds = rw (is, add-one) (drop-cons kinds i d within)
    in
    ap (λ xs. so_far ++ xs) (sym (skipped past so_far k (drop (i + 1) kinds) pass))
    ∙ ap (λ xs. so_far ++ key_rest so_far (without_trivia_if past xs)) (sym here) ∙ h

-- and where the key keeps the kind, which is stored at index n
pub key_step_kept : (past : Bool) (kinds : List ℕ) (i k d : ℕ) (buffer : List ℕ) (n : ℕ)
    (whole : List ℕ) → i < length kinds → k ≡ get_or kinds i d → n < length buffer
    → is_skipped past (take n buffer) k ≡ false
    → take n buffer ++ key_rest (take n buffer) (without_trivia_if past (drop i kinds)) ≡ whole
    → take (n + 1) (set buffer n k)
    ++ key_rest (take (n + 1) (set buffer n k)) (without_trivia_if past (drop (i + 1) kinds))
    ≡ whole
key_step_kept past kinds i k d buffer n whole within is room pass h =
    let here : drop i kinds ≡ k ∷ drop (i + 1) kinds = rw (is, add-one) (drop-cons kinds i d within)
    in
    let made : take (n + 1) (set buffer n k) ≡ take n buffer ++ k ∷ [] =
    rw add-one (take-suc-set buffer n k room) in
    ap (λ xs. xs ++ key_rest xs (without_trivia_if past (drop (i + 1) kinds))) made
    ∙ sym (kept past (take n buffer) k (drop (i + 1) kinds) pass)
    ∙ ap (λ xs. take n buffer ++ key_rest (take n buffer) (without_trivia_if past xs)) (sym here)
    ∙ h
