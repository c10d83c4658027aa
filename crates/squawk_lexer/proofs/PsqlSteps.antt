-- Steps of the functions that read a quote in the arguments of a psql command.
use Rattle.std.proofs.Common.{◌≡◌, ℕ, zero, suc, ◌+◌, ◌-◌, ◌<◌, ◌≤◌, Bool, true, false, List, [], ◌∷◌, length, length-drop, take, take_all, drop, get_or, slice_get, Option, None, Some, refl, sym, ap, ◌∙◌, inl, inr, ◌⊎◌, ◌&&◌, not, eqb, eq-eqb, arith, unwrap_or, is_some, option_map, cond}
use Rattle.std.specs.List.{prefix_len, last_or}
use Rattle.std.proofs.lemmas.Bool.Decides.{nat_tests}
use Rattle.std.proofs.lemmas.Bool.{cases_lt, cases_eq, cases_Bool}
use Rattle.squawk_lexer.specs.Position.{position_after}
use Rattle.squawk_lexer.specs.Runs.{run_end, line_end}
use Rattle.squawk_lexer.specs.Classes.{is_line_end, is_not_line_end}
use Rattle.squawk_lexer.specs.PsqlQuotes.{close_end, quote_end, mark_after_quote}
use Rattle.squawk_lexer.proofs.PsqlArgumentLaws.{rest_in}
use Rattle.std.proofs.lemmas.List.Sums.{prefix_len-le-length}
use Rattle.squawk_lexer.specs.Stops.{is_neither, is_neither_on_line}
use Rattle.squawk_lexer.proofs.StopSteps.{some_read, run_kept, other_not}
use Rattle.squawk_lexer.specs.PsqlParts.{is_psql_quote, is_escape, close_len, quote_len}
use Rattle.squawk_lexer.proofs.Steps.{drop_some, drop_none, drop_read, drop_past, after_some, after_within, after_past, ne_eqb, run_more, run_stop, run_at_end}

-- ---- a quote, from an index inside it

-- A length found n characters later ends at the same index.
further : (o : Option ℕ) (i n : ℕ) → option_map (λ m. i + m) (option_map (λ m. m + n) o)
    ≡ option_map (λ m. i + n + m) o
further None i n = refl
further (Some m) i n = ap Some (omega arith)

-- A single character, and an escape, change neither the end of the quote nor that of the
-- line.
pub quote_plain : (q : ℕ) (u : List ℕ) (i c : ℕ) → Some c ≡ slice_get u i → is_line_end c ≡ false
    → (c ≡ q → ⊥) → is_escape q c (get_or u (position_after u i) 0) ≡ false
    → (close_end q u i ≡ close_end q u (position_after u i))
    × (line_end u i ≡ line_end u (position_after u i))
quote_plain q u i c s plain other no_escape = (
  by (cases_lt (i + 1) (length u)),
  rw b
      (sym (run_more is_not_line_end u i c s (rw plain refl))),
)
  where
    b : position_after u i ≡ i + 1
    b = after_some u i c s

    by : (i + 1 < length u) ⊎ (length u ≤ i + 1)
        → close_end q u i ≡ close_end q u (position_after u i)
    by (inl h) =
        let single : is_escape q c (get_or u (i + 1) 0) ≡ false = rw b at no_escape in
        rw (b, drop_some u i c s, drop_read u (i + 1) h, plain, ne_eqb c q other, single)
        (further (close_len q (get_or u (i + 1) 0 ∷ drop (i + 1 + 1) u)) i 1)
    by (inr h) = rw (b, drop_some u i c s, drop_past u (i + 1) h, ne_eqb c q other) refl

pub quote_escape : (q : ℕ) (u : List ℕ) (i c : ℕ) → Some c ≡ slice_get u i → is_line_end c ≡ false
    → (c ≡ q → ⊥) → is_escape q c (get_or u (position_after u i) 0) ≡ true
    → (close_end q u i ≡ close_end q u (position_after u (position_after u i)))
    × (line_end u i ≡ line_end u (position_after u (position_after u i)))
quote_escape q u i c s plain other pair = by (cases_lt (i + 1) (length u))
  where
    b : position_after u i ≡ i + 1
    b = after_some u i c s

    d : ℕ
    d = get_or u (i + 1) 0

    both : is_escape q c (get_or u (i + 1) 0) ≡ true
    both = rw b at pair

    next_plain : (d : ℕ) → is_escape q c d ≡ true → is_not_line_end d ≡ true
    next_plain d h = grind (arith, nat_tests)

    on : line_end u (i + 1) ≡ line_end u i
    on = run_more is_not_line_end u i c s (rw plain refl)

    by : (i + 1 < length u) ⊎ (length u ≤ i + 1)
        → (close_end q u i ≡ close_end q u (position_after u (position_after u i)))
        × (line_end u i ≡ line_end u (position_after u (position_after u i)))
    by (inl h) =
        let two : i + 1 + 1 ≡ i + 2 = omega arith in
        let more : line_end u (i + 1 + 1) ≡ line_end u (i + 1) =
        run_more is_not_line_end u (i + 1) (get_or u (i + 1) 0) (some_read u (i + 1) h)
        (next_plain (get_or u (i + 1) 0) both) in
        rw (b, after_within u (i + 1) h) (
          (rw (drop_some u i c s, drop_read u (i + 1) h, plain, ne_eqb c q other, both, two)
              (further (close_len q (drop (i + 2) u)) i 2)),
          sym on ∙ sym more,
        )
    by (inr h) = rw (b, after_past u (i + 1) h)
        ((rw (drop_some u i c s, drop_past u (i + 1) h, ne_eqb c q other) refl), sym on)

-- The quote closes with its own character.
pub quote_close : (q : ℕ) (u : List ℕ) (i c : ℕ) → Some c ≡ slice_get u i → is_line_end c ≡ false
    → c ≡ q → close_end q u i ≡ Some (position_after u i)
quote_close q u i c s plain same = rw (after_some u i c s, drop_some u i c s) (at (drop (i + 1) u))
  where
    at : (r : List ℕ) → option_map (λ n. i + n) (close_len q (c ∷ r)) ≡ Some (i + 1)
    at [] = rw (eq-eqb c q same) refl
    at (d ∷ r) = rw (plain, eq-eqb c q same) refl

-- A line end is not a quote.
quote_is_plain : (q c : ℕ) → is_psql_quote q ≡ true → is_line_end c ≡ true → eqb c q ≡ false
quote_is_plain q c h e = grind (arith, nat_tests)

-- A line end, and the end of the text, leave the quote open.
pub quote_stop : (q : ℕ) (u : List ℕ) (i c : ℕ) → is_psql_quote q ≡ true → Some c ≡ slice_get u i
    → is_line_end c ≡ true → (close_end q u i ≡ None) × (line_end u i ≡ i)
quote_stop q u i c quote s ends =
    (rw (drop_some u i c s) (at (drop (i + 1) u)), run_stop is_not_line_end u i c s (rw ends refl))
  where
    at : (r : List ℕ) → option_map (λ n. i + n) (close_len q (c ∷ r)) ≡ None
    at [] = rw (quote_is_plain q c quote ends) refl
    at (d ∷ r) = rw ends refl

pub quote_none : (q : ℕ) (u : List ℕ) (i : ℕ) → None ≡ slice_get u i → (close_end q u i ≡ None)
    × (line_end u i ≡ i)
quote_none q u i s = (rw (drop_none u i s) refl, run_at_end is_not_line_end u i s)

-- The end of a closed quote, and that of an unclosed one.
pub closed : (q : ℕ) (u : List ℕ) (i j : ℕ) → close_end q u i ≡ Some (j + 1)
    → j + 1 ≡ quote_end q u i
closed q u i j e = by (close_len q (drop i u)) e
  where
    by : (o : Option ℕ) → option_map (λ n. i + n) o ≡ Some (j + 1)
        → j + 1 ≡ i + unwrap_or o (prefix_len is_not_line_end (drop i u))
    by None e = absurd (cc)
    by (Some n) e = cc

pub unclosed : (q : ℕ) (u : List ℕ) (i j : ℕ) → close_end q u i ≡ None → line_end u i ≡ j
    → j ≡ quote_end q u i
unclosed q u i j e l = by (close_len q (drop i u)) e
  where
    by : (o : Option ℕ) → option_map (λ n. i + n) o ≡ None
        → j ≡ i + unwrap_or o (prefix_len is_not_line_end (drop i u))
    by None e = sym l
    by (Some n) e = absurd (cc)

-- The last of the first k + 1 characters is the one at k.
take_last : (o : Option ℕ) (v : List ℕ) (k : ℕ) → k < length v
    → last_or o (take (k + 1) v) ≡ slice_get v k
take_last o [] k h = absurd (omega arith)
take_last o (x ∷ v) zero h = refl
take_last o (x ∷ v) (suc k) h = let next : suc k + 1 ≡ suc (k + 1) = omega arith in
    rw next (take_last (Some x) v k (omega arith))

-- A character of what is left is one of the text.
read_on : (u : List ℕ) (i k : ℕ) → slice_get (drop i u) k ≡ slice_get u (i + k)
read_on u zero k = let none : 0 + k ≡ k = omega arith in rw none refl
read_on [] (suc i) k = refl
read_on (x ∷ u) (suc i) k = let next : suc i + k ≡ suc (i + k) = omega arith in
    rw next (read_on u i k)

-- The loop ends at the closing quote, at index j.
pub quote_found : (q : ℕ) (u : List ℕ) (i j : ℕ) → close_end q u j ≡ close_end q u i → j < length u
    → is_line_end (get_or u j 0) ≡ false → get_or u j 0 ≡ q → close_end q u i ≡ Some (j + 1)
quote_found q u i j kept within plain is_q =
    let read = some_read u j within in
    sym kept ∙ quote_close q u j (get_or u j 0) read plain is_q
    ∙ ap Some (after_some u j (get_or u j 0) read)

-- ---- the search for the next piece that matters

-- The index at or after i of the next character that may close the quote or begin an escape, or of
-- the end of the line.
abbrev piece_stop : ℕ → List ℕ → ℕ → ℕ
piece_stop q u i = run_end (is_neither_on_line q (cond (eqb q 39) 92 q)) u i

-- A character before the stop is a piece by itself, and does not close the quote.
no_escape : (q c d : ℕ) → is_neither_on_line q (cond (eqb q 39) 92 q) c ≡ true
    → (is_line_end c ≡ false) × (c ≡ q → ⊥) × (is_escape q c d ≡ false)
no_escape q c d t = by (cases_eq q 39)
  where
    plain : is_line_end c ≡ false
    plain = line_of (is_neither q (cond (eqb q 39) 92 q) c) (is_line_end c) t
      where
        line_of : (a b : Bool) → (a && not b) ≡ true → b ≡ false
        line_of true false e = refl
        line_of true true e = absurd (cc)
        line_of false b e = absurd (cc)

    others : is_neither q (cond (eqb q 39) 92 q) c ≡ true
    others = first_of (is_neither q (cond (eqb q 39) 92 q) c) (not (is_line_end c)) t
      where
        first_of : (a b : Bool) → (a && b) ≡ true → a ≡ true
        first_of true b e = refl
        first_of false b e = absurd (cc)

    by : (q ≡ 39) ⊎ (q ≡ 39 → ⊥) → (is_line_end c ≡ false) × (c ≡ q → ⊥)
        × (is_escape q c d ≡ false)
    by (inl e) = let n = other_not q (cond (eqb q 39) 92 q) c others in
        (plain, n.0, rw (ne_eqb c 92 (λ x. n.1 (x ∙ rw (eq-eqb q 39 e) refl))) (none (eqb q 39)))
      where
        none : (a : Bool) → ((a && false) && not (is_line_end d)) ≡ false
        none true = refl
        none false = refl
    by (inr n) = (plain, (other_not q (cond (eqb q 39) 92 q) c others).0, rw (ne_eqb q 39 n) refl)

-- One such character is skipped.
passed_one : (q : ℕ) (u : List ℕ) (i c : ℕ) → Some c ≡ slice_get u i
    → is_neither_on_line q (cond (eqb q 39) 92 q) c ≡ true
    → (close_end q u i ≡ close_end q u (i + 1)) × (line_end u i ≡ line_end u (i + 1))
passed_one q u i c s t =
    let (plain, other, single) = no_escape q c (get_or u (position_after u i) 0) t in
    rw (← after_some u i c s) (quote_plain q u i c s plain other single)

-- All characters up to the stop are skipped.
quote_passed : (q : ℕ) (u : List ℕ) (i : ℕ)
    → (close_end q u i ≡ close_end q u (piece_stop q u i))
    × (line_end u i ≡ line_end u (piece_stop q u i))
quote_passed q u i = (
  run_kept (close_end q u) (is_neither_on_line q (cond (eqb q 39) 92 q)) u
      (λ k c s t. (passed_one q u k c s t).0) i,
  run_kept (line_end u) (is_neither_on_line q (cond (eqb q 39) 92 q)) u
      (λ k c s t. (passed_one q u k c s t).1) i,
)

-- Index j of the text is not before index i, and the quote and its line end where they did.
pub record IsPassed (q : ℕ) (u : List ℕ) (i j : ℕ) : Type 0 where
  pub within : j ≤ length u
  pub on : i ≤ j
  pub close : close_end q u j ≡ close_end q u i
  pub line : line_end u j ≡ line_end u i

-- The search within a text from index i on, which is n long, ends at the stop.
stop_in : (q e : ℕ) (u : List ℕ) (i n : ℕ) → e ≡ cond (eqb q 39) 92 q → i ≤ length u
    → n ≡ prefix_len (is_neither_on_line q e) (take (length u - i) (drop i u))
    → (i + n ≡ piece_stop q u i) × (i + n ≤ length u)
stop_in q e u i n escape within len =
    let all : take (length u - i) (drop i u) ≡ drop i u =
    take_all (length u - i) (drop i u) (omega (arith, length-drop i u)) in
    let short : n ≡ prefix_len (is_neither_on_line q (cond (eqb q 39) 92 q)) (drop i u) =
    len ∙ rw (all, escape) refl in (
      ap (λ k. i + k) short,
      omega (
        arith,
        short,
        length-drop i u,
        prefix_len-le-length (is_neither_on_line q (cond (eqb q 39) 92 q)) (drop i u),
      ),
    )

-- So the search passes what is not the end of the quote.
pub passed : (q e : ℕ) (u : List ℕ) (i n : ℕ) → e ≡ cond (eqb q 39) 92 q → i ≤ length u
    → n ≡ prefix_len (is_neither_on_line q e) (take (length u - i) (drop i u))
    → IsPassed q u i (i + n)
passed q e u i n escape within len =
    let (at, inside) = stop_in q e u i n escape within len in
    let (close, line) = quote_passed q u i in
    record {
      within = inside;
      on = omega arith;
      close = ap (close_end q u) at ∙ sym close;
      line = ap (line_end u) at ∙ sym line;
    }

-- Skipping one byte inside a quote, and one with the byte that it escapes.
pub byte_two : (q : ℕ) (u : List ℕ) (i : ℕ) → i + 1 < length u → is_line_end (get_or u i 0) ≡ false
    → (get_or u i 0 ≡ q → ⊥) → is_escape q (get_or u i 0) (get_or u (i + 1) 0) ≡ true
    → close_end q u (i + 1 + 1) ≡ close_end q u i
byte_two q u i h plain other pair =
    let one : position_after u i ≡ i + 1 = after_within u i (omega arith) in
    let two : position_after u (i + 1) ≡ i + 1 + 1 = after_within u (i + 1) h in
    let pair' : is_escape q (get_or u i 0) (get_or u (position_after u i) 0) ≡ true = rw one pair in
    let e = (quote_escape q u i (get_or u i 0) (some_read u i (omega arith)) plain other pair').0 in
    sym (e ∙ ap (λ k. close_end q u (position_after u k)) one ∙ ap (close_end q u) two)

pub byte_alone : (q : ℕ) (u : List ℕ) (i : ℕ) → i < length u → is_line_end (get_or u i 0) ≡ false
    → (get_or u i 0 ≡ q → ⊥)
    → (i + 1 < length u → is_escape q (get_or u i 0) (get_or u (i + 1) 0) ≡ false)
    → close_end q u (i + 1) ≡ close_end q u i
byte_alone q u i h plain other single =
    by (cases_lt (i + 1) (length u)) (cases_Bool (is_escape q (get_or u i 0) (get_or u (i + 1) 0)))
  where
    one : position_after u i ≡ i + 1
    one = after_within u i h

    by : (i + 1 < length u) ⊎ (length u ≤ i + 1)
        → (is_escape q (get_or u i 0) (get_or u (i + 1) 0) ≡ true)
        ⊎ (is_escape q (get_or u i 0) (get_or u (i + 1) 0) ≡ false)
        → close_end q u (i + 1) ≡ close_end q u i
    by more (inr single') =
        let alone : is_escape q (get_or u i 0) (get_or u (position_after u i) 0) ≡ false = rw one single' in
        sym ((quote_plain q u i (get_or u i 0) (some_read u i h) plain other alone).0
        ∙ ap (close_end q u) one)
    by (inl more) (inl pair) = absurd (let no = single more in cc)
    by (inr last) (inl pair) =
        let pair' : is_escape q (get_or u i 0) (get_or u (position_after u i) 0) ≡ true = rw one pair
        in
        let e = (quote_escape q u i (get_or u i 0) (some_read u i h) plain other pair').0 in
        sym (e ∙ ap (λ k. close_end q u (position_after u k)) one
        ∙ ap (close_end q u) (after_past u (i + 1) last))

-- Nothing is past the end of the text.
pub read_past : (u : List ℕ) (i : ℕ) → length u ≤ i → slice_get u i ≡ None
read_past [] i h = refl
read_past (x ∷ u) zero h = absurd (omega arith)
read_past (x ∷ u) (suc i) h = read_past u i (omega arith)

-- The end of the text leaves the quote open.
pub quote_past : (q : ℕ) (u : List ℕ) (i : ℕ) → length u ≤ i → (close_end q u i ≡ None)
    × (line_end u i ≡ i)
quote_past q u i h = quote_none q u i (sym (read_past u i h))

-- ---- the mark of a quote in `'`, which ends at index j

-- A quote that is not closed, or is empty, keeps the mark.
pub mark_kept : (mark : Option ℕ) (u : List ℕ) (i j : ℕ) → j ≡ quote_end 39 u i
    → (is_some (close_end 39 u i) ≡ true → j ≤ i + 1) → mark ≡ mark_after_quote mark 39 u i
mark_kept mark u i j end few = by (close_len 39 (drop i u)) refl
  where
    by : (o : Option ℕ) → close_len 39 (drop i u) ≡ o → mark ≡ mark_after_quote mark 39 u i
    by None e = rw e refl
    by (Some n) e =
        let short : quote_len 39 (drop i u) ≡ n = rw e refl in
        let one : j ≤ i + 1 = few (rw e refl) in
        let none : n - 1 ≡ 0 = omega arith in
        rw (e, none) refl

-- A closed quote with text has the mark of its last character.
pub mark_last : (mark : Option ℕ) (u : List ℕ) (i j : ℕ) → j ≡ quote_end 39 u i
    → is_some (close_end 39 u i) ≡ true → i + 1 < j
    → (j - 2 < length u) × (Some (get_or u (j - 2) 0) ≡ mark_after_quote mark 39 u i)
mark_last mark u i j end closed some = by (close_len 39 (drop i u)) refl
  where
    within : quote_len 39 (drop i u) ≤ length (drop i u)
    within = rest_in 39 (drop i u)

    by : (o : Option ℕ) → close_len 39 (drop i u) ≡ o
        → (j - 2 < length u) × (Some (get_or u (j - 2) 0) ≡ mark_after_quote mark 39 u i)
    by None e = absurd (let no : is_some (close_end 39 u i) ≡ false = rw e refl in cc)
    by (Some n) e =
        let len : quote_len 39 (drop i u) ≡ n = rw e refl in
        let inside : j - 2 < length u = omega (arith, within, length-drop i u) in
        let back : n - 1 ≡ n - 2 + 1 = omega arith in
        let to : i + (n - 2) ≡ j - 2 = omega arith in
        let read : last_or None (take (n - 2 + 1) (drop i u)) ≡ slice_get u (j - 2) =
        take_last None (drop i u) (n - 2) (omega (arith, within))
        ∙ read_on u i (n - 2) ∙ ap (slice_get u) to in (
          inside,
          rw (e, back, read, ← some_read u (j - 2) inside) refl,
        )
