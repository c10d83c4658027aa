-- Searches for the next of two characters. What each step over a skipped character keeps, the
-- search keeps.
use Rattle.std.proofs.Common.{◌≡◌, ℕ, zero, suc, ◌+◌, ◌-◌, ◌<◌, ◌≤◌, Bool, true, false, List, [], ◌∷◌, length, get_or, take, drop, slice_get, Some, refl, sym, ◌∙◌, ap, inl, inr, ◌⊎◌, ◌||◌, ◌&&◌, not, eqb, arith, add-zero}
use Rattle.std.proofs.lemmas.Bool.{cases_lt, cases_eq, cases_Bool}
use Rattle.std.proofs.lemmas.Bool.Decides.{nat_tests}
use Rattle.std.proofs.lemmas.List.{get_or-drop, length-drop}
use Rattle.std.proofs.lemmas.List.Sums.{prefix_len_stops}
use Rattle.std.specs.List.{prefix_len}
use Rattle.squawk_lexer.specs.Position.{position_after}
use Rattle.squawk_lexer.specs.Runs.{run_end}
use Rattle.squawk_lexer.specs.Bytes.{first_byte, IsAsciiRun}
use Rattle.squawk_lexer.specs.Stops.{is_neither, stop_at, is_neither_on_line}
use Rattle.squawk_lexer.proofs.ByteRuns.{IsUniform}
use Rattle.squawk_lexer.proofs.ByteReads.{lead_ascii, lead_high}
use Rattle.squawk_lexer.proofs.Steps.{drop_read, drop_past, after_some, within_some, get_some}

-- The class of all characters but two of ASCII holds all characters beyond ASCII.
pub uniform_neither : (a b : ℕ) → a < 128 → b < 128 → IsUniform (is_neither a b)
uniform_neither a b p q x y h k = grind (arith, nat_tests)

-- The character at an index within the text.
pub some_read : (u : List ℕ) (i : ℕ) → i < length u → Some (get_or u i 0) ≡ slice_get u i
some_read [] i h = absurd (omega arith)
some_read (x ∷ u) zero h = refl
some_read (x ∷ u) (suc i) h = some_read u i (omega arith)

-- What a step over a character of a class keeps, the whole run keeps.
kept_one : {X : Type 0} (F : ℕ → X) (p : ℕ → Bool) (u : List ℕ)
    → ((i c : ℕ) → Some c ≡ slice_get u i → p c ≡ true → F i ≡ F (i + 1)) → (n i : ℕ)
    → (prefix_len p (drop (i + 1) u) ≡ n → F (i + 1) ≡ F (i + 1 + n))
    → prefix_len p (drop i u) ≡ suc n → F i ≡ F (i + suc n)
kept_one F p u step n i more e = by (cases_lt i (length u)) (cases_Bool (p (get_or u i 0)))
  where
    by : (i < length u) ⊎ (length u ≤ i) → (p (get_or u i 0) ≡ true) ⊎ (p (get_or u i 0) ≡ false)
        → F i ≡ F (i + suc n)
    by (inl h) (inl t) =
        let first : prefix_len p (drop i u) ≡ 1 + prefix_len p (drop (i + 1) u) =
        rw (drop_read u i h, t) refl in
        let rest : prefix_len p (drop (i + 1) u) ≡ n = omega arith in
        let next : i + 1 + n ≡ i + suc n = omega arith in
        step i (get_or u i 0) (some_read u i h) t ∙ more rest ∙ ap F next
    by (inl h) (inr f) = absurd (let stop : prefix_len p (drop i u) ≡ 0 =
        rw (drop_read u i h, f) refl in omega arith)
    by (inr h) t = absurd (let stop : prefix_len p (drop i u) ≡ 0 = rw (drop_past u i h) refl in
        omega arith)

kept : {X : Type 0} (F : ℕ → X) (p : ℕ → Bool) (u : List ℕ)
    → ((i c : ℕ) → Some c ≡ slice_get u i → p c ≡ true → F i ≡ F (i + 1)) → (n i : ℕ)
    → prefix_len p (drop i u) ≡ n → F i ≡ F (i + n)
kept F p u step zero i e = ap F (sym (add-zero i))
kept F p u step (suc n) i e = kept_one F p u step n i (kept F p u step n (i + 1)) e

pub run_kept : {X : Type 0} (F : ℕ → X) (p : ℕ → Bool) (u : List ℕ)
    → ((i c : ℕ) → Some c ≡ slice_get u i → p c ≡ true → F i ≡ F (i + 1))
    → (i : ℕ) → F i ≡ F (run_end p u i)
run_kept F p u step i = kept F p u step (prefix_len p (drop i u)) i refl

-- The first byte of a character is one of two ASCII characters exactly where the character is.
pub byte_is_neither : (a b x : ℕ) (u : List ℕ) (i : ℕ) → a < 128 → b < 128
    → (IsAsciiRun u i 0 → x ≡ first_byte (get_or u (i + 0) 0))
    → is_neither a b x ≡ is_neither a b (get_or u i 0)
byte_is_neither a b x u i p q read = by (cases_lt (get_or u i 0) 128)
  where
    byte : x ≡ first_byte (get_or u i 0)
    byte = read (λ k below. absurd (omega arith))
        ∙ ap (λ k. first_byte (get_or u k 0)) (add-zero i)

    by : (get_or u i 0 < 128) ⊎ (128 ≤ get_or u i 0)
        → is_neither a b x ≡ is_neither a b (get_or u i 0)
    by (inl low) = ap (is_neither a b) (byte ∙ lead_ascii (get_or u i 0) low)
    by (inr high) =
        let beyond : 128 ≤ x = omega (arith, byte, lead_high (get_or u i 0) high) in
        uniform_neither a b p q x (get_or u i 0) beyond high

-- A search ends where it begins if the next character is one of the two.
pub stops_at_once : (a b : ℕ) (u : List ℕ) (i : ℕ) → not (is_neither a b (get_or u i 0)) ≡ true
    → stop_at a b u i ≡ i
unfolding stop_at
stops_at_once a b u i found = by (cases_lt i (length u))
  where
    stops : is_neither a b (get_or u i 0) ≡ false
    stops = grind (arith, nat_tests)

    by : (i < length u) ⊎ (length u ≤ i) → i + prefix_len (is_neither a b) (drop i u) ≡ i
    by (inl h) = rw (drop_read u i h, stops) (add-zero i)
    by (inr h) = rw (drop_past u i h) (add-zero i)

-- A search ends at or after its start.
pub stop_on : (a b : ℕ) (u : List ℕ) (i : ℕ) → i ≤ stop_at a b u i
unfolding stop_at
stop_on a b u i = omega arith

-- A skipped character is neither of the two.
pub other_not : (a b c : ℕ) → is_neither a b c ≡ true → (c ≡ a → ⊥) × (c ≡ b → ⊥)
other_not a b c t = (λ e. absurd (grind (arith, nat_tests)), λ e. absurd (grind (arith, nat_tests)))

-- The index after the one at which a search ends.
pub stop_after : (a b : ℕ) (u : List ℕ) (i c : ℕ) → Some c ≡ slice_get u (stop_at a b u i)
    → (position_after u (stop_at a b u i) ≡ stop_at a b u i + 1) × (i ≤ stop_at a b u i)
    × (stop_at a b u i < length u)
stop_after a b u i c s = (after_some u _ c s, on, within_some u _ c s)
  where
    on : i ≤ stop_at a b u i
    on = stop_on a b u i

-- A loop that goes on after that is nearer to the end of the text.
pub stop_smaller : (a b : ℕ) (u : List ℕ) (i c : ℕ) (v : List ℕ) (j k : ℕ)
    → Some c ≡ slice_get u (stop_at a b u i) → v ≡ u → j ≡ position_after u (stop_at a b u i)
    → j ≤ k → length v - k < length u - i
stop_smaller a b u i c v j k s same at on =
    let (next, first, within) = stop_after a b u i c s in
    rw same (omega arith)

-- A search ends at one of the two.
pub stop_is : (a b : ℕ) (u : List ℕ) (i c : ℕ) → Some c ≡ slice_get u (stop_at a b u i)
    → (c ≡ a → ⊥) → c ≡ b
unfolding stop_at
stop_is a b u i c s other = by stops (cases_eq c b)
  where
    stops : is_neither a b c ≡ false
    stops =
        let within : run_end (is_neither a b) u i < length u = within_some u _ c s in
        let left : length (drop i u) ≡ length u - i = length-drop i u in
        let here : get_or (drop i u) (prefix_len (is_neither a b) (drop i u)) 0 ≡ c =
        get_or-drop i u _ 0 ∙ get_some u _ c s in
        ap (is_neither a b) (sym here)
        ∙ prefix_len_stops (is_neither a b) (drop i u) 0 (omega arith)

    by : is_neither a b c ≡ false → (c ≡ b) ⊎ (c ≡ b → ⊥) → c ≡ b
    by t (inl e) = e
    by t (inr n) = absurd (grind (arith, nat_tests))

-- ---- the search

-- A disjunction of a test with itself.
or_same : (b : Bool) → (b || b) ≡ b
or_same true = refl
or_same false = refl

-- A search for one character is a search for it twice.
pub other_one : (a b c : ℕ) → a ≡ b → is_neither a b c ≡ not (eqb c a)
other_one a b c e = rw (← e) (ap not (or_same (eqb c a)))

-- ---- within a line

-- A run within a run is the run of both classes.
both_runs : (p q : ℕ → Bool) (bs : List ℕ) → prefix_len q (take (prefix_len p bs) bs)
    ≡ prefix_len (λ x. p x && q x) bs
both_runs p q [] = refl
both_runs p q (b ∷ bs) = by (cases_Bool (p b)) (cases_Bool (q b)) (both_runs p q bs)
  where
    by : (p b ≡ true) ⊎ (p b ≡ false) → (q b ≡ true) ⊎ (q b ≡ false)
        → prefix_len q (take (prefix_len p bs) bs) ≡ prefix_len (λ x. p x && q x) bs
        → prefix_len q (take (prefix_len p (b ∷ bs)) (b ∷ bs))
        ≡ prefix_len (λ x. p x && q x) (b ∷ bs)
    by (inl t) (inl s) more = let next : 1 + prefix_len p bs ≡ suc (prefix_len p bs) = omega arith
        in rw (t, next, s) (ap (λ n. 1 + n) more)
    by (inl t) (inr f) more = let next : 1 + prefix_len p bs ≡ suc (prefix_len p bs) = omega arith
        in rw (t, next, f) refl
    by (inr f) s more = rw f refl

-- Equal tests have equal runs.
same_runs : (p q : ℕ → Bool) → ((x : ℕ) → p x ≡ q x) → (bs : List ℕ)
    → prefix_len p bs ≡ prefix_len q bs
same_runs p q same [] = refl
same_runs p q same (b ∷ bs) = rw (same b, same_runs p q same bs) refl

-- The tests of a search on a line, in another order.
line_tests : (w x y z : Bool) → (not ((w || x) || y) && not z) ≡ (not (w || x) && not (y || z))
line_tests true x y z = refl
line_tests false true y z = refl
line_tests false false true z = refl
line_tests false false false z = refl

-- A search for the two characters or LF (10), and then for CR (13) before that, is a search on a
-- line.
pub inside_run : (a b : ℕ) (bs cs : List ℕ) (n m : ℕ)
    → n ≡ prefix_len (λ x. not ((eqb x a || eqb x b) || eqb x 10)) bs → cs ≡ take n bs
    → m ≡ prefix_len (λ x. not (eqb x 13)) cs → m ≡ prefix_len (is_neither_on_line a b) bs
inside_run a b bs cs n m first part second =
    rw (second, part, first)
    (both_runs (λ x. not ((eqb x a || eqb x b) || eqb x 10)) (λ x. not (eqb x 13)) bs
    ∙ same_runs (λ x. not ((eqb x a || eqb x b) || eqb x 10)
    && not (eqb x 13)) (is_neither_on_line a b)
    (λ x. line_tests (eqb x a) (eqb x b) (eqb x 10) (eqb x 13)) bs)
