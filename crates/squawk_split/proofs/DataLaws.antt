-- COPY data ends with the first end-of-data marker.
use Rattle.std.proofs.Common.{◌≡◌, ℕ, zero, suc, ◌+◌, ◌<◌, Bool, true, false, List, [], ◌∷◌, length, drop, Option, Some, None, unwrap_or, refl, sym, ap, ◌∙◌, eqb, cond, arith}
use Rattle.std.proofs.lemmas.Bool.Decides.{nat_tests}
use Rattle.squawk_lexer.specs.Classes.{line_feed}
use Rattle.squawk_split.specs.CopyData.{end_marker_len, copy_data_len, IsEndMarker, DataEndsAtFirstMarker, DataWithoutMarkerIsAll}

-- the end-of-data marker after the byte c, if c is LF
abbrev marker_after : ℕ → List ℕ → Option ℕ
marker_after c cs = cond (eqb c line_feed) (end_marker_len cs) None

-- a marker after the first byte, and one after a later byte, in the text and in its tail
marker_at_start : (c : ℕ) (cs : List ℕ) (n : ℕ) → marker_after c cs ≡ Some n
    → IsEndMarker (c ∷ cs) 0 n
marker_at_start c cs n e = by (eqb c line_feed) refl e
  where
    by : (b : Bool) → eqb c line_feed ≡ b → cond b (end_marker_len cs) None ≡ Some n
        → IsEndMarker (c ∷ cs) 0 n
    by true t e = record {
      within = omega arith;
      after_line_feed = let is : c ≡ line_feed =
          grind (arith, nat_tests) in is;
      marker = e;
    }
    by false t e = absurd (cc)

marker_after_first : (c : ℕ) (cs : List ℕ) (k : ℕ) → end_marker_len (drop (suc k + 1) (c ∷ cs))
    ≡ end_marker_len (drop (k + 1) cs)
marker_after_first c cs k =
    ap (λ m. end_marker_len (drop m (c ∷ cs))) (let e : suc k + 1 ≡ suc (k + 1) = omega arith in
    e)

marker_in_tail_is_later : (c : ℕ) (cs : List ℕ) (k n : ℕ) → IsEndMarker cs k n
    → IsEndMarker (c ∷ cs) (suc k) n
marker_in_tail_is_later c cs k n l = record {
  within = let w : k < length cs = l.within in omega arith;
  after_line_feed =
      l.after_line_feed;
  marker = marker_after_first c cs k ∙ l.marker;
}

later_marker_is_in_tail : (c : ℕ) (cs : List ℕ) (k n : ℕ) → IsEndMarker (c ∷ cs) (suc k) n
    → IsEndMarker cs k n
later_marker_is_in_tail c cs k n l = record {
  within = let w : suc k < length (c ∷ cs) = l.within in
      omega arith;
  after_line_feed = l.after_line_feed;
  marker = sym (marker_after_first c cs k) ∙ l.marker;
}

marker_here : (c : ℕ) (cs : List ℕ) (n : ℕ) → IsEndMarker (c ∷ cs) 0 n → marker_after c cs ≡ Some n
marker_here c cs n l = let t : eqb c line_feed ≡ true =
    ap (λ x. eqb x line_feed) l.after_line_feed in rw t l.marker

no_marker_here : (c : ℕ) (cs : List ℕ) → ((m : ℕ) → IsEndMarker (c ∷ cs) 0 m → ⊥)
    → marker_after c cs ≡ None
no_marker_here c cs never = by (marker_after c cs) refl
  where
    by : (o : Option ℕ) → marker_after c cs ≡ o → o ≡ None
    by None e = refl
    by (Some m) e = absurd (never m (marker_at_start c cs m e))

-- the data ends with the first marker, or else with the text
pub data_ends_at_first_marker : DataEndsAtFirstMarker
data_ends_at_first_marker [] k n l never = absurd (let w : k < 0 = l.within in omega arith)
data_ends_at_first_marker (c ∷ cs) zero n l never =
    ap (λ o. 1 + unwrap_or o (copy_data_len cs)) (marker_here c cs n l)
    ∙ omega arith
data_ends_at_first_marker (c ∷ cs) (suc k) n l never =
    let none : marker_after c cs ≡ None = no_marker_here c cs (λ m x. never 0 m (omega arith) x) in
    let rest : copy_data_len cs ≡ k + 1 + n =
    data_ends_at_first_marker cs k n (later_marker_is_in_tail c cs k n l) (λ j m less x.
    never (suc j) m (omega arith) (marker_in_tail_is_later c cs j m x)) in
    ap (λ o. 1 + unwrap_or o (copy_data_len cs)) none ∙ omega (arith, rest)

pub data_without_marker_is_all : DataWithoutMarkerIsAll
data_without_marker_is_all [] never = refl
data_without_marker_is_all (c ∷ cs) never =
    let none : marker_after c cs ≡ None = no_marker_here c cs (λ m x. never 0 m x) in
    let rest : copy_data_len cs ≡ length cs = data_without_marker_is_all cs (λ j m x.
    never (suc j) m (marker_in_tail_is_later c cs j m x)) in
    ap (λ o. 1 + unwrap_or o (copy_data_len cs)) none ∙ omega (arith, rest)
