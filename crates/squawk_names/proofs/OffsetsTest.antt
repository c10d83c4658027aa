-- A test that a table has the offset of each text, and what it proves.
use Rattle.std.proofs.Common.{◌≡◌, ℕ, zero, suc, ◌+◌, ◌-◌, ◌<◌, ◌≤◌, Bool, true, false, ◌&&◌, ◌==◌, List, [], ◌∷◌, ◌++◌, length, take, drop, slice_index, sym, ap, subst, ◌∙◌, arith, suc-add, suc-le-suc, zero-le, drop-drop, length-drop, length-take, length-append, eqb-true, nat_lt, nat_le, ltb-true, leb-true, get_or, not-suc-le-zero, le_of_suc-le-suc}
use Rattle.std.specs.List.{list_all}
use Rattle.std.proofs.Math.Seq.{take-append_seam}
use Rattle.std.proofs.lemmas.Bool.{and_parts}
use Rattle.std.proofs.lemmas.List.{take-take}
use Rattle.std.proofs.lemmas.Str.Ascii.{IsAscii-from_all}
use Rattle.std.proofs.lemmas.Slice.Eq.{bytes_eq-Decides}
use Rattle.std.specs.Str.{bytes_eq}
use Rattle.squawk_names.specs.Offsets.{IsLine, IsOffsets}

-- LF
abbrev pub line_feed : ℕ
line_feed = 10

-- `rest`, the bytes from the offset `from` on, begins with the texts, each of at most 39 bytes and
-- followed by a line feed; `ends` are the offsets after those line feeds
unfoldable pub begins_with : ℕ → List ℕ → List ℕ → List (List ℕ) → Bool
begins_with from rest ends [] = true
begins_with from rest [] (t ∷ ts) = false
begins_with from rest (end ∷ ends) (t ∷ ts) =
    (nat_le (length t) 39 && ((end == from + length t + 1)
    && bytes_eq (take (length t + 1) rest) (t ++ line_feed ∷ [])))
    && begins_with end (drop (length t + 1) rest) ends ts

-- what the test of the first text says
first_line : (from end : ℕ) (ends bytes t : List ℕ) → from ≤ length bytes → length t ≤ 39
    → end ≡ from + length t + 1
    → take (length t + 1) (drop from bytes) ≡ t ++ line_feed ∷ []
    → IsLine (from ∷ end ∷ ends) bytes 0 t
first_line from end ends bytes t le short at same =
    let size : length (take (length t + 1) (drop from bytes)) ≡ length t + 1 = ap length same
    ∙ length-append t (line_feed ∷ []) in
    let width : end - 1 - from ≡ length t = omega arith in
    let shorter : take (length t) (drop from bytes)
    ≡ take (length t) (take (length t + 1) (drop from bytes)) =
    sym (take-take (length t) (length t + 1) (drop from bytes) (omega arith)) in
    record {
      listed = suc-le-suc (suc-le-suc zero-le);
      ordered = let h : from < end = omega arith in h;
      within = let h : end ≤ length bytes =
          omega (arith, length-take (length t + 1) (drop from bytes), length-drop from bytes) in h;
      short = short;
      text_is = ap (λ n. take n (drop from bytes)) width ∙ shorter ∙ ap (take (length t)) same
          ∙ take-append_seam t (line_feed ∷ []);
    }

-- one more offset before the others moves each line by one number
later_line : (from : ℕ) (starts bytes : List ℕ) (k : ℕ) (t : List ℕ) → IsLine starts bytes k t
    → IsLine (from ∷ starts) bytes (suc k) t
later_line from starts bytes k t h =
    let next : slice_index (from ∷ starts) (suc k + 1) ≡ slice_index starts (k + 1) =
    ap (slice_index (from ∷ starts)) (suc-add k 1) in
    let listed = h.listed in
    record {
      listed = omega arith;
      ordered = subst (λ n. slice_index starts k < n) (sym next) h.ordered;
      within = subst (λ n. n ≤ length bytes) (sym next) h.within;
      short = h.short;
      text_is =
          ap (λ n. take (n - 1 - slice_index starts k) (drop (slice_index starts k) bytes)) next
          ∙ h.text_is;
    }

-- what the test says of each text
line_at : (bytes : List ℕ) (from : ℕ) (ends : List ℕ) (ts : List (List ℕ)) (k : ℕ)
    → from ≤ length bytes
    → begins_with from (drop from bytes) ends ts ≡ true → k < length ts
    → IsLine (from ∷ ends) bytes k (get_or ts k [])
unfolding begins_with
line_at bytes from ends [] k le ok lt = absurd (not-suc-le-zero lt)
line_at bytes from [] (s ∷ ts) k le ok lt = cc
line_at bytes from (end ∷ ends) (s ∷ ts) k le ok lt =
    let test = (end == from + length s + 1)
    && bytes_eq (take (length s + 1) (drop from bytes)) (s ++ line_feed ∷ []) in
    let parts = and_parts (nat_le (length s) 39 && test) _ ok in
    let sized = and_parts (nat_le (length s) 39) test parts.0 in
    let head = and_parts (end == from + length s + 1)
    (bytes_eq (take (length s + 1) (drop from bytes)) (s ++ line_feed ∷ [])) sized.1 in
    let at = eqb-true _ _ head.0 in
    let first = first_line from end ends bytes s le (leb-true (length s) 39 sized.0) at
    ((bytes_eq-Decides _ _).0 head.1) in
    let next : from + (length s + 1) ≡ end = omega (arith, at) in
    let rest : drop (length s + 1) (drop from bytes) ≡ drop end bytes =
    drop-drop (length s + 1) from bytes ∙ ap (λ n. drop n bytes) next in
    elim k as (λ n. n < suc (length ts)
    → IsLine (from ∷ end ∷ ends) bytes n (get_or (s ∷ ts) n [])) [
      | zero ↦ λ _. first
      | suc m ↦
          λ below. later_line from (end ∷ ends) bytes m (get_or ts m [])
          (line_at bytes end ends ts m first.within
          (subst (λ l. begins_with end l ends ts ≡ true) rest parts.1) (le_of_suc-le-suc below))
    ] lt

-- where all bytes pass the test, each is ASCII
all_ascii : (bytes : List ℕ) → list_all (λ b. nat_lt b 128) bytes ≡ true → (k d : ℕ)
    → k < length bytes → get_or bytes k d < 128
all_ascii [] ok k d lt = absurd (not-suc-le-zero lt)
all_ascii (b ∷ bytes) ok zero d lt =
    ltb-true b 128 (and_parts (nat_lt b 128) (list_all (λ x. nat_lt x 128) bytes) ok).0
all_ascii (b ∷ bytes) ok (suc k) d lt =
    all_ascii bytes (and_parts (nat_lt b 128) (list_all (λ x. nat_lt x 128) bytes) ok).1 k d
    (le_of_suc-le-suc lt)

-- the whole test
unfoldable pub are_offsets : List ℕ → List ℕ → List (List ℕ) → ℕ → Bool
are_offsets [] bytes ts count = false
are_offsets (from ∷ ends) bytes ts count =
    (from == 0) && ((length ts == count) && (list_all (λ b. nat_lt b 128) bytes
    && begins_with 0 bytes ends ts))

-- what the whole test says
pub are_offsets_true : (starts bytes : List ℕ) (ts : List (List ℕ)) (count : ℕ)
    → are_offsets starts bytes ts count ≡ true
    → IsOffsets starts bytes ts count
unfolding are_offsets
are_offsets_true [] bytes ts count ok = cc
are_offsets_true (from ∷ ends) bytes ts count ok =
    let first = and_parts (from == 0) _ ok in
    let second = and_parts (length ts == count) _ first.1 in
    let third = and_parts (list_all (λ b. nat_lt b 128) bytes)
    (begins_with 0 bytes ends ts) second.1 in
    record {
      ascii = IsAscii-from_all bytes (all_ascii bytes third.0);
      len = eqb-true _ _ second.0;
      each = λ k below.
          subst (λ n. IsLine (n ∷ ends) bytes k (get_or ts k [])) (sym (eqb-true from 0 first.0))
          (line_at bytes 0 ends ts k zero-le third.1
          (subst (λ n. k < n) (sym (eqb-true _ _ second.0)) below));
    }

-- unfolds the test where it is computed
unfoldable pub computing : Unit {0}
unfolding begins_with are_offsets
computing = tt
