-- A test that a table of flags has the members of a list, and what it proves.
use Rattle.std.proofs.Common.{◌≡◌, ℕ, zero, suc, ◌+◌, ◌<◌, Bool, true, false, ◌&&◌, ◌==◌, List, [], ◌∷◌, length, slice_index, slice_index_or, Contains, ◌↔◌, if◌then◌else◌, refl, sym, ap, ◌∙◌, arith, eqb-true, le_of_suc-le-suc, suc-le-suc, not-suc-le-zero, zero-lt-suc, inl, inr}
use Rattle.std.proofs.lemmas.Bool.{and_parts}
use Rattle.std.proofs.lemmas.Bool.Decides.{eqb_tells}
use Rattle.std.specs.Int.{bit_at}
use Rattle.squawk_words.specs.Flags.{bit_of, HasFlags}
use Rattle.squawk_words.specs.Members.{members_of}
use Rattle.squawk_words.specs.declared.sets.Set.{Set}

-- in the flags of the kinds from n on, the bit is 1 exactly at the kinds of the sorted list
unfoldable pub flagged : ℕ → ℕ → List ℕ → List ℕ → Bool
flagged bit n [] [] = true
flagged bit n [] (m ∷ ms) = false
flagged bit n (f ∷ fs) [] = (bit_at f bit == 0) && flagged bit (suc n) fs []
flagged bit n (f ∷ fs) (m ∷ ms) =
    (bit_at f bit == (if m == n then 1 else 0))
    && flagged bit (suc n) fs (if m == n then ms else m ∷ ms)

-- one of two tests
abbrev pick : Bool → Bool → Bool → Bool
pick x y b = if b then x else y

-- whether the list has the number
unfoldable has : List ℕ → ℕ → Bool
has [] k = false
has (m ∷ ms) k = if m == k then true else has ms k

-- a list has its first number
has_same : (m : ℕ) (ms : List ℕ) (k : ℕ) → m ≡ k → has (m ∷ ms) k ≡ true
unfolding has
has_same m ms k same =
    elim (eqb_tells m k) [
      | inl here ↦ ap (pick true (has ms k)) here.0
      | inr other ↦ absurd (other.1 same)
    ]

-- where the first number is another, the rest decides
has_other : (m : ℕ) (ms : List ℕ) (k : ℕ) → (m ≡ k → ⊥) → has (m ∷ ms) k ≡ has ms k
unfolding has
has_other m ms k differs =
    elim (eqb_tells m k) [
      | inl here ↦ absurd (differs here.1)
      | inr other ↦ ap (pick true (has ms k)) other.0
    ]

-- the list contains a number that it has
has_true : (ms : List ℕ) (k : ℕ) → has ms k ≡ true → Contains ms k
unfolding has
has_true [] k h = cc
has_true (m ∷ ms) k h =
    elim (eqb_tells m k) [
      | inl here ↦ (0, zero-lt-suc _, here.1)
      | inr other ↦
          let rest = has_true ms k (sym (ap (pick true (has ms k)) other.0) ∙ h) in
          (suc rest.0, suc-le-suc rest.1, rest.2)
    ]

-- a list has each of its elements
has_at : (ms : List ℕ) (k i : ℕ) → i < length ms → slice_index_or ms i k ≡ k → has ms k ≡ true
has_at [] k i lt at = absurd (not-suc-le-zero lt)
has_at (m ∷ ms) k zero lt at = has_same m ms k at
has_at (m ∷ ms) k (suc i) lt at =
    elim (eqb_tells m k) [
      | inl here ↦ has_same m ms k here.1
      | inr other ↦ has_other m ms k other.1 ∙ has_at ms k i (le_of_suc-le-suc lt) at
    ]

-- what the test says where the first kind is the first member
flagged_same : (bit n f : ℕ) (fs : List ℕ) (m : ℕ) (ms : List ℕ) → m ≡ n
    → flagged bit n (f ∷ fs) (m ∷ ms) ≡ true
    → (bit_at f bit ≡ 1) × (flagged bit (suc n) fs ms ≡ true)
unfolding flagged
flagged_same bit n f fs m ms same ok =
    let first = λ (b : Bool). (bit_at f bit == (if b then 1 else 0))
    && flagged bit (suc n) fs (if b then ms else m ∷ ms) in
    elim (eqb_tells m n) [
      | inl here ↦
          let parts = and_parts (bit_at f bit == 1) (flagged bit (suc n) fs ms)
          (sym (ap first here.0) ∙ ok) in
          (eqb-true _ _ parts.0, parts.1)
      | inr other ↦ absurd (other.1 same)
    ]

-- what it says where the first member is a later kind
flagged_other : (bit n f : ℕ) (fs : List ℕ) (m : ℕ) (ms : List ℕ) → (m ≡ n → ⊥)
    → flagged bit n (f ∷ fs) (m ∷ ms) ≡ true
    → (bit_at f bit ≡ 0) × (flagged bit (suc n) fs (m ∷ ms) ≡ true)
unfolding flagged
flagged_other bit n f fs m ms differs ok =
    let first = λ (b : Bool). (bit_at f bit == (if b then 1 else 0))
    && flagged bit (suc n) fs (if b then ms else m ∷ ms) in
    elim (eqb_tells m n) [
      | inl here ↦ absurd (differs here.1)
      | inr other ↦
          let parts = and_parts (bit_at f bit == 0) (flagged bit (suc n) fs (m ∷ ms))
          (sym (ap first other.0) ∙ ok) in
          (eqb-true _ _ parts.0, parts.1)
    ]

-- no member of the rest is below n
flagged_low : (bit n : ℕ) (fs ms : List ℕ) (k : ℕ) → flagged bit n fs ms ≡ true → k < n
    → has ms k ≡ false
unfolding flagged has
flagged_low bit n fs [] k ok lt = refl
flagged_low bit n [] (m ∷ ms) k ok lt = cc
flagged_low bit n (f ∷ fs) (m ∷ ms) k ok lt =
    elim (eqb_tells m n) [
      | inl here ↦
          has_other m ms k (λ e. not_lt_self k (omega (arith, e, here.1)))
          ∙ flagged_low bit (suc n) fs ms k (flagged_same bit n f fs m ms here.1 ok).1 (omega arith)
      | inr other ↦
          let rest = (flagged_other bit n f fs m ms other.1 ok).1 in
          flagged_low bit (suc n) fs (m ∷ ms) k rest (omega arith)
    ]
  where
    not_lt_self : (x : ℕ) → x < x → ⊥
    not_lt_self x h = absurd (omega arith)

-- a test as a bit
abbrev one_if : Bool → ℕ
one_if b = if b then 1 else 0

-- the bit of each kind is 1 where the list has the kind, and else 0
flagged_at : (bit n : ℕ) (fs ms : List ℕ) (k : ℕ)
    → flagged bit n fs ms ≡ true → k < length fs
    → bit_at (slice_index fs k) bit ≡ one_if (has ms (n + k))
unfolding flagged has
flagged_at bit n [] ms k ok lt = absurd (not-suc-le-zero lt)
flagged_at bit n (f ∷ fs) [] zero ok lt =
    eqb-true _ _ (and_parts (bit_at f bit == 0) (flagged bit (suc n) fs []) ok).0
flagged_at bit n (f ∷ fs) [] (suc k) ok lt =
    flagged_at bit (suc n) fs [] k (and_parts (bit_at f bit == 0) (flagged bit (suc n) fs []) ok).1
    (le_of_suc-le-suc lt)
flagged_at bit n (f ∷ fs) (m ∷ ms) zero ok lt =
    elim (eqb_tells m n) [
      | inl here ↦
          (flagged_same bit n f fs m ms here.1 ok).0
          ∙ ap one_if (sym (has_same m ms (n + 0) (omega (arith, here.1))))
      | inr other ↦
          let parts = flagged_other bit n f fs m ms other.1 ok in
          parts.0
          ∙ ap one_if (sym (flagged_low bit (suc n) fs (m ∷ ms) (n + 0) parts.1 (omega arith)))
    ]
flagged_at bit n (f ∷ fs) (m ∷ ms) (suc k) ok lt =
    let moved : suc n + k ≡ n + suc k = omega arith in
    elim (eqb_tells m n) [
      | inl here ↦
          let differs : m ≡ n + suc k → ⊥ = λ e. absurd (omega (arith, e, here.1)) in
          flagged_at bit (suc n) fs ms k (flagged_same bit n f fs m ms here.1 ok).1
          (le_of_suc-le-suc lt)
          ∙ ap (λ j. one_if (has ms j)) moved ∙ ap one_if (sym (has_other m ms (n + suc k) differs))
      | inr other ↦
          flagged_at bit (suc n) fs (m ∷ ms) k (flagged_other bit n f fs m ms other.1 ok).1
          (le_of_suc-le-suc lt)
          ∙ ap (λ j. one_if (has (m ∷ ms) j)) moved
    ]

-- the bit 1 is a test that passed
one_if_true : (b : Bool) → one_if b ≡ 1 → b ≡ true
one_if_true true h = refl
one_if_true false h = absurd (omega arith)

-- the bit is 1 exactly at the members
IsFlag : (flags ms : List ℕ) (bit kind : ℕ)
    → flagged bit 0 flags ms ≡ true → kind < length flags
    → (bit_at (slice_index flags kind) bit ≡ 1) ↔ Contains ms kind
IsFlag flags ms bit kind ok lt =
    let from_zero : 0 + kind ≡ kind = omega arith in
    let at : bit_at (slice_index flags kind) bit ≡ one_if (has ms kind) =
    flagged_at bit 0 flags ms kind ok lt ∙ ap (λ j. one_if (has ms j)) from_zero in (
      λ set. has_true ms kind (one_if_true (has ms kind) (sym at ∙ set)),
      λ member. at ∙ ap one_if (has_at ms kind member.0 member.1 member.2),
    )

-- each member has flags
flagged_within : (bit n : ℕ) (fs ms : List ℕ)
    → flagged bit n fs ms ≡ true → (k d : ℕ) → k < length ms → slice_index_or ms k d < n + length fs
unfolding flagged
flagged_within bit n fs [] ok k d lt = absurd (not-suc-le-zero lt)
flagged_within bit n [] (m ∷ ms) ok k d lt = cc
flagged_within bit n (f ∷ fs) (m ∷ ms) ok k d lt =
    elim (eqb_tells m n) [
      | inl here ↦
          let rest = (flagged_same bit n f fs m ms here.1 ok).1 in
          elim k as (λ j. j < suc (length ms) → slice_index_or (m ∷ ms) j d < n + suc (length fs)) [
            | zero ↦ λ _. omega (arith, here.1)
            | suc j ↦ λ below.
                omega (arith, flagged_within bit (suc n) fs ms rest j d (le_of_suc-le-suc below))
          ] lt
      | inr other ↦
          let rest = (flagged_other bit n f fs m ms other.1 ok).1 in
          omega (arith, flagged_within bit (suc n) fs (m ∷ ms) rest k d lt)
    ]

-- the tests of all sets together
pub HasFlags_from : (flags : List ℕ)
    → ((set : Set) → flagged (bit_of set) 0 flags (members_of set) ≡ true) → HasFlags flags
HasFlags_from flags each =
    record {
      each = λ set kind lt. IsFlag flags (members_of set) (bit_of set) kind (each set) lt;
      within = λ set k d lt.
          omega (arith, flagged_within (bit_of set) 0 flags (members_of set) (each set) k d lt);
    }
