-- `find_end` is the end of the first occurrence.
use Rattle.std.proofs.Common.{◌≡◌, ℕ, zero, suc, ◌+◌, ◌-◌, ◌<◌, ◌≤◌, Bool, true, false, List, [], ◌∷◌, length, drop, Option, Some, None, nat_eq, refl, arith}
use Rattle.std.specs.List.{starts_with}
use Rattle.squawk_lexer.specs.Dollar.{find_end}
use Rattle.squawk_lexer.specs.Laws.{IsFirstOccurrence}

-- A delimiter that is found ends with its first occurrence.
pub found : (d v : List ℕ) (n : ℕ) → find_end d v ≡ Some n → (length d ≤ n)
    × IsFirstOccurrence d v (n - length d)
found d [] n e = absurd (cc)
found d (c ∷ v) n e = by (starts_with nat_eq (c ∷ v) d) refl (find_end d v) refl
    (λ m h. found d v m h)
  where
    by : (b : Bool) → starts_with nat_eq (c ∷ v) d ≡ b → (o : Option ℕ) → find_end d v ≡ o
        → ((m : ℕ) → find_end d v ≡ Some m → (length d ≤ m) × IsFirstOccurrence d v (m - length d))
        → (length d ≤ n) × IsFirstOccurrence d (c ∷ v) (n - length d)
    by true t o f more =
        let here = rw t at e in
        let n_is : length d ≡ n = cc in
        let none : n - length d ≡ 0 = omega arith in
        (omega arith, rw none (record { stands = t; first = λ k h. absurd (omega arith) }))
    by false t None f more = let nowhere = rw (t, f) at e in absurd (cc)
    by false t (Some m) f more =
        let there = rw (t, f) at e in
        let n_is : m + 1 ≡ n = cc in
        let rest = more m f in
        let within : length d ≤ m = rest.0 in
        let next : n - length d ≡ suc (m - length d) = omega arith in (
          omega arith,
          rw next (record {
            stands = rest.1.stands;
            first = before (m - length d) t rest.1.first;
          }),
        )
      where
        before : (j : ℕ) → starts_with nat_eq (c ∷ v) d ≡ false
            → ((k : ℕ) → k < j → starts_with nat_eq (drop k v) d ≡ false)
            → (k : ℕ) → k < suc j → starts_with nat_eq (drop k (c ∷ v)) d ≡ false
        before j t first zero h = t
        before j t first (suc k) h = first k (omega arith)

-- A delimiter that is not found does not occur.
pub nowhere : (d v : List ℕ) → find_end d v ≡ None → (k : ℕ) → k < length v
    → starts_with nat_eq (drop k v) d ≡ false
nowhere d [] e k h = absurd (omega arith)
nowhere d (c ∷ v) e k h = by (starts_with nat_eq (c ∷ v) d) refl (find_end d v) refl k h
    (λ f j i. nowhere d v f j i)
  where
    by : (b : Bool) → starts_with nat_eq (c ∷ v) d ≡ b → (o : Option ℕ) → find_end d v ≡ o → (k : ℕ)
        → k < length (c ∷ v)
        → (find_end d v ≡ None → (j : ℕ) → j < length v → starts_with nat_eq (drop j v) d ≡ false)
        → starts_with nat_eq (drop k (c ∷ v)) d ≡ false
    by true t o f k h more = let here = rw t at e in absurd (cc)
    by false t (Some m) f k h more = let there = rw (t, f) at e in absurd (cc)
    by false t None f zero h more = t
    by false t None f (suc k) h more = more f k (omega arith)
