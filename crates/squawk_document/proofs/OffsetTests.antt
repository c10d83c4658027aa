-- Tests on lists of offsets.
use Rattle.std.proofs.Common.{inl, inr, ◌⊎◌, ◌≡◌, ℕ, suc, ◌+◌, ◌<◌, ◌≤◌, Bool, true, false, not, ◌||◌, ◌&&◌, eqb, List, [], ◌∷◌, ◌++◌, length, refl, sym, ◌∙◌, ap, arith}
use Rattle.std.proofs.lemmas.Bool.Decides.{nat_tests}
use Rattle.std.specs.List.{list_any, position_or_len}
use Rattle.squawk_lexer.specs.Cut.{token_ends}
use Rattle.squawk_lexer.specs.declared.token.Token.{Token}
use Rattle.squawk_document.specs.Boundaries.{is_among, total_len}

-- both hold
pub and_parts : (a b : Bool) → (a && b) ≡ true → (a ≡ true) × (b ≡ true)
and_parts true b e = (refl, e)
and_parts false b e = absurd (cc)

-- one of both holds
pub or_parts : (a b : Bool) → (a || b) ≡ true → (a ≡ true) ⊎ (b ≡ true)
or_parts true b e = inl refl
or_parts false b e = inr e

-- neither holds
pub or_none : (a b : Bool) → (a || b) ≡ false → (a ≡ false) × (b ≡ false)
or_none true b e = absurd (cc)
or_none false b e = (refl, e)

-- what is not true is false
pub not_true : (b : Bool) → not b ≡ true → b ≡ false
not_true true e = absurd (cc)
not_true false e = refl

-- what cannot be true is false
pub is_false : (b : Bool) → (b ≡ true → ⊥) → b ≡ false
is_false true h = absurd (h refl)
is_false false h = refl

-- equal by the test are equal
pub same_offset : (a b : ℕ) → eqb a b ≡ true → a ≡ b
same_offset a b e = grind (arith, nat_tests)

-- the test over appended lists
pub any-append : (q : ℕ → Bool) (xs ys : List ℕ)
    → list_any q (xs ++ ys) ≡ (list_any q xs || list_any q ys)
any-append q [] ys = refl
any-append q (x ∷ xs) ys = by (q x) (any-append q xs ys)
  where
    by : (b : Bool) → list_any q (xs ++ ys) ≡ (list_any q xs || list_any q ys)
        → (b || list_any q (xs ++ ys)) ≡ ((b || list_any q xs) || list_any q ys)
    by true e = refl
    by false e = e

-- none passes where none of the members does
pub none_by : (q : ℕ → Bool) (xs : List ℕ) → ((x : ℕ) → is_among xs x ≡ true → q x ≡ false)
    → list_any q xs ≡ false
none_by q [] h = refl
none_by q (x ∷ xs) h = rw (h x (here)) (none_by q xs (λ y m. h y (later y m)))
  where
    here : is_among (x ∷ xs) x ≡ true
    here = let same : eqb x x ≡ true = grind (arith, nat_tests) in rw same refl

    later : (y : ℕ) → is_among xs y ≡ true → is_among (x ∷ xs) y ≡ true
    later y m = by (eqb x y)
      where
        by : (b : Bool) → (b || is_among xs y) ≡ true
        by true = refl
        by false = m

-- a member does not pass where none does
pub member_fails : (q : ℕ → Bool) (xs : List ℕ) (x : ℕ) → list_any q xs ≡ false
    → is_among xs x ≡ true → q x ≡ false
member_fails q [] x none m = absurd (cc)
member_fails q (y ∷ ys) x none m =
    let (first, rest) = or_none (q y) (list_any q ys) none in
    elim (or_parts (eqb y x) (is_among ys x) m) [
      | inl e ↦ ap q (sym (same_offset y x e))
          ∙ first
      | inr e ↦ member_fails q ys x rest e
    ]

-- the position of the first that passes
pub first_at : (q : ℕ → Bool) (xs : List ℕ) (y : ℕ) (ys : List ℕ) → list_any q xs ≡ false
    → q y ≡ true → position_or_len q (xs ++ y ∷ ys) ≡ length xs
first_at q [] y ys none passes = rw passes refl
first_at q (x ∷ xs) y ys none passes =
    let (first, rest) = or_none (q x) (list_any q xs) none in
    rw first (omega (arith, first_at q xs y ys rest passes))

-- the position is past the end if none passes
pub first_none : (q : ℕ → Bool) (xs : List ℕ) → list_any q xs ≡ false
    → position_or_len q xs ≡ length xs
first_none q [] none = refl
first_none q (x ∷ xs) none =
    let (first, rest) = or_none (q x) (list_any q xs) none in
    rw first (omega (arith, first_none q xs rest))

-- ---- tokens

-- the bytes of appended tokens
pub total_len-append : (xs ys : List Token) → total_len (xs ++ ys) ≡ total_len xs + total_len ys
total_len-append [] ys = omega arith
total_len-append (x ∷ xs) ys = omega (arith, total_len-append xs ys)

-- the ends of appended tokens
pub token_ends-append : (at : ℕ) (xs ys : List Token)
    → token_ends at (xs ++ ys) ≡ token_ends at xs ++ token_ends (at + total_len xs) ys
token_ends-append at [] ys = ap (λ n. token_ends n ys) (omega arith)
token_ends-append at (x ∷ xs) ys =
    ap (λ es. (at + x.len) ∷ es)
    (token_ends-append (at + x.len) xs ys
    ∙ ap (λ n. token_ends (at + x.len) xs ++ token_ends n ys) (omega arith))

-- there are as many ends as tokens
pub length-token_ends : (at : ℕ) (xs : List Token) → length (token_ends at xs) ≡ length xs
length-token_ends at [] = refl
length-token_ends at (x ∷ xs) = ap suc (length-token_ends (at + x.len) xs)

-- each token has a byte at least
abbrev pub Positive : List Token → Type 0
Positive [] = Unit {0}
Positive (t ∷ ts) = (0 < t.len) × Positive ts

-- the second of appended lists
pub Positive-right : (xs ys : List Token) → Positive (xs ++ ys) → Positive ys
Positive-right [] ys p = p
Positive-right (x ∷ xs) ys p = Positive-right xs ys p.1

-- the first of appended lists
pub Positive-left : (xs ys : List Token) → Positive (xs ++ ys) → Positive xs
Positive-left [] ys p = tt
Positive-left (x ∷ xs) ys p = (p.0, Positive-left xs ys p.1)

-- an end lies past the start, and at or before the end of all
pub end_above : (at : ℕ) (xs : List Token) (p : ℕ) → Positive xs
    → is_among (token_ends at xs) p ≡ true → at < p
end_above at [] p pos m = absurd (cc)
end_above at (x ∷ xs) p pos m =
    let some : 0 < x.len = pos.0 in
    elim (or_parts (eqb (at + x.len) p) (is_among (token_ends (at + x.len) xs) p) m) [
      | inl e ↦ let same = same_offset (at + x.len) p e in omega arith
      | inr e ↦ let rest =
          end_above (at + x.len) xs p pos.1 e in omega arith
    ]

-- an end is at or before the end of all
pub end_within : (at : ℕ) (xs : List Token) (p : ℕ) → is_among (token_ends at xs) p ≡ true
    → p ≤ at + total_len xs
end_within at [] p m = absurd (cc)
end_within at (x ∷ xs) p m =
    elim (or_parts (eqb (at + x.len) p) (is_among (token_ends (at + x.len) xs) p) m) [
      | inl e ↦ let same = same_offset (at + x.len) p e in omega arith
      | inr e ↦ let rest =
          end_within (at + x.len) xs p e in omega arith
    ]

-- the last of some tokens ends at the end of all
pub end_of_all : (at : ℕ) (x : Token) (xs : List Token) (p : ℕ) → p ≡ at + total_len (x ∷ xs)
    → is_among (token_ends at (x ∷ xs)) p ≡ true
end_of_all at x [] p e = let same : eqb (at + x.len) p ≡ true = grind (arith, nat_tests) in
    rw same refl
end_of_all at x (y ∷ ys) p e =
    by (eqb (at + x.len) p) (end_of_all (at + x.len) y ys p (omega arith))
  where
    by : (b : Bool) → is_among (token_ends (at + x.len) (y ∷ ys)) p ≡ true
        → (b || is_among (token_ends (at + x.len) (y ∷ ys)) p) ≡ true
    by true e = refl
    by false e = e
