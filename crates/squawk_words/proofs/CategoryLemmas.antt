-- The four categories of keywords are disjoint, and their union is all keywords: by a test of the
-- flags.
use Rattle.std.proofs.Common.{◌≡◌, ℕ, ◌+◌, ◌<◌, ◌≤◌, ◌==◌, ◌↔◌, Bool, true, List, [], ◌∷◌, length, slice_index, All, Any, AllPairs, Contains, refl, sym, subst, arith, inl, inr, eqb-true, not-suc-le-zero}
use Rattle.std.specs.Int.{bit_at}
use Rattle.std.specs.List.{list_all}
use Rattle.std.proofs.Math.Nat.{mod-lt}
use Rattle.std.proofs.lemmas.Bool.Decides.{eqb_tells}
use Rattle.std.proofs.lemmas.List.Elements.{All-nil, All-cons}
use Rattle.std.proofs.lemmas.List.Kept.{AllPairs-cons}
use Rattle.std.proofs.lemmas.List.Sums.{AllPass-from_list_all}
use Rattle.squawk_words.specs.Categories.{categories}
use Rattle.squawk_words.specs.Flags.{HasFlags, bit_of}
use Rattle.squawk_words.specs.Members.{members_of}
use Rattle.squawk_words.specs.KeywordSets.{all_keywords, unreserved_keywords}
use Rattle.squawk_words.specs.Sets.{col_name_keyword_first, type_func_name_keywords, reserved_keywords}
use Rattle.squawk_words.specs.declared.sets.Set.{Set}
use Rattle.squawk_words.specs.declared.sets.Set.TheVariants.{AllKeywords, UnreservedKeywords, ColNameKeywordFirst, TypeFuncNameKeywords, ReservedKeywords}

-- the bit of all keywords is the sum of the bits of the four categories
abbrev pub is_sum : ℕ → Bool
is_sum flags = bit_at flags 7 == bit_at flags 9 + bit_at flags 5 + bit_at flags 6 + bit_at flags 10

bit_small : (n b : ℕ) → bit_at n b < 2
bit_small n b = mod-lt _ (let h : 0 < 2 = omega arith in h)

-- no kind is in both
abbrev AreDisjoint : List ℕ → List ℕ → Type 0
AreDisjoint a b = (kind : ℕ) → Contains a kind → Contains b kind → ⊥

-- a member of the category is a keyword
abbrev IsKeywordOf : ℕ → List ℕ → Type 0
IsKeywordOf kind category = Contains category kind → Contains all_keywords kind

-- four elements of which a fact holds, and six pairs of them
module _ {X : Type 0} (a b c d : X) where
  all_four : (P : X → Type 0) → P a → P b → P c → P d → All P (a ∷ b ∷ c ∷ d ∷ [])
  all_four P at_a at_b at_c at_d =
      All-cons P a (b ∷ c ∷ d ∷ []) at_a
      (All-cons P b (c ∷ d ∷ []) at_b
      (All-cons P c (d ∷ []) at_c
      (All-cons P d [] at_d (All-nil P))))

  pairs_of_four : (R : X → X → Type 0) → R a b → R a c → R a d → R b c → R b d → R c d
      → AllPairs R (a ∷ b ∷ c ∷ d ∷ [])
  pairs_of_four R ab ac ad bc bd cd =
      AllPairs-cons R a (b ∷ c ∷ d ∷ [])
      (All-cons (R a) b (c ∷ d ∷ []) ab
      (All-cons (R a) c (d ∷ []) ac (All-cons (R a) d [] ad (All-nil (R a)))))
      (AllPairs-cons R b (c ∷ d ∷ [])
      (All-cons (R b) c (d ∷ []) bc (All-cons (R b) d [] bd (All-nil (R b))))
      (AllPairs-cons R c (d ∷ []) (All-cons (R c) d [] cd (All-nil (R c)))
      (AllPairs-cons R d [] (All-nil (R d)) (λ i j x before lt. absurd (not-suc-le-zero lt)))))

module _ (flags : List ℕ) (has : HasFlags flags) (ok : list_all is_sum flags ≡ true) where
  abbrev flag : ℕ → ℕ → ℕ
  flag bit kind = bit_at (slice_index flags kind) bit

  sum_at : (kind : ℕ) → kind < length flags → flag 7 kind
      ≡ flag 9 kind + flag 5 kind + flag 6 kind + flag 10 kind
  sum_at kind lt = eqb-true _ _ (AllPass-from_list_all is_sum flags ok kind 0 lt)

  inside : (set : Set) (kind : ℕ) → Contains (members_of set) kind → kind < length flags
  inside set kind member =
      subst (λ n. n < length flags) member.2 (has.within set member.0 kind member.1)

  flag_of : (set : Set) (kind : ℕ) → Contains (members_of set) kind → flag (bit_of set) kind ≡ 1
  flag_of set kind member = (has.each set kind (inside set kind member)).1 member

  -- a kind in which the bit of a category is 1 is a keyword
  is_keyword : (kind : ℕ) → kind < length flags
      → 1 ≤ flag 9 kind + flag 5 kind + flag 6 kind + flag 10 kind → Contains all_keywords kind
  is_keyword kind lt one =
      (has.each AllKeywords kind lt).0
      (omega (arith, sum_at kind lt, bit_small (slice_index flags kind) 7, one))

  -- a member of a category is a keyword
  keyword_if : (kind : ℕ) → All (IsKeywordOf kind) categories
  keyword_if kind =
      all_four unreserved_keywords col_name_keyword_first type_func_name_keywords reserved_keywords
      (IsKeywordOf kind)
      (λ m. is_keyword kind (inside UnreservedKeywords kind m)
      (omega (arith, flag_of UnreservedKeywords kind m)))
      (λ m. is_keyword kind (inside ColNameKeywordFirst kind m)
      (omega (arith, flag_of ColNameKeywordFirst kind m)))
      (λ m. is_keyword kind (inside TypeFuncNameKeywords kind m)
      (omega (arith, flag_of TypeFuncNameKeywords kind m)))
      (λ m. is_keyword kind (inside ReservedKeywords kind m)
      (omega (arith, flag_of ReservedKeywords kind m)))

  -- a keyword is a member of a category
  category_of : (kind : ℕ) → Contains all_keywords kind
      → Any (λ category. Contains category kind) categories
  category_of kind member =
      let lt = inside AllKeywords kind member in
      let one = flag_of AllKeywords kind member in
      elim (eqb_tells (flag 9 kind) 1) [
        | inl it ↦ (
          0,
          unreserved_keywords,
          omega arith,
          refl,
          (has.each UnreservedKeywords kind lt).0 it.1,
        )
        | inr not9 ↦
            elim (eqb_tells (flag 5 kind) 1) [
              | inl it ↦ (
                1,
                col_name_keyword_first,
                omega arith,
                refl,
                (has.each ColNameKeywordFirst kind lt).0 it.1,
              )
              | inr not5 ↦
                  elim (eqb_tells (flag 6 kind) 1) [
                    | inl it ↦ (
                      2,
                      type_func_name_keywords,
                      omega arith,
                      refl,
                      (has.each TypeFuncNameKeywords kind lt).0 it.1,
                    )
                    | inr not6 ↦
                        let last : flag 10 kind ≡ 1 =
                        omega (
                          arith,
                          sum_at kind lt,
                          one,
                          not9.1,
                          not5.1,
                          not6.1,
                          bit_small (slice_index flags kind) 9,
                          bit_small (slice_index flags kind) 5,
                          bit_small (slice_index flags kind) 6,
                        ) in (
                          3,
                          reserved_keywords,
                          omega arith,
                          refl,
                          (has.each ReservedKeywords kind lt).0 last,
                        )
                  ]
            ]
      ]

  pub categories_union : (kind : ℕ) → Contains all_keywords kind
      ↔ Any (λ category. Contains category kind) categories
  categories_union kind = (
    category_of kind,
    λ some. keyword_if kind some.0 some.1 some.2
        (subst (λ category. Contains category kind) (sym some.3) some.4),
  )

  -- no kind is of two categories
  clash : (kind : ℕ) → kind < length flags
      → 2 ≤ flag 9 kind + flag 5 kind + flag 6 kind + flag 10 kind → ⊥
  clash kind lt two =
      absurd (omega (arith, sum_at kind lt, bit_small (slice_index flags kind) 7, two))

  pub categories_disjoint : AllPairs AreDisjoint categories
  categories_disjoint =
      let U = UnreservedKeywords in
      let C = ColNameKeywordFirst in
      let T = TypeFuncNameKeywords in
      let R = ReservedKeywords in
      pairs_of_four unreserved_keywords col_name_keyword_first type_func_name_keywords
      reserved_keywords AreDisjoint
      (λ k m n. clash k (inside U k m) (omega (arith, flag_of U k m, flag_of C k n)))
      (λ k m n. clash k (inside U k m) (omega (arith, flag_of U k m, flag_of T k n)))
      (λ k m n. clash k (inside U k m) (omega (arith, flag_of U k m, flag_of R k n)))
      (λ k m n. clash k (inside C k m) (omega (arith, flag_of C k m, flag_of T k n)))
      (λ k m n. clash k (inside C k m) (omega (arith, flag_of C k m, flag_of R k n)))
      (λ k m n. clash k (inside T k m) (omega (arith, flag_of T k m, flag_of R k n)))
