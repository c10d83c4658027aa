-- The first token that ends a statement, and the last that is not trivia.
use Rattle.std.proofs.Common.{◌≡◌, ℕ, zero, suc, ◌<◌, ◌≤◌, ◌&&◌, ◌==◌, Bool, true, false, cond, List, [], ◌∷◌, length, refl, ap, sym, subst, ◌∙◌, arith}
use Rattle.std.proofs.lemmas.Bool.{eqb-true}
use Rattle.std.specs.Prelude.{Option, Some, None, option_map, slice_index_or}
use Rattle.squawk_kinds.specs.Role.{Role, Other, is_trivia}
use Rattle.squawk_statements.specs.Children.{ends_statement, open_groups_after, statement_end, trimmed_len}
use Rattle.squawk_statements.specs.Laws.{EndsFirstAt, NoneEnds, IsTrimmed, may_end_at}
use Rattle.squawk_statements.specs.declared.division.Division.{Division}

-- what the end of a statement says of its tokens; none says that no token may end it
End : Division → ℕ → List Role → Option ℕ → Type 0
End d n fs (Some m) = (i : ℕ) × (m ≡ suc i) × EndsFirstAt d n fs i
End d n fs None = NoneEnds d n fs

-- an end further on, after a token that does not end the statement
end_after : (d : Division) (n : ℕ) (f : Role) (fs : List Role) (end : Option ℕ)
    → ends_statement d n f ≡ false → End d (open_groups_after n f) fs end
    → End d n (f ∷ fs) (option_map suc end)
unfolding End
end_after d n f fs None goes h = λ i within. by i within
  where
    by : NoneEnds d n (f ∷ fs)
    by zero within = goes
    by (suc i) within = h i (omega arith)
end_after d n f fs (Some m) goes (i, is, h) = (
  suc i,
  ap suc is,
  record {
    within = omega (arith, h.within);
    ends = h.ends;
    first = λ j before. by j before;
  },
)
  where
    by : (j : ℕ) → j < suc i
        → may_end_at d n (f ∷ fs) j ≡ false
    by zero before = goes
    by (suc j) before = h.first j (omega arith)

-- the end of a statement says so
end_of : (d : Division) (n : ℕ) (fs : List Role) → End d n fs (statement_end d n fs)
unfolding End
end_of d n [] = λ i within. absurd (omega arith)
end_of d n (f ∷ fs) =
    by (ends_statement d n f) refl (end_of d (open_groups_after n f) fs)
  where
    by : (b : Bool) → ends_statement d n f ≡ b
        → End d (open_groups_after n f) fs (statement_end d (open_groups_after n f) fs)
        → End d n (f ∷ fs)
        (cond b (Some 1) (option_map suc (statement_end d (open_groups_after n f) fs)))
    by true is h = (
      0,
      refl,
      record {
        within = omega arith;
        ends = is;
        first = λ j before. absurd (omega arith);
      },
    )
    by false is h = end_after d n f fs (statement_end d (open_groups_after n f) fs) is h

-- a statement that has an end closes with the first token that may end it
pub end_is_first : (d : Division) (n : ℕ) (fs : List Role) (m : ℕ) → statement_end d n fs ≡ Some m
    → (i : ℕ) × (m ≡ suc i) × EndsFirstAt d n fs i
unfolding End
end_is_first d n fs m is = subst (End d n fs) is (end_of d n fs)

-- a statement without an end has no token that may end it
pub none_ends : (d : Division) (n : ℕ) (fs : List Role) → statement_end d n fs ≡ None
    → NoneEnds d n fs
unfolding End
none_ends d n fs is = subst (End d n fs) is (end_of d n fs)

-- a number that is tested not to be 0 is not
not_zero : {P : Type 0} (n : ℕ) → (n == 0) ≡ false → n ≡ 0 → P
not_zero n test is = absurd (let e : true ≡ false = ap (λ m. m == 0) (sym is) ∙ test in cc)

-- what is left after the trimmed length is trivia, and the last within it is not
pub trimmed_is : (fs : List Role) → IsTrimmed fs (trimmed_len fs)
trimmed_is [] = record {
  within = omega arith;
  trivia = λ i from within. absurd (omega arith);
  last = λ i is. absurd (omega (arith, is));
}
trimmed_is (f ∷ fs) =
    by (is_trivia f) (trimmed_len fs == 0) (trimmed_len fs) refl refl (trimmed_is fs)
  where
    kept : (n : ℕ) → IsTrimmed fs n → (n ≡ 0 → is_trivia f ≡ false) → IsTrimmed (f ∷ fs) (suc n)
    kept n h not_trivia = record {
      within = omega (arith, h.within);
      trivia = λ i from within. after i from within;
      last = λ i is. at i is;
    }
      where
        after : (i : ℕ) → suc n ≤ i → i < suc (length fs)
            → is_trivia (slice_index_or (f ∷ fs) i Other) ≡ true
        after zero from within = absurd (omega arith)
        after (suc i) from within = h.trivia i (omega arith) (omega arith)

        at : (i : ℕ) → suc n ≡ suc i
            → is_trivia (slice_index_or (f ∷ fs) i Other) ≡ false
        at zero is = not_trivia (omega (arith, is))
        at (suc i) is = h.last i (omega (arith, is))

    by : (b none : Bool) (n : ℕ) → is_trivia f ≡ b → (n == 0) ≡ none → IsTrimmed fs n
        → IsTrimmed (f ∷ fs) (cond (b && none) 0 (suc n))
    by false none n is test h = kept n h (λ zero_is. is)
    by true false n is test h = kept n h (λ zero_is. not_zero n test zero_is)
    by true true n is test h = record {
      within = omega arith;
      trivia = λ i from within. after i within;
      last = λ i is. absurd (omega (arith, is));
    }
      where
        after : (i : ℕ) → i < suc (length fs)
            → is_trivia (slice_index_or (f ∷ fs) i Other) ≡ true
        after zero within = is
        after (suc i) within = let none = eqb-true n 0 test in
            h.trivia i (omega (arith, none)) (omega arith)
