-- Skipping children one by one.
use Rattle.std.proofs.Common.{inl, inr, ◌≡◌, ℕ, zero, suc, ◌+◌, ◌<◌, ◌≤◌, true, List, [], ◌∷◌, ◌++◌, length, get_or, take, drop, sym, ◌∙◌, ap, subst, arith}
use Rattle.std.proofs.lemmas.List.{take_more, drop_more, drop_all}
use Rattle.std.proofs.lemmas.Bool.{cases_lt}
use Rattle.squawk_cut.specs.ChildValue.{ChildValue}
use Rattle.squawk_document.specs.FrontPart.{AllClosed, StopsBefore, child_tokens}
use Rattle.squawk_cut.specs.Join.{child_bytes}
use Rattle.squawk_document.proofs.ChildMeeting.{child_bytes-append}

-- one more closed child
AllClosed_push : (xs : List ChildValue) (x : ChildValue) → AllClosed xs → x.closed ≡ true
    → AllClosed (xs ++ x ∷ [])
AllClosed_push [] x closed c = (c, tt)
AllClosed_push (y ∷ xs) x closed c = (closed.0, AllClosed_push xs x closed.1 c)

-- the bytes of one more child
pub bytes_more : (xs : List ChildValue) (i : ℕ) (x : ChildValue) → i < length xs → x ≡ get_or xs i x
    → child_bytes (take (i + 1) xs) ≡ child_bytes (take i xs) + x.bytes
bytes_more xs i x h is = ap child_bytes (take_more xs i x h)
    ∙ child_bytes-append (take i xs) (get_or xs i x ∷ [])
    ∙ ap (λ (y : ChildValue). child_bytes (take i xs) + (y.bytes + 0)) (sym is) ∙ omega arith

-- one more closed child before an index
pub closed_more : (xs : List ChildValue) (i : ℕ) (x : ChildValue) → i < length xs
    → x ≡ get_or xs i x → AllClosed (take i xs) → x.closed ≡ true → AllClosed (take (i + 1) xs)
closed_more xs i x h is closed c =
    subst AllClosed (sym (take_more xs i x h))
    (subst (λ (y : ChildValue). AllClosed (take i xs ++ y ∷ [])) is
    (AllClosed_push (take i xs) x closed c))

-- a child that does not fit stops the others
pub stopped_here : (xs : List ChildValue) (i : ℕ) (x : ChildValue) (n : ℕ) → i < length xs
    → x ≡ get_or xs i x → (x.closed ≡ true → x.bytes ≤ n → ⊥) → StopsBefore (drop i xs) n
stopped_here xs i x n h is stops =
    subst (λ ys. StopsBefore ys n) (sym (drop_more xs i x h))
    (subst (λ (y : ChildValue). y.closed ≡ true → n < y.bytes) is
    (λ c. elim (cases_lt n x.bytes) [ inl lt ↦ lt | inr ge ↦ absurd (stops c ge) ]))

-- nothing stops after the last child
pub stopped_end : (xs : List ChildValue) (i n : ℕ) → length xs ≤ i → StopsBefore (drop i xs) n
stopped_end xs i n h = subst (λ ys. StopsBefore ys n) (sym (drop_all i xs h)) tt

pub ruleset skipping_steps = (bytes_more, closed_more, stopped_here, stopped_end)

-- the tokens of one more child
pub tokens_more : (xs : List ChildValue) (i : ℕ) (x : ChildValue) → i < length xs
    → x ≡ get_or xs i x → child_tokens (take (i + 1) xs) ≡ child_tokens (take i xs) + x.tokens
tokens_more xs i x h is = ap child_tokens (take_more xs i x h) ∙ push (take i xs) (get_or xs i x)
    ∙ ap (λ (y : ChildValue). child_tokens (take i xs) + y.tokens) (sym is)
  where
    push : (xs : List ChildValue) (x : ChildValue)
        → child_tokens (xs ++ x ∷ []) ≡ child_tokens xs + x.tokens
    push [] x = omega arith
    push (y ∷ xs) x = omega (arith, push xs x)

-- fewer children have no more tokens
pub tokens_take_le : (xs : List ChildValue) (i j : ℕ) → i ≤ j
    → child_tokens (take i xs) ≤ child_tokens (take j xs)
tokens_take_le xs zero j h = omega arith
tokens_take_le [] (suc i) zero h = absurd (omega arith)
tokens_take_le [] (suc i) (suc j) h = omega arith
tokens_take_le (x ∷ xs) (suc i) zero h = absurd (omega arith)
tokens_take_le (x ∷ xs) (suc i) (suc j) h = omega (arith, tokens_take_le xs i j (omega arith))

pub ruleset counting_steps = (tokens_more, tokens_take_le)

pub ruleset front_steps =
    (bytes_more, closed_more, stopped_here, stopped_end, tokens_more, tokens_take_le)
