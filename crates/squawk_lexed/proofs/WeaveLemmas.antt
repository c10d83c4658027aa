-- The whole weave: what a sink has received where a step fails, and when all tokens were emitted.
use Rattle.std.proofs.Common.{◌≡◌, ℕ, zero, suc, ◌-◌, ◌≤◌, Bool, true, false, cond, List, [], ◌∷◌, ◌++◌, length, take, drop, refl, ap, sym, ◌∙◌, arith, nat_eq}
use Rattle.std.specs.Prelude.{Result, Ok, Err, OnErr}
use Rattle.std.proofs.lemmas.Bool.Decides.{nat_tests}
use Rattle.std.proofs.lemmas.List.{drop_all, take_rest}
use Rattle.squawk_events.specs.Kinds.{is_trivia_kind}
use Rattle.squawk_events.specs.Lawful.{token_kinds}
use Rattle.squawk_events.specs.declared.steps.Step.{Step}
use Rattle.squawk_events.specs.declared.steps.Step.TheVariants.{Enter}
use Rattle.squawk_events.specs.declared.steps.StrStep.{StrStep}
use Rattle.squawk_events.specs.declared.steps.StrStep.TheVariants as out
use Rattle.squawk_lexed.specs.Prefixes.{AppendsPrefix}
use Rattle.squawk_lexed.specs.Weave.{kinds_without_trivia, after_leading_trivia, is_empty, weave, weave_from, remaining_from, begins_with}
use Rattle.squawk_lexed.specs.LexedToken.{LexedToken}
use Rattle.squawk_lexed.proofs.PrefixLemmas.{prefix_then}

-- what the test `nat_eq` returns
not_none : (n : ℕ) → nat_eq 0 (suc n) ≡ false
not_none n = grind (arith, nat_tests)

eq_suc : (i n : ℕ) → nat_eq (suc i) (suc n) ≡ nat_eq i n
eq_suc i n = grind (arith, nat_tests)

-- an index is the length of a list exactly if no element is left from it on
pub all_out : {A : Type 0} (i : ℕ) (xs : List A) → i ≤ length xs
    → nat_eq i (length xs) ≡ is_empty (drop i xs)
all_out zero [] h = refl
all_out (suc i) [] h = absurd (omega arith)
all_out zero (x ∷ xs) h = not_none (length xs)
all_out (suc i) (x ∷ xs) h = eq_suc i (length xs) ∙ all_out i xs (omega arith)

-- so all tokens were emitted exactly if none remains
pub all_out_left : (i : ℕ) (ts : List LexedToken) (k : ℕ) (xs : List Step) → i ≤ length ts
    → length xs ≤ k → (left : List LexedToken) → remaining_from (drop i ts) (drop k xs) ≡ left
    → nat_eq i (length ts) ≡ is_empty left
all_out_left i ts k xs within past left is =
    let none : drop k xs ≡ [] = drop_all k xs past in
    all_out i ts within ∙ ap is_empty (rw none at is)

-- leading trivia does not count among the kinds that are not trivia
pub kinds_after_leading_trivia : (ts : List LexedToken)
    → kinds_without_trivia (after_leading_trivia ts)
    ≡ kinds_without_trivia ts
kinds_after_leading_trivia [] = refl
kinds_after_leading_trivia (t ∷ ts) =
    by (is_trivia_kind t.kind) refl (kinds_after_leading_trivia ts)
  where
    by : (b : Bool) → is_trivia_kind t.kind ≡ b
        → kinds_without_trivia (after_leading_trivia ts) ≡ kinds_without_trivia ts
        → kinds_without_trivia (cond b (after_leading_trivia ts) (t ∷ ts))
        ≡ cond b [] (t.kind ∷ []) ++ kinds_without_trivia ts
    by true is rest = rest
    by false is rest = rw is refl

-- the kinds agree with the steps after the first
pub agree_for_rest : (ts us : List LexedToken) (all shown : List Step) (kind : ℕ) → us ≡ ts
    → shown ≡ all → shown ≡ Enter kind ∷ drop 1 shown
    → begins_with (kinds_without_trivia ts) (token_kinds all) ≡ true
    → begins_with (kinds_without_trivia us)
    (token_kinds (take (length shown - 1) (drop 1 shown))) ≡ true
agree_for_rest ts us all shown kind same seen is h =
    rw (same, take_rest shown 1) (rw (← seen, is) at h)

-- a failure after the first step leaves a prefix of the whole weave
pub prefix_root : (old mid now : List StrStep) (ts us : List LexedToken) (all shown : List Step)
    (kind : ℕ) → us ≡ ts → shown ≡ all → shown ≡ Enter kind ∷ drop 1 shown
    → mid ≡ old ++ out.Enter kind ∷ []
    → AppendsPrefix mid now (weave_from 0 us (take (length shown - 1) (drop 1 shown)))
    → AppendsPrefix old now (weave ts all)
prefix_root old mid now ts us all shown kind same seen is first part =
    let whole : weave ts all ≡ (out.Enter kind ∷ []) ++ weave_from 0 ts (drop 1 shown) =
    ap (weave ts) (sym seen ∙ is) in
    rw whole (prefix_then old mid now (out.Enter kind
    ∷ []) (weave_from 0 ts (drop 1 shown)) first (rw (same, take_rest shown 1) at part))

-- what holds anyway holds of an error
pub on_err : {T E : Type 0} (r : Result T E) {P : Type 0} → P → OnErr r P
on_err (Ok v) p = tt
on_err (Err e) p = p
