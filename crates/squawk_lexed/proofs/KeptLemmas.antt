-- The input of a grammar: the kinds that are not trivia.
use Rattle.std.proofs.Common.{◌≡◌, ℕ, Bool, true, false, cond, List, [], ◌∷◌, ◌++◌, refl, ap, ◌∙◌}
use Rattle.std.specs.Prelude.{Result, Ok, Err, IfOk}
use Rattle.squawk_events.specs.Kinds.{is_trivia_kind, has_no_trivia, without_trivia}
use Rattle.squawk_lexed.specs.Weave.{kinds_without_trivia}
use Rattle.squawk_lexed.specs.LexedToken.{LexedToken}
use Rattle.squawk_lexed.specs.Stored.{kinds_of}

-- the kinds of tokens without trivia have none: one kind, all tokens, and a list that is equal
one_kept : (kind : ℕ) (b : Bool) → is_trivia_kind kind ≡ b → (kinds : List ℕ)
    → has_no_trivia (cond b [] (kind ∷ []) ++ kinds) ≡ has_no_trivia kinds
one_kept kind true is kinds = refl
one_kept kind false is kinds = rw is refl

pub has_no_trivia_kept : (ts : List LexedToken) → has_no_trivia (kinds_without_trivia ts) ≡ true
has_no_trivia_kept [] = refl
has_no_trivia_kept (t ∷ ts) = one_kept t.kind (is_trivia_kind t.kind) refl (kinds_without_trivia ts)
    ∙ has_no_trivia_kept ts

pub no_trivia_of : (kinds : List ℕ) (ts : List LexedToken) → kinds ≡ kinds_without_trivia ts
    → has_no_trivia kinds ≡ true
no_trivia_of kinds ts is = rw is (has_no_trivia_kept ts)

-- leaving trivia out of the kinds of tokens yields the kinds of those that are not trivia
pub kept_left : (ts : List LexedToken) → without_trivia (kinds_of ts) ≡ kinds_without_trivia ts
kept_left [] = refl
kept_left (t ∷ ts) = by (is_trivia_kind t.kind) (kept_left ts)
  where
    by : (b : Bool) → without_trivia (kinds_of ts) ≡ kinds_without_trivia ts
        → cond b (without_trivia (kinds_of ts)) (t.kind ∷ without_trivia (kinds_of ts))
        ≡ cond b [] (t.kind ∷ []) ++ kinds_without_trivia ts
    by true e = e
    by false e = ap (λ ks. t.kind ∷ ks) e

-- a result that holds these kinds
pub input_ok : {E : Type 0} (r : Result (List ℕ) E) (kinds : List ℕ) (ts : List LexedToken)
    → kinds ≡ kinds_of ts
    → IfOk r (λ input. input ≡ without_trivia kinds)
    → IfOk r (λ input. input ≡ kinds_without_trivia ts)
input_ok (Ok input) kinds ts is e = e ∙ ap without_trivia is ∙ kept_left ts
input_ok (Err error) kinds ts is e = tt

-- has no trivia
pub input_no_trivia : {E : Type 0} (r : Result (List ℕ) E) (kinds : List ℕ) (ts : List LexedToken)
    → kinds ≡ kinds_of ts
    → IfOk r (λ input. input ≡ without_trivia kinds) → IfOk r (λ input. has_no_trivia input ≡ true)
input_no_trivia (Ok input) kinds ts is e =
    no_trivia_of input ts (e ∙ ap without_trivia is ∙ kept_left ts)
input_no_trivia (Err error) kinds ts is e = tt
