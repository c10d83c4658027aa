-- The tokens of woven steps are the tokens of the text.
use Rattle.std.proofs.Common.{◌≡◌, ℕ, zero, suc, ◌+◌, Bool, true, false, ◌&&◌, cond, List, [], ◌∷◌, ◌++◌, drop, append_assoc, refl, ap, sym, ◌∙◌, arith}
use Rattle.std.proofs.lemmas.Bool.Decides.{nat_tests}
use Rattle.std.proofs.lemmas.List.{append-nil}
use Rattle.std.specs.Prelude.{Result, Ok, Err, IfOk, IsTrue}
use Rattle.squawk_events.specs.Kinds.{is_trivia_kind}
use Rattle.squawk_events.specs.Lawful.{token_kinds, closes, is_balanced}
use Rattle.squawk_events.specs.declared.steps.Step.{Step}
use Rattle.squawk_events.specs.declared.steps.Step.TheVariants.{Enter, Token, Exit, Error}
use Rattle.squawk_events.specs.declared.steps.StrStep.{StrStep}
use Rattle.squawk_events.specs.declared.steps.StrStep.TheVariants as out
use Rattle.squawk_lexed.specs.Weave.{kinds_without_trivia, leading_trivia, leading_trivia_end, after_leading_trivia, next_len, weave_from, weave, begins_with}
use Rattle.squawk_lexed.specs.LexedToken.{LexedToken}
use Rattle.squawk_tree.specs.ParseOf.{token_steps}
use Rattle.squawk_tree.specs.Steps.{only_tokens, without_errors}

-- a list begins with itself, and with a list that is equal to it
same_kind : (k : ℕ) (b : Bool) → (Rattle.std.specs.Prelude.nat_eq k k && b) ≡ b
same_kind k b = grind (arith, nat_tests)

pub begins_with_same : (xs : List ℕ) → begins_with xs xs ≡ true
begins_with_same [] = refl
begins_with_same (x ∷ xs) = same_kind x (begins_with xs xs) ∙ begins_with_same xs

pub begins_with_of : (xs ys : List ℕ) → ys ≡ xs → begins_with xs ys ≡ true
begins_with_of xs ys is = rw is (begins_with_same xs)

-- the tokens of appended steps
leaves_append : (xs ys : List StrStep) → only_tokens (xs ++ ys) ≡ only_tokens xs ++ only_tokens ys
leaves_append [] ys = refl
leaves_append (out.Enter kind ∷ xs) ys = leaves_append xs ys
leaves_append (out.Token kind start end ∷ xs) ys =
    ap (λ ls. out.Token kind start end ∷ ls) (leaves_append xs ys)
leaves_append (out.Exit ∷ xs) ys = leaves_append xs ys
leaves_append (out.Error number at ∷ xs) ys = leaves_append xs ys

-- leaving out `Error` steps leaves out no token
pub leaves_kept : (xs : List StrStep) → only_tokens (without_errors xs) ≡ only_tokens xs
leaves_kept [] = refl
leaves_kept (out.Enter kind ∷ xs) = leaves_kept xs
leaves_kept (out.Token kind start end ∷ xs) =
    ap (λ ls. out.Token kind start end ∷ ls) (leaves_kept xs)
leaves_kept (out.Exit ∷ xs) = leaves_kept xs
leaves_kept (out.Error number at ∷ xs) = leaves_kept xs

-- the leading trivia, and the tokens after them, are all tokens
leading_trivia_steps : (at : ℕ) (ts : List LexedToken) → only_tokens (leading_trivia at ts)
    ++ token_steps (leading_trivia_end at ts) (after_leading_trivia ts) ≡ token_steps at ts
leading_trivia_steps at [] = refl
leading_trivia_steps at (t ∷ ts) = by (is_trivia_kind t.kind) (leading_trivia_steps (at + t.len) ts)
  where
    by : (b : Bool) → only_tokens (leading_trivia (at + t.len) ts)
        ++ token_steps (leading_trivia_end (at + t.len) ts) (after_leading_trivia ts)
        ≡ token_steps (at + t.len) ts
        → only_tokens
        (cond b (out.Token t.kind at (at + t.len) ∷ leading_trivia (at + t.len) ts) [])
        ++ token_steps (cond b (leading_trivia_end (at + t.len) ts) at)
        (cond b (after_leading_trivia ts) (t ∷ ts)) ≡ token_steps at (t ∷ ts)
    by true rest = ap (λ ls. out.Token t.kind at (at + t.len) ∷ ls) rest
    by false rest = refl

-- leading trivia have no kinds without trivia
pub kinds_after_trivia : (ts : List LexedToken) → kinds_without_trivia (after_leading_trivia ts)
    ≡ kinds_without_trivia ts
kinds_after_trivia [] = refl
kinds_after_trivia (t ∷ ts) = by (is_trivia_kind t.kind) refl (kinds_after_trivia ts)
  where
    by : (b : Bool) → is_trivia_kind t.kind ≡ b
        → kinds_without_trivia (after_leading_trivia ts) ≡ kinds_without_trivia ts
        → kinds_without_trivia (cond b (after_leading_trivia ts) (t ∷ ts))
        ≡ cond b [] (t.kind ∷ []) ++ kinds_without_trivia ts
    by true is rest = rest
    by false is rest = rw is refl

-- the next token that is not trivia
pub record Next (ts : List LexedToken) (kind : ℕ) (kinds : List ℕ) : Type 0 where
  pub token : LexedToken
  pub rest : List LexedToken
  pub is : ts ≡ token ∷ rest
  pub kind_is : token.kind ≡ kind
  pub kinds_are : kinds_without_trivia rest ≡ kinds

-- the token of the first kind without trivia
pub next_of : (ts : List LexedToken) (kind : ℕ) (kinds : List ℕ)
    → kinds_without_trivia ts ≡ kind ∷ kinds → Next (after_leading_trivia ts) kind kinds
next_of [] kind kinds e = absurd (cc)
next_of (t ∷ ts) kind kinds e = by (is_trivia_kind t.kind) e (next_of ts kind kinds)
  where
    by : (b : Bool) → cond b [] (t.kind ∷ []) ++ kinds_without_trivia ts ≡ kind ∷ kinds
        → (kinds_without_trivia ts ≡ kind ∷ kinds → Next (after_leading_trivia ts) kind kinds)
        → Next (cond b (after_leading_trivia ts) (t ∷ ts)) kind kinds
    by true e rest = rest e
    by false e rest = record { token = t; rest = ts; is = refl; kind_is = cc; kinds_are = cc }

-- where no kind is without trivia, only trivia remain
pub none_after_trivia : (ts : List LexedToken) → kinds_without_trivia ts ≡ []
    → after_leading_trivia ts ≡ []
none_after_trivia [] e = refl
none_after_trivia (t ∷ ts) e = by (is_trivia_kind t.kind) e (none_after_trivia ts)
  where
    by : (b : Bool) → cond b [] (t.kind ∷ []) ++ kinds_without_trivia ts ≡ []
        → (kinds_without_trivia ts ≡ [] → after_leading_trivia ts ≡ [])
        → cond b (after_leading_trivia ts) (t ∷ ts) ≡ []
    by true e rest = rest e
    by false e rest = absurd (cc)

-- steps that end inside a node are not balanced
pub never_closed : (d : ℕ) {P : Type 0} → closes (suc d) [] ≡ true → P
never_closed d h = absurd (let e : suc d ≡ 0 = grind (arith, nat_tests) in omega arith)

-- the tokens of woven steps, inside a node and as a whole
pub leaves_woven : (d at : ℕ) (ts : List LexedToken) (xs : List Step) → closes (suc d) xs ≡ true
    → kinds_without_trivia ts ≡ token_kinds xs → only_tokens (weave_from at ts xs)
    ≡ token_steps at ts
leaves_woven d at ts [] h e = never_closed d h
leaves_woven d at ts (Enter kind ∷ xs) h e =
    leaves_append (leading_trivia at ts ++ out.Enter kind
    ∷ []) (weave_from (leading_trivia_end at ts) (after_leading_trivia ts) xs)
    ∙ ap (λ ls. ls
    ++ only_tokens (weave_from (leading_trivia_end at ts) (after_leading_trivia ts) xs))
    (leaves_append (leading_trivia at ts) (out.Enter kind ∷ [])
    ∙ append-nil (only_tokens (leading_trivia at ts)))
    ∙ ap (λ ls. only_tokens (leading_trivia at ts)
    ++ ls) (leaves_woven (suc d) (leading_trivia_end at ts) (after_leading_trivia ts) xs h
    (kinds_after_trivia ts ∙ e))
    ∙ leading_trivia_steps at ts
leaves_woven d at ts (Token kind ∷ xs) h e =
    let next = next_of ts kind (token_kinds xs) e in
    let here : token_steps (leading_trivia_end at ts) (after_leading_trivia ts)
    ≡ out.Token kind (leading_trivia_end at ts)
    (leading_trivia_end at ts + next_len (after_leading_trivia ts))
    ∷ token_steps (leading_trivia_end at ts + next_len (after_leading_trivia ts))
    (drop 1 (after_leading_trivia ts)) = rw (next.is, next.kind_is) refl in
    let kinds : kinds_without_trivia (drop 1 (after_leading_trivia ts)) ≡ token_kinds xs =
    rw next.is next.kinds_are in
    let more = leaves_woven d (leading_trivia_end at ts + next_len (after_leading_trivia ts))
    (drop 1 (after_leading_trivia ts)) xs h kinds in
    leaves_append (leading_trivia at ts
    ++ out.Token kind (leading_trivia_end at ts) (leading_trivia_end at ts
    + next_len (after_leading_trivia ts))
    ∷ []) (weave_from (leading_trivia_end at ts + next_len (after_leading_trivia ts))
    (drop 1 (after_leading_trivia ts)) xs)
    ∙ ap (λ ls. ls
    ++ only_tokens (weave_from (leading_trivia_end at ts + next_len (after_leading_trivia ts))
    (drop 1 (after_leading_trivia ts)) xs))
    (leaves_append (leading_trivia at ts)
    (out.Token kind (leading_trivia_end at ts) (leading_trivia_end at ts
    + next_len (after_leading_trivia ts)) ∷ []))
    ∙ append_assoc (only_tokens (leading_trivia at ts))
    (out.Token kind (leading_trivia_end at ts)
    (leading_trivia_end at ts + next_len (after_leading_trivia ts)) ∷ []) _
    ∙ ap (λ ls. only_tokens (leading_trivia at ts)
    ++ out.Token kind (leading_trivia_end at ts)
    (leading_trivia_end at ts + next_len (after_leading_trivia ts)) ∷ ls) more
    ∙ ap (λ ls. only_tokens (leading_trivia at ts) ++ ls) (sym here)
    ∙ leading_trivia_steps at ts
leaves_woven d at ts (Exit ∷ []) h e =
    let none = none_after_trivia ts e in
    ap only_tokens (append-nil (leading_trivia at ts ++ out.Exit ∷ []))
    ∙ leaves_append (leading_trivia at ts) (out.Exit ∷ [])
    ∙ ap (λ ls. only_tokens (leading_trivia at ts) ++ ls) (let e : []
    ≡ token_steps (leading_trivia_end at ts) (after_leading_trivia ts) = rw none refl in e)
    ∙ leading_trivia_steps at ts
leaves_woven zero at ts (Exit ∷ x ∷ xs) h e = absurd (cc)
leaves_woven (suc d) at ts (Exit ∷ x ∷ xs) h e = leaves_woven d at ts (x ∷ xs) h e
leaves_woven d at ts (Error number ∷ xs) h e = leaves_woven d at ts xs h e

pub leaves_whole : (ts : List LexedToken) (xs : List Step) → is_balanced xs ≡ true
    → token_kinds xs ≡ kinds_without_trivia ts → only_tokens (without_errors (weave ts xs))
    ≡ token_steps 0 ts
leaves_whole ts [] h e = absurd (cc)
leaves_whole ts (Enter kind ∷ xs) h e = leaves_kept (weave ts (Enter kind ∷ xs))
    ∙ leaves_woven 0 0 ts xs h (sym e)
leaves_whole ts (Token kind ∷ xs) h e = absurd (cc)
leaves_whole ts (Exit ∷ xs) h e = absurd (cc)
leaves_whole ts (Error number ∷ xs) h e = absurd (cc)
