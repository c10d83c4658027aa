-- Steps that use up their tokens, and the weave of such steps before others.
use Rattle.std.proofs.Common.{◌≡◌, ℕ, ◌+◌, ◌==◌, Bool, true, false, not, ◌&&◌, cond, List, [], ◌∷◌, ◌++◌, drop, append_assoc, refl, ap, sym, ◌∙◌, arith}
use Rattle.std.proofs.lemmas.Bool.{and_parts}
use Rattle.squawk_events.specs.Kinds.{is_trivia_kind}
use Rattle.squawk_events.specs.Lawful.{token_kinds}
use Rattle.squawk_events.specs.declared.steps.Step.{Step}
use Rattle.squawk_events.specs.declared.steps.Step.TheVariants.{Enter, Token, Exit, Error}
use Rattle.squawk_events.specs.declared.steps.StrStep.TheVariants as out
use Rattle.squawk_kinds.specs.declared.numbers.TheConstants.Number.{ERROR}
use Rattle.squawk_lexed.specs.LexedText.{total_len}
use Rattle.squawk_lexed.specs.LexedToken.{LexedToken}
use Rattle.squawk_lexed.specs.Weave.{kinds_without_trivia, leading_trivia, leading_trivia_end, after_leading_trivia, next_len, is_empty, weave_from}
use Rattle.squawk_statements.specs.Plain.{node_of, unknown_statement_error, child_steps}
use Rattle.squawk_statements.specs.declared.division.Division.{Division}
use Rattle.squawk_tree.specs.ChildGrammar.{has_token, is_inside, IsChildSteps}
use Rattle.squawk_tree.specs.PlainChildren.{plain_child}
use Rattle.squawk_tree.proofs.CutLemmas.{is_trimmed, is_trimmed_any}
use Rattle.squawk_tree.proofs.LeavesLemmas.{kinds_after_trivia, next_of as next_token}

-- ---- steps that use up their tokens

-- whether the woven steps contain all of these tokens, none of them only as trivia at the end
abbrev pub fits : List Step → List LexedToken → Bool
fits [] ts = is_empty ts
fits (Enter kind ∷ xs) ts = not (is_empty (after_leading_trivia ts))
    && fits xs (after_leading_trivia ts)
fits (Token kind ∷ xs) ts = not (is_empty (after_leading_trivia ts))
    && fits xs (drop 1 (after_leading_trivia ts))
fits (Exit ∷ xs) ts = fits xs ts
fits (Error number ∷ xs) ts = not (is_empty ts) && fits xs ts

-- the parts of a conjunction, the first of which is negated
pub both : (a b : Bool) → (not a && b) ≡ true → (a ≡ false) × (b ≡ true)
both true b h = absurd (cc)
both false b h = (refl, h)

-- the leading trivia of tokens p, which are not all trivia, with and without tokens r after them
pub record LeadingTriviaOf (at : ℕ) (p r : List LexedToken) : Type 0 where
  steps : leading_trivia at (p ++ r) ≡ leading_trivia at p
  end : leading_trivia_end at (p ++ r) ≡ leading_trivia_end at p
  left : after_leading_trivia (p ++ r) ≡ after_leading_trivia p ++ r
  size : leading_trivia_end at p + total_len (after_leading_trivia p) ≡ at + total_len p

pub leading_trivia_of : (at : ℕ) (p r : List LexedToken) → is_empty (after_leading_trivia p) ≡ false
    → LeadingTriviaOf at p r
leading_trivia_of at [] r h = absurd (cc)
leading_trivia_of at (t ∷ p) r h =
    by (is_trivia_kind t.kind) refl h (leading_trivia_of (at + t.len) p r)
  where
    by : (b : Bool) → is_trivia_kind t.kind ≡ b
        → is_empty (cond b (after_leading_trivia p) (t ∷ p)) ≡ false
        → (is_empty (after_leading_trivia p) ≡ false → LeadingTriviaOf (at + t.len) p r)
        → LeadingTriviaOf at (t ∷ p) r
    by true is h more =
        let rest = more h in
        record {
          steps = rw is (ap (λ ys. out.Token t.kind at (at + t.len) ∷ ys) rest.steps);
          end =
              rw is rest.end;
          left = rw is rest.left;
          size =
              rw is (let e = rest.size in omega arith);
        }
    by false is h more = record {
      steps = rw is refl;
      end = rw is refl;
      left = rw is refl;
      size =
          rw is refl;
    }

-- the first of tokens u, with and without tokens r after them
pub record NextOf (u r : List LexedToken) : Type 0 where
  len : next_len (u ++ r) ≡ next_len u
  rest : drop 1 (u ++ r) ≡ drop 1 u ++ r
  size : next_len u + total_len (drop 1 u) ≡ total_len u

pub next_of : (u r : List LexedToken) → is_empty u ≡ false → NextOf u r
next_of [] r h = absurd (cc)
next_of (t ∷ u) r h = record { len = refl; rest = refl; size = refl }

-- weaving of steps that fit their tokens, before other steps and tokens
pub append_woven : (xs : List Step) (at : ℕ) (p r : List LexedToken) (y : Step) (ys : List Step)
    → fits xs p ≡ true → weave_from at (p ++ r) (xs ++ y ∷ ys)
    ≡ weave_from at p xs ++ weave_from (at + total_len p) r (y ∷ ys)
append_woven [] at [] r y ys h = ap (λ n. weave_from n r (y ∷ ys)) (omega arith)
append_woven [] at (t ∷ p) r y ys h = absurd (cc)
append_woven (Enter kind ∷ xs) at p r y ys h =
    let hs = both (is_empty (after_leading_trivia p)) (fits xs (after_leading_trivia p)) h in
    let f = leading_trivia_of at p r hs.0 in
    let rest = append_woven xs (leading_trivia_end at p) (after_leading_trivia p) r y ys hs.1 in
    rw (f.steps, f.end, f.left, rest, f.size)
    (sym (append_assoc (leading_trivia at p ++ out.Enter kind
    ∷ []) (weave_from (leading_trivia_end at p) (after_leading_trivia p) xs)
    (weave_from (at + total_len p) r (y ∷ ys))))
append_woven (Token kind ∷ xs) at p r y ys h =
    let hs = both (is_empty (after_leading_trivia p)) (fits xs (drop 1 (after_leading_trivia p))) h
    in
    let f = leading_trivia_of at p r hs.0 in
    let n = next_of (after_leading_trivia p) r hs.0 in
    let rest = append_woven xs (leading_trivia_end at p + next_len (after_leading_trivia p))
    (drop 1 (after_leading_trivia p)) r y ys hs.1 in
    let sum : leading_trivia_end at p + next_len (after_leading_trivia p)
    + total_len (drop 1 (after_leading_trivia p)) ≡ at + total_len p = let a = f.size in let b =
    n.size in omega arith in
    rw (f.steps, f.end, f.left, n.len, n.rest, rest, sum)
    (sym (append_assoc (leading_trivia at p
    ++ out.Token kind (leading_trivia_end at p) (leading_trivia_end at p
    + next_len (after_leading_trivia p)) ∷ [])
    (weave_from (leading_trivia_end at p + next_len (after_leading_trivia p))
    (drop 1 (after_leading_trivia p)) xs) (weave_from (at + total_len p) r (y ∷ ys))))
append_woven (Exit ∷ []) at [] r y ys h = ap (λ n. out.Exit ∷ weave_from n r (y ∷ ys)) (omega arith)
append_woven (Exit ∷ []) at (t ∷ p) r y ys h = absurd (cc)
append_woven (Exit ∷ x ∷ xs) at p r y ys h =
    ap (λ zs. out.Exit ∷ zs) (append_woven (x ∷ xs) at p r y ys h)
append_woven (Error number ∷ xs) at p r y ys h =
    ap (λ zs. out.Error number at ∷ zs) (append_woven xs at p r y ys
    (both (is_empty p) (fits xs p) h).1)

-- ---- the steps inside a child use up its tokens

-- tokens the last of which is not trivia: some kind is left, if there is a token
some_kind : (ts : List LexedToken) → is_trimmed false ts ≡ true → kinds_without_trivia ts ≡ [] → ⊥
some_kind [] h e = cc
some_kind (t ∷ ts) h e = by (is_trivia_kind t.kind) h e (some_kind ts)
  where
    by : (b : Bool) → is_trimmed (not b) ts ≡ true
        → cond b [] (t.kind ∷ []) ++ kinds_without_trivia ts ≡ []
        → (is_trimmed false ts ≡ true → kinds_without_trivia ts ≡ [] → ⊥) → ⊥
    by true h e rest = rest h e
    by false h e rest = cc

trimmed_none : (ts : List LexedToken) → is_trimmed true ts ≡ true → kinds_without_trivia ts ≡ []
    → is_empty ts ≡ true
trimmed_none [] h e = refl
trimmed_none (t ∷ ts) h e = absurd (some_kind (t ∷ ts) h e)

-- and without leading trivia they are such tokens
trimmed_after : (b : Bool) (ts : List LexedToken) → is_trimmed b ts ≡ true
    → is_trimmed true (after_leading_trivia ts) ≡ true
trimmed_after b [] h = refl
trimmed_after b (t ∷ ts) h = by (is_trivia_kind t.kind) refl h (trimmed_after false ts)
  where
    by : (leads : Bool) → is_trivia_kind t.kind ≡ leads → is_trimmed (not leads) ts ≡ true
        → (is_trimmed false ts ≡ true → is_trimmed true (after_leading_trivia ts) ≡ true)
        → is_trimmed true (cond leads (after_leading_trivia ts) (t ∷ ts)) ≡ true
    by true is h rest = rest h
    by false is h rest = ap (λ leads. is_trimmed (not leads) ts) is ∙ h

trimmed_rest : (t : LexedToken) (ts : List LexedToken) → is_trimmed true (t ∷ ts) ≡ true
    → is_trimmed true ts ≡ true
trimmed_rest t ts h = by (is_trivia_kind t.kind) h
  where
    by : (b : Bool) → is_trimmed (not b) ts ≡ true → is_trimmed true ts ≡ true
    by true h = is_trimmed_any true ts h
    by false h = h

-- where a kind is left, not all tokens are trivia
some_after : (ts : List LexedToken) → is_empty (kinds_without_trivia ts) ≡ false
    → is_empty (after_leading_trivia ts) ≡ false
some_after [] h = h
some_after (t ∷ ts) h = by (is_trivia_kind t.kind) h (some_after ts)
  where
    by : (b : Bool) → is_empty (cond b [] (t.kind ∷ []) ++ kinds_without_trivia ts) ≡ false
        → (is_empty (kinds_without_trivia ts) ≡ false
        → is_empty (after_leading_trivia ts) ≡ false)
        → is_empty (cond b (after_leading_trivia ts) (t ∷ ts)) ≡ false
    by true h rest = rest h
    by false h rest = refl

has_kind : (xs : List Step) → has_token xs ≡ true → is_empty (token_kinds xs) ≡ false
has_kind [] h = absurd (cc)
has_kind (Enter kind ∷ xs) h = has_kind xs h
has_kind (Token kind ∷ xs) h = refl
has_kind (Exit ∷ xs) h = has_kind xs h
has_kind (Error number ∷ xs) h = has_kind xs h

-- such steps fit tokens of their kinds
fits_inside : (xs : List Step) (ts : List LexedToken) → token_kinds xs ≡ kinds_without_trivia ts
    → is_trimmed true ts ≡ true → is_inside xs ≡ true → fits xs ts ≡ true
fits_inside [] ts e trimmed h = trimmed_none ts trimmed (sym e)
fits_inside (Enter kind ∷ xs) ts e trimmed h =
    let hs = and_parts (has_token xs) (is_inside xs) h in
    let some = some_after ts (ap is_empty (sym e) ∙ has_kind xs hs.0) in
    rw some (fits_inside xs (after_leading_trivia ts) (e ∙ sym (kinds_after_trivia ts))
    (trimmed_after true ts trimmed) hs.1)
fits_inside (Token kind ∷ xs) ts e trimmed h =
    let next = next_token ts kind (token_kinds xs) (sym e) in
    let all = rw next.is at (trimmed_after true ts trimmed) in
    rw next.is (fits_inside xs next.rest (sym next.kinds_are)
    (trimmed_rest next.token next.rest all) h)
fits_inside (Exit ∷ xs) ts e trimmed h = fits_inside xs ts e trimmed h
fits_inside (Error number ∷ xs) ts e trimmed h = absurd (cc)

-- the error of an unknown statement fits any tokens
fits_fault : (b : Bool) (xs : List Step) (t : LexedToken) (ts : List LexedToken)
    → fits xs (t ∷ ts) ≡ true → fits (cond b (Error 10 ∷ []) [] ++ xs) (t ∷ ts) ≡ true
fits_fault true xs t ts h = h
fits_fault false xs t ts h = h

-- the tokens inside a child, after the error of an unknown statement
tokens_after_fault : (b : Bool) (xs : List Step)
    → token_kinds (cond b (Error 10 ∷ []) [] ++ xs) ≡ token_kinds xs
tokens_after_fault true xs = refl
tokens_after_fault false xs = refl

pub inner_tokens : (kinds : List ℕ) (steps : List Step) (law : IsChildSteps kinds steps)
    → token_kinds law.inner ≡ kinds
inner_tokens kinds steps law =
    sym (tokens_after_fault (node_of kinds == ERROR) law.inner)
    ∙ ap token_kinds (sym law.whole) ∙ law.tokens

-- the steps of a child fit its tokens
pub fits_steps : (t : LexedToken) (ts : List LexedToken) (steps : List Step)
    → IsChildSteps (kinds_without_trivia (t ∷ ts)) steps
    → is_trivia_kind t.kind ≡ false → is_trimmed true ts ≡ true → fits steps (t ∷ ts) ≡ true
fits_steps t ts steps law is trimmed =
    let kinds = kinds_without_trivia (t ∷ ts) in
    let node = node_of kinds in
    let whole : is_trimmed true (t ∷ ts) ≡ true = ap (λ b. is_trimmed (not b) ts) is ∙ trimmed in
    let inner : fits (unknown_statement_error node ++ law.inner) (t ∷ ts) ≡ true =
    fits_fault (node == ERROR) law.inner t ts
    (fits_inside law.inner (t ∷ ts) (inner_tokens kinds steps law) whole law.inside) in
    let unchanged : after_leading_trivia (t ∷ ts) ≡ t ∷ ts = rw is refl in
    ap (λ xs. fits xs (t ∷ ts)) law.whole
    ∙ ap (λ u. not (is_empty u) && fits (unknown_statement_error node ++ law.inner) u) unchanged
    ∙ inner

pub fits_child : (d : Division) (t : LexedToken) (ts : List LexedToken)
    → is_trivia_kind t.kind ≡ false → is_trimmed true ts ≡ true
    → fits (child_steps d (kinds_without_trivia (t ∷ ts))) (t ∷ ts) ≡ true
fits_child d t ts is trimmed =
    fits_steps t ts (child_steps d (kinds_without_trivia (t ∷ ts)))
    (plain_child d (kinds_without_trivia (t ∷ ts))) is trimmed
