-- Tokens at an index, and the loops that emit them.
use Rattle.std.proofs.Common.{◌≡◌, ℕ, zero, suc, ◌+◌, ◌-◌, ◌==◌, ◌<◌, ◌≤◌, ◌&&◌, Bool, true, false, cond, List, [], ◌∷◌, ◌++◌, length, take, drop, map, get_or, slice_range, append_assoc, refl, ap, sym, ◌∙◌, arith}
use Rattle.std.proofs.lemmas.List.{get_or_default}
use Rattle.squawk_events.specs.declared.steps.StrStep.{StrStep}
use Rattle.squawk_events.specs.declared.steps.StrStep.TheVariants as out
use Rattle.squawk_kinds.specs.Role.{role, is_trivia}
use Rattle.squawk_lexed.specs.LexedText.{token_start, total_len}
use Rattle.squawk_lexed.specs.LexedToken.{LexedToken, lexed_role}
use Rattle.squawk_lexed.specs.Stored.{kinds_of}
use Rattle.squawk_statements.specs.Children.{open_groups_after, trimmed_len}
use Rattle.squawk_tree.specs.ChildSteps.{exit_steps, nested_steps, steps_in_groups}
use Rattle.squawk_tree.specs.ParseOf.{token_steps}
use Rattle.squawk_tree.proofs.CutLemmas.{not_zero}

-- ---- the kinds of tokens

-- there are as many kinds as tokens
pub kinds_len : (ts : List LexedToken) → length (kinds_of ts) ≡ length ts
kinds_len [] = refl
kinds_len (t ∷ ts) = ap suc (kinds_len ts)

-- the kinds of the first tokens, and of the others
pub kinds_take : (n : ℕ) (ts : List LexedToken) → take n (kinds_of ts) ≡ kinds_of (take n ts)
kinds_take zero ts = refl
kinds_take (suc n) [] = refl
kinds_take (suc n) (t ∷ ts) = ap (λ ks. t.kind ∷ ks) (kinds_take n ts)

pub kinds_drop : (n : ℕ) (ts : List LexedToken) → drop n (kinds_of ts) ≡ kinds_of (drop n ts)
kinds_drop zero ts = refl
kinds_drop (suc n) [] = refl
kinds_drop (suc n) (t ∷ ts) = kinds_drop n ts

-- the roles of tokens are those of their kinds
pub kinds_roles : (ts : List LexedToken) → map role (kinds_of ts) ≡ map lexed_role ts
kinds_roles [] = refl
kinds_roles (t ∷ ts) = ap (λ fs. role t.kind ∷ fs) (kinds_roles ts)

-- ---- the token at an index

-- a token begins no later than the tokens end
pub start_within : (i : ℕ) (ts : List LexedToken) → token_start ts i ≤ total_len ts
start_within zero ts = omega arith
start_within (suc i) [] = omega arith
start_within (suc i) (t ∷ ts) = omega (arith, start_within i ts)

-- the token at an index: its kind, where the next one begins, and the tokens from it on
record NextToken (i : ℕ) (ts : List LexedToken) : Type 0 where
  token : LexedToken
  left : drop i ts ≡ token ∷ drop (suc i) ts
  kind : get_or (kinds_of ts) i 0 ≡ token.kind
  end : token_start ts (suc i) ≡ token_start ts i + token.len

next_token : (i : ℕ) (ts : List LexedToken) → i < length ts → NextToken i ts
next_token i [] h = absurd (omega arith)
next_token zero (t ∷ ts) h = record { token = t; left = refl; kind = refl; end = omega arith }
next_token (suc i) (t ∷ ts) h =
    let next = next_token i ts (omega arith) in
    record {
      token = next.token;
      left = next.left;
      kind = next.kind;
      end = omega (arith, next.end);
    }

-- the tokens from an index up to another
record NextOfRange (i to : ℕ) (ts : List LexedToken) : Type 0 where
  token : LexedToken
  left : slice_range ts i to ≡ token ∷ slice_range ts (i + 1) to
  step : out.Token (get_or (kinds_of ts) i 0) (token_start ts i) (token_start ts (i + 1))
      ≡ out.Token token.kind (token_start ts i) (token_start ts i + token.len)
  kind : get_or (kinds_of ts) i 0 ≡ token.kind
  end : token_start ts (i + 1) ≡ token_start ts i + token.len

next_of_range : (i to : ℕ) (ts : List LexedToken) → i < to → to ≤ length ts → NextOfRange i to ts
next_of_range i to ts h within =
    let next = next_token i ts (omega arith) in
    let one : i + 1 ≡ suc i = omega arith in
    let count : to - i ≡ suc (to - suc i) = omega arith in
    record {
      token = next.token;
      left = rw (one, count, next.left) refl;
      step = rw (one, next.kind, next.end) refl;
      kind = next.kind;
      end = rw one next.end;
    }

-- one more `Exit`
pub exits_more : (n : ℕ) (before after start : List StrStep) → 0 < n
    → before ++ exit_steps n ≡ start → after ≡ before ++ out.Exit ∷ []
    → after ++ exit_steps (n - 1) ≡ start
exits_more zero before after start some so_far more = absurd (omega arith)
exits_more (suc n) before after start some so_far more =
    let one : suc n - 1 ≡ n = omega arith in
    rw (more, one) (append_assoc before (out.Exit ∷ []) (exit_steps n)) ∙ so_far

-- one more token inside groups
pub nested_more : (ts : List LexedToken) (kinds : List ℕ) (i to groups after_it kind : ℕ)
    (before after start : List StrStep) (step : StrStep) → i < to → to ≤ length ts
    → kinds ≡ kinds_of ts → kind ≡ get_or kinds i kind
    → step ≡ out.Token (get_or (kinds_of ts) i 0) (token_start ts i) (token_start ts (i + 1))
    → before ++ nested_steps groups (token_start ts i) (slice_range ts i to) ≡ start
    → after ≡ before ++ steps_in_groups groups (role kind) step
    → after_it ≡ open_groups_after groups (role kind)
    → after ++ nested_steps after_it (token_start ts (i + 1)) (slice_range ts (i + 1) to) ≡ start
nested_more ts kinds i to groups after_it kind before after start step h within ks k s so_far more
    count =
    let next = next_of_range i to ts h within in
    let size = kinds_len ts in
    let kind_is : kind ≡ next.token.kind =
    (rw ks at k) ∙ get_or_default (kinds_of ts) i kind 0 (omega arith) ∙ next.kind in
    let step_is = s ∙ next.step in
    let steps = steps_in_groups groups (role next.token.kind)
    (out.Token next.token.kind (token_start ts i) (token_start ts i + next.token.len)) in
    let rest = nested_steps (open_groups_after groups (role next.token.kind))
    (token_start ts i + next.token.len) (slice_range ts (i + 1) to) in
    rw (more, count, kind_is, step_is, next.end) (append_assoc before steps rest)
    ∙ (rw next.left at so_far)

-- one more token
pub tokens_more : (ts : List LexedToken) (i to : ℕ) (before after start : List StrStep)
    (step : StrStep) → i < to → to ≤ length ts
    → step ≡ out.Token (get_or (kinds_of ts) i 0) (token_start ts i) (token_start ts (i + 1))
    → before ++ token_steps (token_start ts i) (slice_range ts i to) ≡ start
    → after ≡ before ++ step ∷ []
    → after ++ token_steps (token_start ts (i + 1)) (slice_range ts (i + 1) to) ≡ start
tokens_more ts i to before after start step h within s so_far more =
    let next = next_of_range i to ts h within in
    let step_is = s ∙ next.step in
    let rest = token_steps (token_start ts i + next.token.len) (slice_range ts (i + 1) to) in
    let one = out.Token next.token.kind (token_start ts i) (token_start ts i + next.token.len)
    in
    rw (more, step_is, next.end) (append_assoc before (one ∷ []) rest) ∙ (rw next.left at so_far)

-- ---- the number of kinds up to the last that is not trivia

-- a trivia kind at the end does not count
pub trim_one : (n : ℕ) (kinds : List ℕ) → n < length kinds
    → is_trivia (role (get_or kinds n 0)) ≡ true
    → trimmed_len (map role (take n kinds)) ≡ trimmed_len (map role (take (suc n) kinds))
trim_one n [] h is = absurd (omega arith)
trim_one zero (k ∷ ks) h is = rw is refl
trim_one (suc n) (k ∷ ks) h is =
    ap (λ m. cond (is_trivia (role k) && m == 0) 0 (suc m)) (trim_one n ks (omega arith) is)

-- and any other kind does, with all before it
pub trim_full : (n : ℕ) (kinds : List ℕ) → n < length kinds
    → is_trivia (role (get_or kinds n 0)) ≡ false
    → trimmed_len (map role (take (suc n) kinds)) ≡ suc n
trim_full n [] h is = absurd (omega arith)
trim_full zero (k ∷ ks) h is = rw is refl
trim_full (suc n) (k ∷ ks) h is =
    rw (trim_full n ks (omega arith) is, not_zero n) (by (is_trivia (role k)))
  where
    by : (b : Bool) → cond (b && false) 0 (suc (suc n)) ≡ suc (suc n)
    by true = refl
    by false = refl

-- the loop that leaves out trivia at the end
pub trim_more : (n len : ℕ) (kinds : List ℕ) (all kind : ℕ) → 0 < len → len ≤ length kinds
    → n ≡ len - 1 → kind ≡ get_or kinds n kind → is_trivia (role kind) ≡ true
    → trimmed_len (map role (take len kinds)) ≡ all
    → trimmed_len (map role (take n kinds)) ≡ all
trim_more n len kinds all kind some within n_is kind_is is so_far =
    let len_is : len ≡ suc n = omega arith in
    let same = kind_is ∙ get_or_default kinds n kind 0 (omega arith) in
    trim_one n kinds (omega arith) (rw same at is) ∙ (rw len_is at so_far)

pub trim_end : (n len : ℕ) (kinds : List ℕ) (all kind : ℕ) → 0 < len → len ≤ length kinds
    → n ≡ len - 1 → kind ≡ get_or kinds n kind → is_trivia (role kind) ≡ false
    → trimmed_len (map role (take len kinds)) ≡ all → len ≡ all
trim_end n len kinds all kind some within n_is kind_is is so_far =
    let len_is : len ≡ suc n = omega arith in
    let same = kind_is ∙ get_or_default kinds n kind 0 (omega arith) in
    len_is ∙ sym (trim_full n kinds (omega arith) (rw same at is)) ∙ (rw len_is at so_far)
