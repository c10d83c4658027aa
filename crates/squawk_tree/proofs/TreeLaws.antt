-- The woven steps of a lawful output, and their errors, are a tree.
use Rattle.std.proofs.Common.{◌≡◌, ℕ, ◌+◌, ◌<◌, ◌≤◌, nat_eq, nat_le, nat_lt, Bool, true, false, ◌&&◌, cond, List, [], ◌∷◌, ◌++◌, append_assoc, ap, refl, sym, subst, ◌∙◌, arith}
use Rattle.std.proofs.lemmas.Bool.{and_parts, leb-true, ltb-true}
use Rattle.std.proofs.lemmas.Bool.Decides.{nat_tests}
use Rattle.std.proofs.lemmas.List.Elements.{All-nil, All-cons, All-append}
use Rattle.std.specs.Prelude.{All}
use Rattle.squawk_events.specs.Kinds.{is_trivia_kind}
use Rattle.squawk_events.specs.Lawful.{IsLawful, has_lawful_numbers as lawful_numbers}
use Rattle.squawk_events.specs.declared.steps.ParseError.{ParseError}
use Rattle.squawk_events.specs.declared.steps.Step.{Step}
use Rattle.squawk_events.specs.declared.steps.Step.TheVariants.{Enter, Token, Exit, Error}
use Rattle.squawk_events.specs.declared.steps.StrStep.{StrStep}
use Rattle.squawk_events.specs.declared.steps.StrStep.TheVariants as out
use Rattle.squawk_tree.specs.Errors.{error}
use Rattle.squawk_tree.specs.Walk.{errors_by_step}
use Rattle.squawk_lexed.specs.Stored.{errors_at}
use Rattle.squawk_tree.specs.Tree.{Tree, IsErrorWithin, IsTree}
use Rattle.squawk_tree.specs.ParseOf.{tree_of, token_steps}
use Rattle.squawk_tree.specs.Steps.{leaves, only_tokens, without_errors, tiles}
use Rattle.squawk_lexed.specs.Weave.{kinds_without_trivia, next_len, leading_trivia, leading_trivia_end, after_leading_trivia, weave_from, weave}
use Rattle.squawk_lexed.specs.LexedText.{total_len, are_sound}
use Rattle.squawk_lexed.specs.Faults.{fault_within, faults_within}
use Rattle.squawk_lexed.specs.declared.fault.Fault.{Fault}
use Rattle.squawk_lexed.specs.LexedToken.{LexedToken}
use Rattle.squawk_tree.proofs.Balanced.{balanced_woven, without_errors_has_none}
use Rattle.squawk_tree.proofs.ErrorLemmas.{errors_whole}
use Rattle.squawk_tree.proofs.LeavesLemmas.{leaves_whole}
use Rattle.squawk_tree.proofs.WalkLemmas.{sound_parts}

-- ---- the tokens cover the text

-- the leaves are those of the `Token` steps
pub leaves_only_tokens : (xs : List StrStep) → leaves (only_tokens xs) ≡ leaves xs
leaves_only_tokens [] = refl
leaves_only_tokens (out.Enter kind ∷ xs) = leaves_only_tokens xs
leaves_only_tokens (out.Token kind start end ∷ xs) =
    ap (λ rs. (start, end) ∷ rs) (leaves_only_tokens xs)
leaves_only_tokens (out.Exit ∷ xs) = leaves_only_tokens xs
leaves_only_tokens (out.Error number at ∷ xs) = leaves_only_tokens xs

-- one nonempty range before ranges that tile
one_tile : (at len : ℕ) (b : Bool) → 0 < len → b ≡ true
    → (nat_eq at at && (nat_lt at (at + len) && b)) ≡ true
one_tile at len b some h = grind (arith, nat_tests)

-- the tokens tile the text
pub tiles_token_steps : (at end : ℕ) (ts : List LexedToken) → are_sound ts ≡ true
    → at + total_len ts ≡ end → tiles at (leaves (token_steps at ts)) end ≡ true
tiles_token_steps at end [] s e = grind (arith, nat_tests)
tiles_token_steps at end (t ∷ ts) s e =
    let parts = sound_parts t ts s in
    one_tile at t.len _ parts.some (tiles_token_steps (at + t.len) end ts parts.rest (omega arith))

-- ---- the numbers of errors

-- whether the number of each `Error` step is from 1 to 10
abbrev pub has_lawful_numbers : List StrStep → Bool
has_lawful_numbers [] = true
has_lawful_numbers (out.Enter kind ∷ xs) = has_lawful_numbers xs
has_lawful_numbers (out.Token kind start end ∷ xs) = has_lawful_numbers xs
has_lawful_numbers (out.Exit ∷ xs) = has_lawful_numbers xs
has_lawful_numbers (out.Error number at ∷ xs) =
    nat_le 1 number && (nat_le number 10 && has_lawful_numbers xs)

-- Trivia have no numbers: before other steps, and before one more step that is woven with it.
numbers_leading_trivia : (at : ℕ) (ts : List LexedToken) (ys : List StrStep)
    → has_lawful_numbers (leading_trivia at ts ++ ys) ≡ has_lawful_numbers ys
numbers_leading_trivia at [] ys = refl
numbers_leading_trivia at (t ∷ ts) ys =
    by (is_trivia_kind t.kind) (numbers_leading_trivia (at + t.len) ts ys)
  where
    by : (b : Bool) → has_lawful_numbers (leading_trivia (at + t.len) ts ++ ys)
        ≡ has_lawful_numbers ys
        → has_lawful_numbers (cond b (out.Token t.kind at (at + t.len)
        ∷ leading_trivia (at + t.len) ts) [] ++ ys) ≡ has_lawful_numbers ys
    by true h = h
    by false h = refl

numbers_trivia_step : (at : ℕ) (ts : List LexedToken) (y : StrStep) (ys : List StrStep)
    → has_lawful_numbers ((leading_trivia at ts ++ y ∷ []) ++ ys) ≡ has_lawful_numbers (y ∷ ys)
numbers_trivia_step at ts y ys =
    ap has_lawful_numbers (append_assoc (leading_trivia at ts) (y ∷ []) ys)
    ∙ numbers_leading_trivia at ts (y ∷ ys)

-- the woven steps have the numbers of the output
pub numbers_woven : (at : ℕ) (ts : List LexedToken) (xs : List Step)
    → has_lawful_numbers (weave_from at ts xs) ≡ lawful_numbers xs
numbers_woven at ts [] = refl
numbers_woven at ts (Enter kind ∷ xs) = numbers_trivia_step at ts (out.Enter kind) _
    ∙ numbers_woven (leading_trivia_end at ts) (after_leading_trivia ts) xs
numbers_woven at ts (Token kind ∷ xs) =
    numbers_trivia_step at ts (out.Token kind (leading_trivia_end at ts) (leading_trivia_end at ts
    + next_len (after_leading_trivia ts))) _
    ∙ numbers_woven (leading_trivia_end at ts + next_len (after_leading_trivia ts)) _ xs
numbers_woven at ts (Exit ∷ []) = numbers_trivia_step at ts out.Exit []
numbers_woven at ts (Exit ∷ x ∷ xs) = numbers_woven at ts (x ∷ xs)
numbers_woven at ts (Error number ∷ xs) =
    ap (λ b. nat_le 1 number && (nat_le number 10 && b)) (numbers_woven at ts xs)

-- ---- the errors lie in the text

-- the faults of a token lie in it
pub faults_lie_within : (end at len : ℕ) (fs : List Fault) → faults_within len fs ≡ true
    → at + len ≤ end → All (IsErrorWithin end) (errors_at at fs)
faults_lie_within end at len [] h le = All-nil (IsErrorWithin end)
faults_lie_within end at len (f ∷ fs) h le =
    let rest = and_parts (fault_within len f) (faults_within len fs) h in
    let a = and_parts (nat_le 1 f.number) (nat_le f.number 9 && (nat_lt f.start f.end
    && nat_le f.end len)) rest.0 in
    let b = and_parts (nat_le f.number 9) (nat_lt f.start f.end && nat_le f.end len) a.1 in
    let c = and_parts (nat_lt f.start f.end) (nat_le f.end len) b.1 in
    let one = leb-true 1 f.number a.0 in
    let nine = leb-true f.number 9 b.0 in
    let order = ltb-true f.start f.end c.0 in
    let inside = leb-true f.end len c.1 in
    All-cons (IsErrorWithin end) (error (at + f.start) (at + f.end) f.number) (errors_at at fs)
    (record {
      first_number = one;
      last_number = omega arith;
      ordered = omega arith;
      within =
          omega arith;
    })
    (faults_lie_within end at len fs rest.1 le)

-- the next token is no longer than the text
next_len_le : (ts : List LexedToken) → next_len ts ≤ total_len ts
next_len_le [] = omega arith
next_len_le (t ∷ ts) = omega arith

-- the errors of steps lie in the text
errors_lie_within : (end at : ℕ) (ts : List LexedToken) (xs : List StrStep)
    → at + total_len ts ≤ end
    → are_sound ts ≡ true → has_lawful_numbers xs ≡ true
    → All (IsErrorWithin end) (errors_by_step at ts xs)
errors_lie_within end at ts [] le s h = All-nil (IsErrorWithin end)
errors_lie_within end at ts (out.Enter kind ∷ xs) le s h = errors_lie_within end at ts xs le s h
errors_lie_within end at [] (out.Token kind start stop ∷ xs) le s h =
    errors_lie_within end (at + 0) [] xs (omega arith) s h
errors_lie_within end at (t ∷ ts) (out.Token kind start stop ∷ xs) le s h =
    All-append (IsErrorWithin end) (errors_at at t.faults) (errors_by_step (at + t.len) ts xs)
    (faults_lie_within end at t.len t.faults (sound_parts t ts s).faults (omega arith))
    (errors_lie_within end (at + t.len) ts xs (omega arith) (sound_parts t ts s).rest h)
errors_lie_within end at ts (out.Exit ∷ xs) le s h = errors_lie_within end at ts xs le s h
errors_lie_within end at ts (out.Error number offset ∷ xs) le s h =
    let a = and_parts (nat_le 1 number) (nat_le number 10 && has_lawful_numbers xs) h in
    let b = and_parts (nat_le number 10) (has_lawful_numbers xs) a.1 in
    let one = leb-true 1 number a.0 in
    let ten = leb-true number 10 b.0 in
    let next = next_len_le ts in
    All-cons (IsErrorWithin end) (error at (at + next_len ts) number) (errors_by_step at ts xs)
    (record { first_number = one; last_number = ten; ordered = omega arith; within = omega arith })
    (errors_lie_within end at ts xs le s b.1)

-- the numbers of a whole output
numbers_whole : (ts : List LexedToken) (xs : List Step) → lawful_numbers xs ≡ true
    → has_lawful_numbers (weave ts xs) ≡ true
numbers_whole ts [] h = refl
numbers_whole ts (Enter kind ∷ xs) h = numbers_woven 0 ts xs ∙ h
numbers_whole ts (Token kind ∷ xs) h = refl
numbers_whole ts (Exit ∷ xs) h = refl
numbers_whole ts (Error number ∷ xs) h = refl

-- the woven steps of a lawful output make a tree over sound tokens
pub tree_of_lawful : (ts : List LexedToken) (xs : List Step) → are_sound ts ≡ true
    → IsLawful (kinds_without_trivia ts) xs → IsTree (tree_of ts (weave ts xs))
tree_of_lawful ts xs sound lawful = record {
  balanced = balanced_woven ts xs lawful.balanced;
  no_errors = without_errors_has_none (weave ts xs);
  tiled = ap (λ rs. tiles 0 rs (total_len ts))
      (sym (leaves_only_tokens (without_errors (weave ts xs)))
      ∙ ap leaves (leaves_whole ts xs lawful.balanced lawful.tokens))
      ∙ tiles_token_steps 0 (total_len ts) ts sound (omega arith);
  errors_within = subst (All (IsErrorWithin (total_len ts)))
      (sym (errors_whole ts xs lawful.balanced lawful.tokens sound))
      (errors_lie_within (total_len ts) 0 ts (weave ts xs) (omega arith) sound
      (numbers_whole ts xs lawful.numbers));
}

-- the tree of these steps, less their `Error` steps
abbrev pub kept_tree : List StrStep → List ParseError → ℕ → Tree
kept_tree steps own len = record { steps = without_errors steps; errors = own; len = len }

-- the tree of the woven steps of a lawful output and of their errors
pub parts_are : (ts : List LexedToken) (xs : List Step) (woven steps : List StrStep)
    (own : List ParseError) (len : ℕ) → are_sound ts ≡ true
    → IsLawful (kinds_without_trivia ts) xs → woven ≡ weave ts xs
    → steps ≡ without_errors woven → own ≡ errors_by_step 0 ts woven → len ≡ total_len ts
    → record { steps = steps; errors = own; len = len } ≡ tree_of ts (weave ts xs)
parts_are ts xs woven steps own len sound lawful woven_is steps_are own_are len_is =
    let errors_are = own_are ∙ ap (errors_by_step 0 ts) woven_is
    ∙ sym (errors_whole ts xs lawful.balanced lawful.tokens sound) in
    rw (errors_are, steps_are, woven_is, len_is) refl
