-- The parse of tokens is the join of its children.
use Rattle.std.proofs.Common.{◌≡◌, ℕ, ◌+◌, true, List, [], ◌∷◌, ◌++◌, length, map, ap, refl, ◌∙◌, arith}
use Rattle.squawk_events.specs.declared.steps.StrStep.{StrStep}
use Rattle.squawk_events.specs.declared.steps.StrStep.TheVariants.{Enter, Token, Exit, Error}
use Rattle.squawk_kinds.specs.declared.numbers.TheConstants.Number.{SOURCE_FILE}
use Rattle.squawk_lexed.specs.LexedText.{are_sound, total_len}
use Rattle.squawk_lexed.specs.Weave.{kinds_without_trivia, weave}
use Rattle.squawk_lexed.specs.LexedToken.{LexedToken, lexed_role}
use Rattle.squawk_statements.specs.Children.{parts}
use Rattle.squawk_statements.specs.Plain.{plain}
use Rattle.squawk_statements.specs.PlainIsLawful.{plain_lawful}
use Rattle.squawk_statements.specs.declared.division.Division.{Division}
use Rattle.squawk_tree.specs.Errors.{errors}
use Rattle.squawk_tree.specs.Join.{woven_child, shifted_step, shifted_error, child_of, child_steps_from, child_errors_from, join}
use Rattle.squawk_tree.specs.ParseOf.{parse_of_tokens}
use Rattle.squawk_tree.specs.Steps.{without_errors}
use Rattle.squawk_tree.proofs.ErrorLemmas.{errors_whole}
use Rattle.squawk_tree.proofs.JoinLemmas.{joined_from, joined_errors, join_law, parts_len}
use Rattle.squawk_tree.proofs.JoinErrorLemmas.{join_errors_law, has_no_trivia_kept}

-- Leaving out `Error` steps commutes with appending, and with shifting.
pub without_errors_append : (xs ys : List StrStep) → without_errors (xs ++ ys)
    ≡ without_errors xs ++ without_errors ys
without_errors_append [] ys = refl
without_errors_append (Enter kind ∷ xs) ys =
    ap (λ zs. Enter kind ∷ zs) (without_errors_append xs ys)
without_errors_append (Token kind start end ∷ xs) ys =
    ap (λ zs. Token kind start end ∷ zs) (without_errors_append xs ys)
without_errors_append (Exit ∷ xs) ys = ap (λ zs. Exit ∷ zs) (without_errors_append xs ys)
without_errors_append (Error number at ∷ xs) ys = without_errors_append xs ys

without_errors_shifted : (n : ℕ) (xs : List StrStep)
    → without_errors (map (shifted_step n) xs) ≡ map (shifted_step n) (without_errors xs)
without_errors_shifted n [] = refl
without_errors_shifted n (Enter kind ∷ xs) =
    ap (λ zs. Enter kind ∷ zs) (without_errors_shifted n xs)
without_errors_shifted n (Token kind start end ∷ xs) =
    ap (λ zs. Token kind (start + n) (end + n) ∷ zs) (without_errors_shifted n xs)
without_errors_shifted n (Exit ∷ xs) = ap (λ zs. Exit ∷ zs) (without_errors_shifted n xs)
without_errors_shifted n (Error number at ∷ xs) = without_errors_shifted n xs

-- the steps and the errors of joined children
steps_joined : (d : Division) (at : ℕ) (ps : List (List LexedToken))
    → without_errors (joined_from d at ps) ≡ child_steps_from at (map (child_of d) ps)
steps_joined d at [] = refl
steps_joined d at (p ∷ ps) =
    without_errors_append (map (shifted_step at) (woven_child d 0 p))
    (joined_from d (at + total_len p) ps)
    ∙ ap (λ zs. zs ++ without_errors (joined_from d (at + total_len p) ps))
    (without_errors_shifted at (woven_child d 0 p))
    ∙ ap (λ zs. map (shifted_step at) (without_errors (woven_child d 0 p))
    ++ zs) (steps_joined d (at + total_len p) ps)

errors_joined : (d : Division) (at : ℕ) (ps : List (List LexedToken))
    → joined_errors d at ps ≡ child_errors_from at (map (child_of d) ps)
errors_joined d at [] = refl
errors_joined d at (p ∷ ps) = ap (λ es. map (shifted_error at) (errors p (woven_child d 0 p))
    ++ es) (errors_joined d (at + total_len p) ps)

-- the parse of tokens is the join of its children
pub parse_joined : (d : Division) (ts : List LexedToken) → are_sound ts ≡ true
    → parse_of_tokens d ts ≡ join (map (child_of d) (parts lexed_role d ts))
parse_joined d ts sound =
    let lawful = plain_lawful d (kinds_without_trivia ts) (has_no_trivia_kept ts) in
    let steps : without_errors (weave ts (plain d (kinds_without_trivia ts)))
    ≡ Enter SOURCE_FILE
    ∷ child_steps_from 0 (map (child_of d) (parts lexed_role d ts)) ++ Exit ∷ [] =
    ap without_errors (join_law d ts)
    ∙ ap (λ zs. Enter SOURCE_FILE ∷ zs)
    (without_errors_append (joined_from d 0 (parts lexed_role d ts))
    (Exit ∷ []) ∙ ap (λ zs. zs ++ Exit ∷ []) (steps_joined d 0 (parts lexed_role d ts))) in
    let len = parts_len (length ts) d ts (omega arith) in
    let own : errors ts (weave ts (plain d (kinds_without_trivia ts)))
    ≡ child_errors_from 0 (map (child_of d) (parts lexed_role d ts)) =
    join_errors_law d ts sound (errors_whole ts (plain d (kinds_without_trivia ts)) lawful.balanced
    lawful.tokens sound) ∙ errors_joined d 0 (parts lexed_role d ts) in
    rw (steps, own, len) refl
