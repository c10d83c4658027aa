-- The steps and errors that a sink has received make a tree.
use Rattle.std.proofs.Common.{◌≡◌, ℕ, Bool, true, false, ◌&&◌, List, [], ◌∷◌, ◌++◌, ap, sym, refl, ◌∙◌}
use Rattle.std.specs.Prelude.{All}
use Rattle.squawk_events.specs.declared.steps.ParseError.{ParseError}
use Rattle.squawk_events.specs.declared.steps.StrStep.{StrStep}
use Rattle.squawk_events.specs.declared.steps.StrStep.TheVariants.{Enter, Token, Exit, Error}
use Rattle.squawk_tree.specs.Steps.{has_no_errors, is_balanced, without_errors, leaves, tiles}
use Rattle.squawk_tree.specs.Taken.{Taken, IsError, IsSinkState, EndsBy, tokens_end}
use Rattle.squawk_tree.specs.Tree.{IsTree}
use Rattle.squawk_tree.proofs.Balanced.{without_errors_has_none}
use Rattle.squawk_tree.proofs.TreeLaws.{kept_tree}

-- leaving out `Error` steps leaves out no leaf
leaves_without_errors : (xs : List StrStep) → leaves (without_errors xs) ≡ leaves xs
leaves_without_errors [] = refl
leaves_without_errors (Enter kind ∷ xs) = leaves_without_errors xs
leaves_without_errors (Token kind start end ∷ xs) =
    ap (λ rs. (start, end) ∷ rs) (leaves_without_errors xs)
leaves_without_errors (Exit ∷ xs) = leaves_without_errors xs
leaves_without_errors (Error number at ∷ xs) = leaves_without_errors xs

-- where no step is an `Error`, all are left
pub without_none : (xs : List StrStep) → has_no_errors xs ≡ true → without_errors xs ≡ xs
without_none [] h = refl
without_none (Enter kind ∷ xs) h = ap (λ ys. Enter kind ∷ ys) (without_none xs h)
without_none (Token kind start end ∷ xs) h =
    ap (λ ys. Token kind start end ∷ ys) (without_none xs h)
without_none (Exit ∷ xs) h = ap (λ ys. Exit ∷ ys) (without_none xs h)
without_none (Error number at ∷ xs) h = absurd (cc)

-- a conjunction with a known second part
and_true : (b : Bool) → (b && true) ≡ b
and_true true = refl
and_true false = refl

and_false : (b : Bool) → (b && false) ≡ false
and_false true = refl
and_false false = refl

-- whether no step is an `Error`, with one more step
none_push : (xs : List StrStep) (x : StrStep)
    → has_no_errors (xs ++ x ∷ []) ≡ (has_no_errors xs && has_no_errors (x ∷ []))
none_push [] x = refl
none_push (Enter kind ∷ xs) x = none_push xs x
none_push (Token kind start end ∷ xs) x = none_push xs x
none_push (Exit ∷ xs) x = none_push xs x
none_push (Error number at ∷ xs) x = refl

-- a sink after a step: one that stays in the tree, and one that does not
pub state_kept : (xs : List StrStep) (x : StrStep) (flag : Bool) (own : List ParseError)
    (xs' : List StrStep) → IsSinkState xs flag own → has_no_errors (x ∷ []) ≡ true
    → xs' ≡ xs ++ x ∷ [] → IsSinkState xs' flag own
state_kept xs x flag own xs' state kept is = record {
  flag = state.flag ∙ sym (and_true (has_no_errors xs))
      ∙ ap (λ b. has_no_errors xs && b) (sym kept) ∙ sym (none_push xs x)
      ∙ ap has_no_errors (sym is);
  errors_are = state.errors_are;
}

pub state_error : (xs : List StrStep) (x : StrStep) (flag : Bool) (own : List ParseError)
    (xs' : List StrStep) → IsSinkState xs flag own → has_no_errors (x ∷ []) ≡ false
    → xs' ≡ xs ++ x ∷ [] → IsSinkState xs' false own
state_error xs x flag own xs' state lost is = record {
  flag = sym (and_false (has_no_errors xs)) ∙ ap (λ b. has_no_errors xs && b) (sym lost)
      ∙ sym (none_push xs x) ∙ ap has_no_errors (sym is);
  errors_are = state.errors_are;
}

-- what `finish` makes is a tree: by its steps and errors, and by the value of the sink
pub finished : (steps : List StrStep) (own : List ParseError) (len : ℕ)
    → is_balanced (without_errors steps) ≡ true → tiles 0 (leaves steps) len ≡ true
    → All IsError own → All (EndsBy len) own → IsTree (kept_tree steps own len)
finished steps own len balanced tiled errors ends = record {
  balanced = balanced;
  no_errors = without_errors_has_none steps;
  tiled = ap (λ rs. tiles 0 rs len) (leaves_without_errors steps) ∙ tiled;
  errors_within = λ k d lt. let e = errors k d lt in record {
    first_number = e.first_number;
    last_number = e.last_number;
    ordered = e.ordered;
    within = ends k d lt;
  };
}

pub finished_as : (taken : Taken) (steps : List StrStep) (own : List ParseError) (len : ℕ)
    → record { steps = steps; errors = own } ≡ taken → len ≡ tokens_end steps
    → is_balanced (without_errors taken.steps) ≡ true
    → tiles 0 (leaves taken.steps) (tokens_end taken.steps) ≡ true
    → All IsError own → All (EndsBy (tokens_end taken.steps)) taken.errors
    → IsTree (kept_tree steps own len)
finished_as taken steps own len is len_is balanced tiled errors ends =
    let steps_are : steps ≡ taken.steps = ap (λ (t : Taken). t.steps) is in
    let own_is : own ≡ taken.errors = ap (λ (t : Taken). t.errors) is in
    let end_is : len ≡ tokens_end taken.steps = len_is ∙ ap tokens_end steps_are in
    finished steps own len (rw steps_are balanced) (rw (steps_are, end_is) tiled) errors
    (rw (own_is, end_is) ends)
