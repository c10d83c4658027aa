-- The statements that data of COPY follows in a script. Kinds are those of a statement's tokens,
-- without trivia.
use Rattle.std.specs.Prelude.{◌≡◌, ℕ, zero, suc, ◌+◌, ◌-◌, Bool, true, false, ◌&&◌, ◌||◌, ◌==◌, List, [], ◌∷◌, ◌++◌, length, take, slice_index, if◌then◌else◌}
use Rattle.squawk_kinds.specs.declared.numbers.TheConstants.Number as kind

-- the number of open parentheses after one more kind; one that closes none changes nothing
abbrev pub open_parens_after : ℕ → ℕ → ℕ
open_parens_after zero k = if k == kind.L_PAREN then 1 else 0
open_parens_after (suc open_parens) k =
    if k == kind.L_PAREN then open_parens + 2
    else if k == kind.R_PAREN then open_parens
    else open_parens + 1

-- Whether STDIN directly follows FROM, both outside all parentheses. `open_parens` parentheses are
-- open before the kinds, and `after_from` says that a FROM outside all of them is the kind before.
abbrev pub has_from_stdin : (open_parens : ℕ) → (after_from : Bool) → List ℕ → Bool
has_from_stdin open_parens after_from [] = false
has_from_stdin open_parens after_from (k ∷ ks) =
    (after_from && k == kind.STDIN_KW)
    || has_from_stdin (open_parens_after open_parens k) (open_parens == 0 && k == kind.FROM_KW) ks

-- Whether the statement is a `COPY .. FROM STDIN ..;`. `terminated` says that the division into
-- statements ends it at its last kind.
abbrev pub is_copy_from_stdin : List ℕ → (terminated : Bool) → Bool
is_copy_from_stdin kinds terminated =
    ((terminated && slice_index kinds 0 == kind.COPY_KW)
    && slice_index kinds (length kinds - 1) == kind.SEMICOLON)
    && has_from_stdin 0 false (take (length kinds - 1) kinds)

-- ---- laws

-- the number of open parentheses after all the kinds
abbrev pub open_parens_after_all : ℕ → List ℕ → ℕ
open_parens_after_all open_parens [] = open_parens
open_parens_after_all open_parens (k ∷ ks) =
    open_parens_after_all (open_parens_after open_parens k) ks

-- FROM and STDIN follow each other in the kinds, outside all parentheses
pub record IsFromStdin (open_parens : ℕ) (kinds : List ℕ) : Type 0 where
  pub before : List ℕ
  pub after : List ℕ
  pub is : kinds ≡ before ++ kind.FROM_KW ∷ kind.STDIN_KW ∷ after
  pub outside : open_parens_after_all open_parens before ≡ 0

-- every FROM STDIN outside all parentheses is found
abbrev pub FromStdinIsFound : Type 0
FromStdinIsFound = (kinds : List ℕ) → IsFromStdin 0 kinds → has_from_stdin 0 false kinds ≡ true

-- only a FROM STDIN outside all parentheses is found
abbrev pub OnlyFromStdinIsFound : Type 0
OnlyFromStdinIsFound = (kinds : List ℕ) → has_from_stdin 0 false kinds ≡ true → IsFromStdin 0 kinds
