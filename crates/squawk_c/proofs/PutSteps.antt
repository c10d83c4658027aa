-- One turn of a loop that writes elements to the beginning of an array.
use Rattle.std.proofs.Common.{◌≡◌, ℕ, ◌+◌, ◌<◌, List, [], ◌∷◌, ◌++◌, length, take, drop, ap, sym, ◌∙◌, append_assoc, arith}
use Rattle.std.proofs.lemmas.List.{take_more_set, drop-set-lt, drop-drop}
use Rattle.std.proofs.Math.ListN.{set}

-- what is written and what is left stay all
pub put_more : {A : Type 0} (out : List A) (i : ℕ) (x : A) (left all : List A)
    → i < length out → take i out ++ (x ∷ left) ≡ all → take (i + 1) (set out i x) ++ left ≡ all
put_more out i x left all low so_far =
    ap (λ xs. xs ++ left) (take_more_set out i x low) ∙ append_assoc (take i out) (x ∷ []) left
    ∙ so_far

less_more : (i : ℕ) → i < i + 1
less_more i = omega arith

-- what comes after the elements stays
pub rest_more : {A : Type 0} (out old : List A) (i : ℕ) (x : A)
    → drop i out ≡ drop i old → drop (i + 1) (set out i x) ≡ drop (i + 1) old
rest_more out old i x same =
    drop-set-lt (i + 1) out i x (less_more i) ∙ sym (drop-drop 1 i out) ∙ ap (drop 1) same
    ∙ drop-drop 1 i old
