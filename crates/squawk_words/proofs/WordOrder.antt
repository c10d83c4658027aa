-- A lemma on the comparison of lists.
use Rattle.std.proofs.Common.{◌≡◌, ◌≢◌, ℕ, true, false, List, Ordering, sym, ap, ◌∙◌}
use Rattle.std.specs.Ordering.{is_eq, nat_cmp}
use Rattle.std.specs.Cmp.Lexicographic.{slice_cmp}
use Rattle.std.proofs.lemmas.Map.Text.{is_eq-slice_cmp}
use Rattle.std.proofs.lemmas.Slice.Eq.{bytes_eq-Decides}

-- lists that compare as less or greater differ
pub differs_if : (a b : List ℕ) (o : Ordering) → slice_cmp nat_cmp a b ≡ o → is_eq o ≡ false → a ≢ b
differs_if a b o e other same =
    let clash : true ≡ false = sym ((bytes_eq-Decides a b).1 same) ∙ sym (is_eq-slice_cmp a b)
    ∙ ap is_eq e ∙ other in cc
