-- The records of the parse of a text.
use Rattle.std.proofs.Common.{◌≡◌, ℕ, List, Option, Some, IfSome, ap, sym, subst, ◌∙◌}
use Rattle.squawk_c.specs.Arrays.{IsPut}
use Rattle.squawk_c.specs.Parse.{error_record, error_records, records_of_steps, step_records}
use Rattle.squawk_c.specs.declared.errors.SquawkError.{SquawkError}
use Rattle.squawk_c.specs.declared.options.Reading.{Reading}
use Rattle.squawk_c.specs.declared.steps.SquawkStep.{SquawkStep}
use Rattle.squawk_tree.specs.ParseOf.{parse_of}
use Rattle.squawk_tree.specs.Tree.{Tree}
use Rattle.std.specs.Prelude.{map}

-- the records of the steps, where a tree is the parse of the text
pub steps_put : (o : Option Reading) (r : Reading) (text u : List ℕ) (tree : Tree)
    (before after : List SquawkStep) (n : ℕ)
    → o ≡ Some r → u ≡ text → tree ≡ parse_of r.strings r.division u
    → IsPut (records_of_steps tree.steps) before after n
    → IfSome o (λ q. IsPut (step_records q text) before after n)
unfolding step_records
steps_put o r text u tree before after n is same parse put =
    let whole : tree ≡ parse_of r.strings r.division text =
    parse ∙ ap (λ x. parse_of r.strings r.division x) same in
    subst (λ (p : Option Reading). IfSome p (λ q. IsPut (step_records q text) before after n))
    (sym is)
    (subst (λ (xs : List SquawkStep). IsPut xs before after n)
    (ap (λ (t : Tree). records_of_steps t.steps) whole) put)

-- the records of the errors
pub errors_put : (o : Option Reading) (r : Reading) (text u : List ℕ) (tree : Tree)
    (before after : List SquawkError) (n : ℕ)
    → o ≡ Some r → u ≡ text → tree ≡ parse_of r.strings r.division u
    → IsPut (map error_record tree.errors) before after n
    → IfSome o (λ q. IsPut (error_records q text) before after n)
unfolding error_records
errors_put o r text u tree before after n is same parse put =
    let whole : tree ≡ parse_of r.strings r.division text =
    parse ∙ ap (λ x. parse_of r.strings r.division x) same in
    subst (λ (p : Option Reading). IfSome p (λ q. IsPut (error_records q text) before after n))
    (sym is)
    (subst (λ (xs : List SquawkError). IsPut xs before after n)
    (ap (λ (t : Tree). map error_record t.errors) whole) put)
