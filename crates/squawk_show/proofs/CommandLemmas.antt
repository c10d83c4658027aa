-- The command `make`, by what `parse` returns for the number after it.
use Rattle.std.proofs.Common.{◌≡◌, ℕ, ◌≤◌, ◌<◌, List, [], ◌∷◌, slice_index_or, true, arith, Ok, Err, Result, rules}
use Rattle.std.proofs.lemmas.Str.Parse.{IsNumeralModel, numerals_by_value, tells_all_ascii_digits, parse_plain}
use Rattle.std.specs.Str.{all_ascii_digits}
use Rattle.std.specs.Str.Parse.{digits_value, ParsesUnsigned}
use Rattle.squawk_show.specs.Command.{make_command}
use Rattle.squawk_show.specs.Made.{most_pieces}
use Rattle.squawk_show.specs.declared.command.Command.TheVariants.{Make}
use Rattle.squawk_show.specs.declared.error.RunError.TheVariants.{BadWords}

-- texts of digits and their numbers
numerals : IsNumeralModel (λ ds. all_ascii_digits ds ≡ true) (digits_value 10)
numerals = numerals_by_value (λ ds. all_ascii_digits ds ≡ true) tells_all_ascii_digits

-- `make_parsed`, `make_refused`: a word that begins with another digit, by the result of `parse`
pub make_parsed : {E : Type 0} (word : List ℕ) (r : Result ℕ E) (n : ℕ)
    → 48 < slice_index_or word 0 0 → ParsesUnsigned 32 10 word r → r ≡ Ok n → n ≤ most_pieces → make_command word ≡ Ok (Make n)
make_parsed [] r n first h is within = absurd (omega arith)
make_parsed (c ∷ cs) r n first h is within =
    let plain = parse_plain numerals 32 (c ∷ cs) r h (λ plus. omega arith) in
    search (rules, plain, is, within, first)

pub make_refused : {E : Type 0} (word : List ℕ) (r : Result ℕ E) (e : E)
    → 48 < slice_index_or word 0 0 → ParsesUnsigned 32 10 word r → r ≡ Err e → make_command word ≡ Err BadWords
make_refused [] r e first h is = absurd (omega arith)
make_refused (c ∷ cs) r e first h is =
    let plain = parse_plain numerals 32 (c ∷ cs) r h (λ plus. omega arith) in
    search (rules, plain, is, first)
