-- One turn of the loop that cuts tokens into an array.
use Rattle.std.proofs.Common.{◌≡◌, ℕ, ◌+◌, ◌<◌, ◌==◌, false, List, ◌∷◌, ◌++◌, length, take, drop, ap, sym, ◌∙◌, arith}
use Rattle.std.proofs.lemmas.Bool.Decides.{nat_tests}
use Rattle.std.proofs.Math.ListN.{set}
use Rattle.std.specs.Str.{chars}
use Rattle.squawk_c.proofs.PutSteps.{put_more}
use Rattle.squawk_c.specs.Tokens.{token_record, token_records, records_from}
use Rattle.squawk_c.specs.declared.token.SquawkToken.{SquawkToken}
use Rattle.squawk_lexer.specs.Cut.{tokens_from}
use Rattle.squawk_lexer.specs.LookAhead.{IsFirstTokenAt}
use Rattle.squawk_lexer.specs.declared.token.Strings.{Strings}
use Rattle.squawk_lexer.specs.declared.token.Token.{Token}

not_start : (n : ℕ) → 0 < n → (n == 0) ≡ false
not_start n p = grind (arith, nat_tests)

positive : (p n : ℕ) → 0 < n → 0 < p + n
positive p n q = omega (arith, q)

-- the first record from an offset on, and those after it
first_record : (s : Strings) (text : List ℕ) (p : ℕ) (t : Token)
    → IsFirstTokenAt s text p t → 0 < t.len
    → records_from s text p ≡ token_record p t ∷ records_from s text (p + t.len)
unfolding records_from
first_record s text p t first some =
    ap (token_records p) first
    ∙ ap (λ start. token_record p t ∷ token_records (p + t.len)
    (tokens_from s 0 start (chars (drop (p + t.len) text))))
    (sym (not_start (p + t.len) (positive p t.len some)))

-- the records that are written, and those of the tokens that are left, stay all
pub cut_more : (s : Strings) (text : List ℕ) (p : ℕ) (t : Token) (out : List SquawkToken) (i : ℕ)
    (r : SquawkToken) (all : List SquawkToken)
    → i < length out → r ≡ token_record p t → IsFirstTokenAt s text p t → 0 < t.len
    → take i out ++ records_from s text p ≡ all
    → take (i + 1) (set out i r) ++ records_from s text (p + t.len) ≡ all
cut_more s text p t out i r all low is first some so_far =
    let left = records_from s text (p + t.len) in
    put_more out i r left all low
    (ap (λ x. take i out ++ (x ∷ left)) is
    ∙ ap (λ xs. take i out ++ xs) (sym (first_record s text p t first some)) ∙ so_far)
