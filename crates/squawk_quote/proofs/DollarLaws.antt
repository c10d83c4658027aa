-- The dollar-quoted string of a value is one token and has this value. Its tag is the shortest that
-- fits.
use Rattle.std.proofs.Common.{◌≡◌, ℕ, zero, suc, ◌+◌, ◌-◌, ◌<◌, ◌≤◌, Bool, true, false, List, [], ◌∷◌, ◌++◌, length, get_or, take, drop, Option, Some, None, is_some, nat_eq, length-append, append-nil, refl, sym, ap, ◌∙◌, inl, inr, ◌&&◌, eqb, cond, arith}
use Rattle.std.proofs.lemmas.Bool.{cases_eq, false≢true}
use Rattle.std.proofs.lemmas.Bool.Decides.{nat_tests}
use Rattle.std.proofs.Math.Seq.{take-append_seam, drop-append_seam}
use Rattle.std.specs.List.{starts_with, prefix_len}
use Rattle.squawk_lexer.specs.declared.token.LiteralKind.TheVariants.{DollarQuotedString}
use Rattle.squawk_lexer.specs.declared.token.TokenKind.TheVariants as kinds
use Rattle.squawk_lexer.specs.declared.token.Strings.TheVariants.{Standard}
use Rattle.squawk_lexer.specs.Kind.{Lexeme, literal_until}
use Rattle.squawk_lexer.specs.Classes.{is_tag_cont, dollar_sign}
use Rattle.squawk_lexer.specs.Quoted.{end_or_text_end}
use Rattle.squawk_lexer.specs.Dollar.{find_end, tag_end, is_dollar_quote_start, delimiter_end, dollar_string, dollar}
use Rattle.squawk_lexer.specs.Dollar.{delimiter as opening_delimiter}
use Rattle.squawk_lexer.specs.Token.{token_form, lexeme_at}
use Rattle.squawk_quote.specs.Values.{letter_q, tag_then, delimiter_of, is_found_at, delimiter_fits, first_fitting_tag, shortest_tag, dollar_quoted, dollar_constant, strip_ends, value_of_kind, value_of_tokens, value_of, IsOneToken}
use Rattle.squawk_quote.proofs.QuotedLaws.{one_token, token_is}

-- ---- the characters of a delimiter

tag_append : (n : ℕ) (r s : List ℕ) → tag_then n r ++ s ≡ tag_then n (r ++ s)
tag_append zero r s = refl
tag_append (suc n) r s = ap (λ w. letter_q ∷ w) (tag_append n r s)

tag_chars_len : (n : ℕ) (r : List ℕ) → length (tag_then n r) ≡ n + length r
tag_chars_len zero r = omega arith
tag_chars_len (suc n) r = let e = tag_chars_len n r in omega (arith, e)

tag_run : (n : ℕ) (r : List ℕ) → prefix_len is_tag_cont (tag_then n (dollar_sign ∷ r)) ≡ n
tag_run zero r = refl
tag_run (suc n) r = ap (λ m. 1 + m) (tag_run n r) ∙ omega arith

tag_next : (n : ℕ) (r : List ℕ) → get_or (tag_then n (dollar_sign ∷ r)) n 0 ≡ dollar_sign
tag_next zero r = refl
tag_next (suc n) r = tag_next n r

delimiter_of_len : (n : ℕ) → length (delimiter_of n) ≡ n + 2
delimiter_of_len n = let e = tag_chars_len n (dollar_sign ∷ []) in omega (arith, e)

-- ---- a tag longer than the value fits

pub starts_self : (t s : List ℕ) → starts_with nat_eq (t ++ s) t ≡ true
starts_self [] s = refl
starts_self (c ∷ t) s = let same : nat_eq c c ≡ true = grind (arith, nat_tests) in
    rw (same, starts_self t s) refl

and_false : (b : Bool) → (b && false) ≡ false
and_false true = refl
and_false false = refl

clash : (cs y z : List ℕ) (m : ℕ) → length cs < m
    → starts_with nat_eq (cs ++ dollar_sign ∷ y) (tag_then m z) ≡ false
clash cs y z zero h = absurd (omega arith)
clash [] y z (suc m) h = refl
clash (d ∷ ds) y z (suc m) h = rw (clash ds y z m (omega arith)) (and_false (nat_eq letter_q d))

pub find_self : (m : ℕ) → find_end (delimiter_of m) (delimiter_of m)
    ≡ Some (length (delimiter_of m))
find_self m =
    let here : starts_with nat_eq (delimiter_of m) (delimiter_of m) ≡ true =
    ap (λ w. starts_with nat_eq w (delimiter_of m)) (sym (append-nil (delimiter_of m)))
    ∙ starts_self (delimiter_of m) [] in
    rw here refl

long_found : (m : ℕ) (v : List ℕ) → length v < m
    → find_end (delimiter_of m) (v ++ delimiter_of m) ≡ Some (length v + length (delimiter_of m))
long_found m [] h = find_self m
    ∙ ap Some (let e : length (delimiter_of m) ≡ 0 + length (delimiter_of m) =
    omega arith in e)
long_found m (c ∷ cs) h =
    let none : starts_with nat_eq (c ∷ cs ++ delimiter_of m) (delimiter_of m) ≡ false =
    rw (clash cs (tag_then m (dollar_sign ∷ [])) (dollar_sign ∷ []) m (omega arith))
    (and_false (nat_eq dollar_sign c)) in
    let sum : length cs + length (delimiter_of m) + 1 ≡ length (c ∷ cs) + length (delimiter_of m) =
    omega arith in
    rw (none, long_found m cs (omega arith)) (ap Some sum)

eqb_self : (n : ℕ) → eqb n n ≡ true
eqb_self n = grind (arith, nat_tests)

pub long_tag_fits : (v : List ℕ) (m : ℕ) → length v < m → delimiter_fits v m ≡ true
long_tag_fits v m h =
    ap (λ o. is_found_at o (length v + length (delimiter_of m))) (long_found m v h)
    ∙ eqb_self (length v + length (delimiter_of m))

-- ---- the shortest tag that fits

-- the tag found fits, if the one after all that are tried fits
found_tag_fits : (v : List ℕ) (n more : ℕ) → delimiter_fits v (n + more) ≡ true
    → delimiter_fits v (first_fitting_tag v n more) ≡ true
found_tag_fits v n zero h = ap (delimiter_fits v) (omega arith) ∙ h
found_tag_fits v n (suc more) h = by (delimiter_fits v n) refl (found_tag_fits v (n + 1) more)
  where
    by : (b : Bool) → delimiter_fits v n ≡ b → (delimiter_fits v (n + 1 + more) ≡ true
        → delimiter_fits v (first_fitting_tag v (n + 1) more) ≡ true)
        → delimiter_fits v (cond b n (first_fitting_tag v (n + 1) more)) ≡ true
    by true t next = t
    by false t next = next (ap (delimiter_fits v) (omega arith) ∙ h)

-- no tag before the one found fits
earlier_tags_fail : (v : List ℕ) (n more k : ℕ) → n ≤ k → k < first_fitting_tag v n more
    → delimiter_fits v k ≡ false
earlier_tags_fail v n zero k low high = absurd (omega arith)
earlier_tags_fail v n (suc more) k low high =
    by (delimiter_fits v n) refl high (earlier_tags_fail v (n + 1) more k)
  where
    by : (b : Bool) → delimiter_fits v n ≡ b → k < cond b n (first_fitting_tag v (n + 1) more)
        → (n + 1 ≤ k → k < first_fitting_tag v (n + 1) more → delimiter_fits v k ≡ false)
        → delimiter_fits v k ≡ false
    by true t h next = absurd (omega arith)
    by false t h next = elim (cases_eq k n) [
      | inl is ↦ ap (delimiter_fits v) is
          ∙ t
      | inr is_not ↦ next (let more : n + 1 ≤ k = grind (arith) in more) h
    ]

pub tag_fits : (v : List ℕ) → delimiter_fits v (shortest_tag v) ≡ true
tag_fits v = found_tag_fits v 0 (length v + 1) (long_tag_fits v (0 + (length v + 1)) (omega arith))

pub tag_least : (v : List ℕ) (k : ℕ) → k < shortest_tag v → delimiter_fits v k ≡ false
tag_least v k h = earlier_tags_fail v 0 (length v + 1) k (omega arith) h

-- ---- one token

-- an end that is found at n is n
found_at : (o : Option ℕ) (n : ℕ) → is_found_at o n ≡ true → o ≡ Some n
found_at None n h = absurd (false≢true h)
found_at (Some m) n h = ap Some (let e : m ≡ n = grind (arith, nat_tests) in e)

-- the text begins with `$`, the tag and `$`, and the lexer reads it so
begins : (n : ℕ) (v : List ℕ) → dollar_quoted n v
    ≡ dollar_sign ∷ tag_then n (dollar_sign ∷ (v ++ delimiter_of n))
begins n v = ap (λ w. dollar_sign ∷ w) (tag_append n (dollar_sign ∷ []) (v ++ delimiter_of n))

tag_of : (n : ℕ) (r : List ℕ) → tag_end (dollar_sign ∷ tag_then n (dollar_sign ∷ r)) ≡ n + 1
tag_of zero r = refl
tag_of (suc n) r = ap (λ m. 1 + m) (tag_run (suc n) r) ∙ omega arith

tag_at : (n : ℕ) (v : List ℕ) → tag_end (dollar_quoted n v) ≡ n + 1
tag_at n v = ap tag_end (begins n v) ∙ tag_of n (v ++ delimiter_of n)

opens_at : (n : ℕ) (v : List ℕ) → is_dollar_quote_start (dollar_quoted n v) ≡ true
opens_at n v =
    let here : get_or (dollar_quoted n v) (n + 1) 0 ≡ dollar_sign =
    ap (λ w. get_or w (n + 1) 0) (begins n v)
    ∙ ap (λ m. get_or (dollar_sign ∷ tag_then n (dollar_sign ∷ (v ++ delimiter_of n))) m 0)
    (let e : n + 1 ≡ suc n =
    omega arith in e) ∙ tag_next n (v ++ delimiter_of n) in
    ap (λ m. eqb (get_or (dollar_quoted n v) m 0) dollar_sign) (tag_at n v)
    ∙ ap (λ c. eqb c dollar_sign) here

front : (n : ℕ) (v : List ℕ) → tag_end (dollar_quoted n v) + 1 ≡ length (delimiter_of n)
front n v = omega (arith, tag_at n v, delimiter_of_len n)

delimiter_at : (n : ℕ) (v : List ℕ) → opening_delimiter (dollar_quoted n v) ≡ delimiter_of n
delimiter_at n v = ap (λ m. take m (dollar_quoted n v)) (front n v)
    ∙ take-append_seam (delimiter_of n) (v ++ delimiter_of n)

rest_at : (n : ℕ) (v : List ℕ) → drop (tag_end (dollar_quoted n v) + 1) (dollar_quoted n v)
    ≡ v ++ delimiter_of n
rest_at n v = ap (λ m. drop m (dollar_quoted n v)) (front n v)
    ∙ drop-append_seam (delimiter_of n) (v ++ delimiter_of n)

closing_at : (n : ℕ) (v : List ℕ) → delimiter_fits v n ≡ true
    → delimiter_end (dollar_quoted n v) ≡ Some (length v + length (delimiter_of n))
closing_at n v t =
    ap (λ d. find_end d (drop (tag_end (dollar_quoted n v) + 1) (dollar_quoted n v)))
    (delimiter_at n v)
    ∙ ap (find_end (delimiter_of n)) (rest_at n v)
    ∙ found_at (find_end (delimiter_of n) (v ++ delimiter_of n))
    (length v + length (delimiter_of n)) t

text_len : (n : ℕ) (v : List ℕ) → length (dollar_quoted n v)
    ≡ length (delimiter_of n) + (length v + length (delimiter_of n))
text_len n v = length-append (delimiter_of n) (v ++ delimiter_of n)
    ∙ ap (λ m. length (delimiter_of n) + m) (length-append v (delimiter_of n))

dollar_lexeme : (n : ℕ) (v : List ℕ) → delimiter_fits v n ≡ true
    → dollar (dollar_quoted n v)
    ≡ literal_until (DollarQuotedString true) (length (dollar_quoted n v))
dollar_lexeme n v t =
    let u = dollar_quoted n v in
    let string : dollar u ≡ dollar_string u = rw (opens_at n v) refl in
    let end : end_or_text_end u (tag_end u + 1) (delimiter_end u) ≡ length u =
    ap (end_or_text_end u (tag_end u + 1)) (closing_at n v t)
    ∙ ap (λ m. m + (length v + length (delimiter_of n))) (front n v) ∙ sym (text_len n v) in
    string
    ∙ ap (λ o. literal_until (DollarQuotedString (is_some o))
    (end_or_text_end u (tag_end u + 1) (delimiter_end u))) (closing_at n v t)
    ∙ ap (literal_until (DollarQuotedString true)) end

starts_dollar : (u : List ℕ) → get_or u 0 0 ≡ dollar_sign → lexeme_at Standard true u ≡ dollar u
unfolding token_form
starts_dollar u e = rw e refl

pub dollar_token : (n : ℕ) (v : List ℕ) → delimiter_fits v n ≡ true
    → lexeme_at Standard true (dollar_quoted n v)
    ≡ literal_until (DollarQuotedString true) (length (dollar_quoted n v))
dollar_token n v t = starts_dollar (dollar_quoted n v) refl ∙ dollar_lexeme n v t

-- the text between the delimiters is the value
strip_dollar : (n : ℕ) (v : List ℕ)
    → strip_ends (tag_end (dollar_quoted n v) + 1) (dollar_quoted n v) ≡ v
strip_dollar n v =
    let d = length (delimiter_of n) in
    let len : length (dollar_quoted n v) - (d + d) ≡ length v = omega (arith, text_len n v) in
    ap (λ m. strip_ends m (dollar_quoted n v)) (front n v)
    ∙ ap (λ m. take m (drop d (dollar_quoted n v))) len
    ∙ ap (take (length v)) (drop-append_seam (delimiter_of n) (v ++ delimiter_of n))
    ∙ take-append_seam v (delimiter_of n)

pub dollar_value : (v : List ℕ) → value_of (dollar_constant v) ≡ Some v
dollar_value v =
    let n = shortest_tag v in
    let is = dollar_token n v (tag_fits v) in
    ap (λ ts. value_of_tokens ts (dollar_constant v))
    (one_token Standard dollar_sign (tag_then n (dollar_sign ∷ [])
    ++ (v ++ delimiter_of n)) (ap (λ (x : Lexeme). x.end) is))
    ∙ ap (λ (x : Lexeme). value_of_kind x.kind (dollar_constant v)) is
    ∙ ap Some (strip_dollar n v)

pub dollar_is_token : (v : List ℕ)
    → IsOneToken (kinds.Literal (DollarQuotedString true)) (dollar_constant v)
dollar_is_token v =
    let n = shortest_tag v in
    token_is dollar_sign (tag_then n (dollar_sign ∷ []) ++ (v ++ delimiter_of n))
    (literal_until (DollarQuotedString true) (length (dollar_constant v)))
    (dollar_token n v (tag_fits v)) refl
