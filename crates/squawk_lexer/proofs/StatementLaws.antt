-- After a semicolon a text is cut by itself.
use Rattle.std.proofs.Common.{◌≡◌, ℕ, zero, suc, ◌+◌, ◌<◌, ◌≤◌, Bool, true, false, List, [], ◌∷◌, ◌++◌, length, get_or, drop, length-drop, length-append, refl, sym, ap, subst, ◌∙◌, inl, inr, ◌⊎◌, ◌&&◌, eqb, cond, arith}
use Rattle.std.proofs.lemmas.Bool.{cases_lt, cases_eq, false≢true}
use Rattle.std.proofs.lemmas.Bool.Decides.{nat_tests}
use Rattle.std.proofs.lemmas.List.{take-append-le, drop-append-le, get_or-drop, get_or_append_left}
use Rattle.squawk_lexer.specs.declared.token.Token.{Token}
use Rattle.squawk_lexer.specs.declared.token.TokenKind.TheVariants as kinds
use Rattle.squawk_lexer.specs.declared.token.Strings.{Strings}
use Rattle.squawk_lexer.specs.declared.forms.TokenForm.{TokenForm}
use Rattle.squawk_lexer.specs.declared.forms.TokenForm.TheVariants.{Whitespace, LineComment, BlockComment, String, QuotedIdent, Word, Dollar, Number, DotDot, Fraction, Psql, Symbol}
use Rattle.squawk_lexer.specs.Kind.{Lexeme, lexeme_until}
use Rattle.squawk_lexer.specs.Text.{utf8_len}
use Rattle.squawk_lexer.specs.Classes.{byte_order_mark}
use Rattle.squawk_lexer.specs.Numbers.{number, fractional}
use Rattle.squawk_lexer.specs.Dollar.{dollar}
use Rattle.squawk_lexer.specs.PsqlWords.{is_among, query_ending_words}
use Rattle.squawk_lexer.specs.Psql.{psql, command_word as command_word, command_end}
use Rattle.squawk_lexer.specs.Symbols.{symbol}
use Rattle.squawk_lexer.specs.Token.{token_form, prefix_of, lexeme_of_form, lexeme_of, lexeme_at, token_at}
use Rattle.squawk_lexer.specs.Cut.{tokens_from}
use Rattle.squawk_lexer.specs.LookAhead.{Agrees, EndsWithSemi, StatementsStandAlone}
use Rattle.squawk_lexer.proofs.TokenLaws.{lexeme_at_some, command_plain, is_semi, IsOther, either_other, symbol_other, fractional_other, number_other, prefix_other, dollar_other}
use Rattle.squawk_lexer.proofs.WithinLaws.{tokens_within}
use Rattle.squawk_lexer.proofs.CutLaws.{tokens_first, tokens_none}
use Rattle.squawk_lexer.proofs.Steps.{within_read, and_false}
use Rattle.squawk_lexer.proofs.FormSteps.{begin_psql}
use Rattle.squawk_lexer.proofs.AheadTokens.{token_from, lexeme_next}

-- ---- what a semicolon begins with

-- The text begins with `;` (59), or with a backslash (92) and `;`.
abbrev BeginsSemi : List ℕ → Type 0
BeginsSemi u = (get_or u 0 0 ≡ 59) ⊎ ((get_or u 0 0 ≡ 92) × (get_or u 1 0 ≡ 59))

-- A lexeme of another kind is not a semicolon.
unlike : (x : Lexeme) (A : Type 0) → IsOther x → x.kind ≡ kinds.Semi → A
unlike x A n e = absurd (false≢true (sym n.other ∙ ap is_semi e))

-- What a semicolon begins with: as a symbol, as a token of psql, of any form, and of any text.
symbol_semi : (c : ℕ) → symbol c ≡ kinds.Semi → c ≡ 59
symbol_semi c e =
    elim (cases_eq c 59) [
      | inl is ↦ is
      | inr is_not ↦ absurd (let other : eqb c 59 ≡ false =
          grind (arith, nat_tests) in false≢true (sym (symbol_other c other) ∙ ap is_semi e))
    ]

psql_semi : (u : List ℕ) → (psql u).kind ≡ kinds.Semi → get_or u 1 0 ≡ 59
psql_semi u e =
    elim (cases_eq (get_or u 1 0) 59) [
      | inl is ↦ is
      | inr is_not ↦ unlike (psql u) _
          (other (let t : eqb (get_or u 1 0) 59 ≡ false = grind (arith, nat_tests) in t)) e
    ]
  where
    other : eqb (get_or u 1 0) 59 ≡ false → IsOther (psql u)
    other t =
        either_other (eqb (get_or u 1 0) 92) (lexeme_until (kinds.PsqlCommand false) 2) _
        (record { real = refl; other = refl; plain = refl; known = refl })
        (rw t (either_other (eqb (get_or u 1 0) 58) (lexeme_until kinds.Colon 2)
        (lexeme_until (kinds.PsqlCommand (is_among query_ending_words (command_word u)))
        (command_end u)) (record { real = refl; other = refl; plain = refl; known = refl })
        (record {
          real = refl;
          other = refl;
          plain = command_plain (is_among query_ending_words (command_word u));
          known = refl;
        })))

form_semi : (strings : Strings) (s : TokenForm) (u : List ℕ)
    → token_form (get_or u 0 0) (get_or u 1 0) ≡ s → (lexeme_of_form strings s u).kind ≡ kinds.Semi
    → BeginsSemi u
form_semi strings Whitespace u r e = absurd (cc)
form_semi strings LineComment u r e = absurd (cc)
form_semi strings BlockComment u r e = absurd (cc)
form_semi strings String u r e = absurd (cc)
form_semi strings QuotedIdent u r e = absurd (cc)
form_semi strings Word u r e =
    unlike (lexeme_of_form strings Word u) _ (prefix_other
    (prefix_of (get_or u 0 0) (get_or u 1 0) (get_or u 2 0)) u) e
form_semi strings Dollar u r e = unlike (dollar u) _ (dollar_other u) e
form_semi strings Number u r e = unlike (number u) _ (number_other u) e
form_semi strings DotDot u r e = absurd (cc)
form_semi strings Fraction u r e = unlike (fractional u 1) _ (fractional_other u 1) e
form_semi strings Psql u r e = inr (begin_psql u (sym r), psql_semi u e)
form_semi strings Symbol u r e = inl (symbol_semi (get_or u 0 0) e)

lexeme_semi : (strings : Strings) (s : Bool) (u : List ℕ)
    → (lexeme_at strings s u).kind ≡ kinds.Semi → BeginsSemi u
lexeme_semi strings s u e = by (s && eqb (get_or u 0 0) byte_order_mark) e
  where
    by : (b : Bool) → (cond b (lexeme_until kinds.Whitespace 1) (lexeme_of strings u)).kind
        ≡ kinds.Semi → BeginsSemi u
    by true e = absurd (cc)
    by false e = form_semi strings (token_form (get_or u 0 0) (get_or u 1 0)) u refl e

-- A text that begins so has a semicolon as its first token.
semi_one : (strings : Strings) (s : Bool) (u : List ℕ) → get_or u 0 0 ≡ 59
    → lexeme_at strings s u ≡ lexeme_until kinds.Semi 1
unfolding token_form symbol
semi_one strings s u e = rw (e, and_false s) (ap (λ c. lexeme_until (symbol c) 1) e)

semi_two : (strings : Strings) (s : Bool) (u : List ℕ) → get_or u 0 0 ≡ 92 → get_or u 1 0 ≡ 59
    → lexeme_at strings s u ≡ lexeme_until kinds.Semi 2
unfolding token_form
semi_two strings s u e f = rw (e, f, and_false s) refl

-- What follows does not change that.
semi_same : (strings : Strings) (s : Bool) (a b : List ℕ) → 1 ≤ length a
    → (lexeme_at strings s a).kind ≡ kinds.Semi
    → lexeme_at strings s (a ++ b) ≡ lexeme_at strings s a
semi_same strings s a b some e = by (lexeme_semi strings s a e)
  where
    by : BeginsSemi a → lexeme_at strings s (a ++ b) ≡ lexeme_at strings s a
    by (inl semi) = semi_one strings s (a ++ b) (get_or_append_left a b 0 0 (omega arith) ∙ semi)
        ∙ sym (semi_one strings s a semi)
    by (inr (first, second)) =
        let two : 1 < length a = within_read a 1 (omega arith) in
        semi_two strings s (a ++ b) (get_or_append_left a b 0 0 (omega arith)
        ∙ first) (get_or_append_left a b 0 1 two ∙ second)
        ∙ sym (semi_two strings s a first second)

-- ---- tokens

-- The last token of a list is the last one after its first.
more_semi : (t : Token) (ts : List Token) → 1 ≤ length ts → EndsWithSemi (t ∷ ts) → EndsWithSemi ts
more_semi t [] h e = absurd (omega arith)
more_semi t (x ∷ ts) h e = e

-- The tokens of a and b together are those of a, then those of b by itself.
abbrev Stands : Strings → Bool → List ℕ → List ℕ → Type 0
Stands strings s a b = tokens_from strings 0 s (a ++ b)
    ≡ tokens_from strings 0 s a ++ tokens_from strings 0 false b

-- This holds where it holds after the first token, and that token stays the same.
first_stays : (strings : Strings) (s : Bool) (a b : List ℕ) → 1 ≤ length a
    → lexeme_at strings s (a ++ b) ≡ lexeme_at strings s a
    → Stands strings false (drop (lexeme_at strings s a).end a) b → Stands strings s a b
first_stays strings s a b some same more =
    let k = (lexeme_at strings s a).end in
    let within : k ≤ length a = tokens_within strings s a some in
    let token : token_at strings s (a ++ b) ≡ token_at strings s a =
    ap (λ (x : Lexeme). token_from x (a ++ b)) same
    ∙ ap (λ w. record {
      kind = (lexeme_at strings s a).kind;
      len = utf8_len w;
    }) (take-append-le k a b within) in
    let rest : drop (lexeme_at strings s (a ++ b)).end (a ++ b) ≡ drop k a ++ b =
    ap (λ (x : Lexeme). drop x.end (a ++ b)) same ∙ drop-append-le k a b within in
    tokens_first strings s (a ++ b) (omega (arith, length-append a b))
    ∙ ap (λ t. t ∷ tokens_from strings 0 false (drop (lexeme_at strings s (a ++ b)).end (a ++ b)))
    token
    ∙ ap (λ w. token_at strings s a ∷ tokens_from strings 0 false w) rest
    ∙ ap (λ ts. token_at strings s a ∷ ts) more
    ∙ sym (ap (λ ts. ts ++ tokens_from strings 0 false b) (tokens_first strings s a some))

-- It holds of an empty text.
none_stands : (strings : Strings) (w b : List ℕ) → length w ≡ 0 → Stands strings false w b
none_stands strings [] b h = refl
none_stands strings (c ∷ cs) b h = absurd (omega arith)

-- A text of one character whose last token is a semicolon is `;`.
lone_semi : (strings : Strings) (w : List ℕ) → length w ≡ 1
    → EndsWithSemi (tokens_from strings 0 false w) → get_or w 0 0 ≡ 59
lone_semi strings [] h e = absurd e
lone_semi strings (c ∷ d ∷ cs) h e = absurd (omega arith)
lone_semi strings (c ∷ []) h e = by (lexeme_semi strings false (c ∷ []) e)
  where
    by : BeginsSemi (c ∷ []) → c ≡ 59
    by (inl first) = first
    by (inr (first, second)) = absurd (omega arith)

-- A text with another one after it agrees with it.
longer : (n : ℕ) (a b : List ℕ) → n ≤ length a → Agrees n a (a ++ b)
longer n a b h = record { within = h; same = take-append-le n a b h }

-- A text that is not empty has a token.
some_tokens : (strings : Strings) (w : List ℕ) → 1 ≤ length w
    → 1 ≤ length (tokens_from strings 0 false w)
some_tokens strings w h = let e = ap length (tokens_first strings false w h) in omega (arith, e)

-- The law, from that of the text after the first token.
step : (strings : Strings) (s : Bool) (a b : List ℕ) → 1 ≤ length a
    → EndsWithSemi (tokens_from strings 0 s a)
    → (EndsWithSemi (tokens_from strings 0 false (drop (lexeme_at strings s a).end a))
    → Stands strings false (drop (lexeme_at strings s a).end a) b) → Stands strings s a b
step strings s a b some e behind = by (cases_lt 0 (length rest))
  where
    k : ℕ
    k = (lexeme_at strings s a).end

    rest : List ℕ
    rest = drop k a

    token : Token
    token = token_at strings s a

    within : k ≤ length a
    within = tokens_within strings s a some

    len : length a ≡ k + length rest
    len = omega (arith, length-drop k a, within)

    ends : EndsWithSemi (token ∷ tokens_from strings 0 false rest)
    ends = subst EndsWithSemi (tokens_first strings s a some) e

    same : 1 ≤ length rest → EndsWithSemi (tokens_from strings 0 false rest)
        → lexeme_at strings s (a ++ b) ≡ lexeme_at strings s a
    same more e = lexeme_next strings s k a
        (a ++ b) (longer (k + 1) a b (omega (arith, len))) (next (cases_lt 1 (length rest))) refl
      where
        next : (1 < length rest) ⊎ (length rest ≤ 1) → Agrees (k + 2) a (a ++ b)
            ⊎ (get_or a k 0 ≡ 59)
        next (inl more) = inl (longer (k + 2) a b (omega (arith, len)))
        next (inr one) =
            let lone : length rest ≡ 1 = omega arith in
            let at : get_or rest 0 0 ≡ get_or a k 0 = get_or-drop k a 0 0
            ∙ ap (λ n. get_or a n 0) (omega arith) in
            inr (sym at ∙ lone_semi strings rest lone e)

    by : (0 < length rest) ⊎ (length rest ≤ 0) → Stands strings s a b
    by (inr none) =
        let empty : length rest ≡ 0 = omega arith in
        let kind : token.kind ≡ kinds.Semi = subst
        (λ ts. EndsWithSemi (token ∷ ts)) (tokens_none strings false rest empty) ends in
        first_stays strings s a b some (semi_same strings s a b some kind)
        (none_stands strings rest b empty)
    by (inl more) =
        let e = more_semi token (tokens_from strings 0 false rest) (some_tokens strings rest more)
        ends in
        first_stays strings s a b some (same more e) (behind e)

-- By induction on the number of characters.
stands : (n : ℕ) (strings : Strings) (s : Bool) (a b : List ℕ) → length a ≤ n
    → EndsWithSemi (tokens_from strings 0 s a) → Stands strings s a b
stands n strings s [] b h e = absurd e
stands zero strings s (c ∷ cs) b h e = absurd (omega arith)
stands (suc n) strings s (c ∷ cs) b h e =
    let a = c ∷ cs in
    let k = (lexeme_at strings s a).end in
    step strings s a b (omega arith) e (stands n strings false (drop k a) b
    (omega (arith, length-drop k a, lexeme_at_some strings s a (omega arith))))

pub statements_stand_alone : StatementsStandAlone
statements_stand_alone strings s a b e = stands (length a) strings s a b (omega arith) e
