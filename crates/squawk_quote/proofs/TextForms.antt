-- A text that is one token with a value is a value between quotes, or between delimiters.
use Rattle.std.proofs.Common.{◌≡◌, ℕ, zero, suc, ◌+◌, ◌-◌, ◌≤◌, Bool, true, false, List, [], ◌∷◌, length, get_or, Option, Some, None, unwrap_or, is_some, refl, sym, ap, subst, ◌∙◌, ◌&&◌, eqb, cond, arith}
use Rattle.std.proofs.lemmas.Bool.Decides.{nat_tests}
use Rattle.squawk_lexer.specs.declared.forms.TokenForm.{TokenForm}
use Rattle.squawk_lexer.specs.declared.forms.TokenForm.TheVariants.{Whitespace, LineComment, BlockComment, String, QuotedIdent, Word, Dollar, Number, DotDot, Fraction, Psql, Symbol}
use Rattle.squawk_lexer.specs.declared.token.Strings.TheVariants.{Standard}
use Rattle.squawk_lexer.specs.declared.token.Token.{Token}
use Rattle.squawk_lexer.specs.declared.token.TokenKind.TheVariants as kinds
use Rattle.squawk_lexer.specs.Classes.{is_whitespace, is_ident_start, is_digit, apostrophe, quotation_mark, dollar_sign, backslash, minus, slash, asterisk, dot, byte_order_mark}
use Rattle.squawk_lexer.specs.Cut.{tokens_from}
use Rattle.squawk_lexer.specs.Kind.{Lexeme, lexeme_until}
use Rattle.squawk_lexer.specs.Laws.{TokensProgress, TokensWithin}
use Rattle.squawk_lexer.specs.Quoted.{quoted_len, is_terminated}
use Rattle.squawk_lexer.specs.Token.{token_form, lexeme_of_form, lexeme_of, lexeme_at, token_at}
use Rattle.squawk_quote.specs.ValueForms.{value_form, form_of_tokens, form_of_text, IsQuoted}
use Rattle.squawk_quote.specs.declared.values.ValueForm.{ValueForm}
use Rattle.squawk_quote.specs.declared.values.ValueForm.TheVariants as form
use Rattle.squawk_quote.proofs.FormLaws.{token_form_of, form_of_lexeme, string_form, ident_form}
use Rattle.squawk_quote.proofs.SpellingLaws.{one_spelling}

-- ---- the first characters of a form

-- a chain of the tests of a token's form
abbrev chain : (a b c d e f g h i j k : Bool) → TokenForm
chain a b c d e f g h i j k =
    cond a Whitespace (cond b LineComment (cond c BlockComment (cond d String (cond e QuotedIdent
    (cond f Word (cond g Dollar (cond h Number (cond i DotDot (cond j Fraction (cond k Psql
    Symbol))))))))))

-- the test that a form passed: its first character is the one that begins the form
abbrev passed : (string ident dollar : Bool) → TokenForm → Bool
passed s i d String = s
passed s i d QuotedIdent = i
passed s i d Dollar = d
passed s i d _ = true

-- the form that the chain yields passed its test
chain_passes : (a b c d e f g h i j k : Bool) → passed d e g (chain a b c d e f g h i j k) ≡ true
chain_passes true b c d e f g h i j k = refl
chain_passes false true c d e f g h i j k = refl
chain_passes false false true d e f g h i j k = refl
chain_passes false false false true e f g h i j k = refl
chain_passes false false false false true f g h i j k = refl
chain_passes false false false false false true g h i j k = refl
chain_passes false false false false false false true h i j k = refl
chain_passes false false false false false false false true i j k = refl
chain_passes false false false false false false false false true j k = refl
chain_passes false false false false false false false false false true k = refl
chain_passes false false false false false false false false false false true = refl
chain_passes false false false false false false false false false false false = refl

pub same : (c d : ℕ) → eqb c d ≡ true → c ≡ d
same c d t = grind (arith, nat_tests)

-- the same of the form of a token by its first character
abbrev first_passed : ℕ → TokenForm → Bool
first_passed c f = passed (eqb c apostrophe) (eqb c quotation_mark) (eqb c dollar_sign) f

form_passes : (c d : ℕ) → first_passed c (token_form c d) ≡ true
unfolding token_form
form_passes c d = chain_passes (is_whitespace c) (eqb c minus && eqb d minus)
    (eqb c slash && eqb d asterisk) (eqb c apostrophe) (eqb c quotation_mark) (is_ident_start c)
    (eqb c dollar_sign) (is_digit c) (eqb c dot && eqb d dot) (eqb c dot && is_digit d)
    (eqb c backslash)

string_first : (c d : ℕ) → token_form c d ≡ String → c ≡ apostrophe
string_first c d is = same c apostrophe (ap (first_passed c) (sym is) ∙ form_passes c d)

ident_first : (c d : ℕ) → token_form c d ≡ QuotedIdent → c ≡ quotation_mark
ident_first c d is = same c quotation_mark (ap (first_passed c) (sym is) ∙ form_passes c d)

pub dollar_first : (c d : ℕ) → token_form c d ≡ Dollar → c ≡ dollar_sign
dollar_first c d is = same c dollar_sign (ap (first_passed c) (sym is) ∙ form_passes c d)

-- ---- a text that is one token

-- the text is one token of the form
pub record IsWhole (c : ℕ) (cs : List ℕ) (v : ValueForm) : Type 0 where
  pub form_is : token_form c (get_or cs 0 0) ≡ token_form_of v
  pub kind_is : value_form (lexeme_of_form Standard (token_form_of v) (c ∷ cs)).kind ≡ Some v
  pub end_is : (lexeme_of_form Standard (token_form_of v) (c ∷ cs)).end ≡ length (c ∷ cs)

one_token_left : (t : Token) (ts : List Token) (v : ValueForm) → form_of_tokens (t ∷ ts) ≡ Some v
    → (ts ≡ []) × (value_form t.kind ≡ Some v)
one_token_left t [] v e = (refl, e)
one_token_left t (next ∷ ts) v e = absurd (cc)

none_left : (n : ℕ) (cs : List ℕ) → tokens_from Standard n false cs ≡ [] → length cs ≤ n
none_left n [] e = omega arith
none_left zero (c ∷ cs) e = absurd (cc)
none_left (suc n) (c ∷ cs) e = let h = none_left n cs e in omega (arith, h)

no_mark : (c : ℕ) (cs : List ℕ) (v : ValueForm)
    → value_form (lexeme_at Standard true (c ∷ cs)).kind ≡ Some v
    → lexeme_at Standard true (c ∷ cs) ≡ lexeme_of Standard (c ∷ cs)
no_mark c cs v e = by (eqb c byte_order_mark) e
  where
    by : (b : Bool) → value_form (cond b (lexeme_until kinds.Whitespace 1)
        (lexeme_of Standard (c ∷ cs))).kind ≡ Some v
        → cond b (lexeme_until kinds.Whitespace 1) (lexeme_of Standard (c ∷ cs))
        ≡ lexeme_of Standard (c ∷ cs)
    by true e = absurd (cc)
    by false e = refl

pub is_whole : TokensProgress → TokensWithin → (c : ℕ) (cs : List ℕ) (v : ValueForm)
    → form_of_text (c ∷ cs) ≡ Some v → IsWhole c cs v
is_whole progress within c cs v e =
    let u = c ∷ cs in
    let x = lexeme_at Standard true u in
    let left = one_token_left (token_at Standard true u)
    (tokens_from Standard (x.end - 1) false cs) v e in
    let is : x ≡ lexeme_of Standard u = no_mark c cs v left.1 in
    let form_is : token_form c (get_or cs 0 0) ≡ token_form_of v =
    form_of_lexeme (token_form c (get_or cs 0 0)) u v
    (ap (λ (y : Lexeme). value_form y.kind) (sym is) ∙ left.1) in
    let by_form : x ≡ lexeme_of_form Standard (token_form_of v) u =
    is ∙ ap (λ f. lexeme_of_form Standard f u) form_is in
    let some : 1 ≤ x.end = progress Standard true u (omega arith) in
    let most : x.end ≤ length u = within Standard true u (omega arith) in
    let least : length cs ≤ x.end - 1 = none_left (x.end - 1) cs left.0 in
    record {
      form_is = form_is;
      kind_is = ap (λ (y : Lexeme). value_form y.kind) (sym by_form) ∙ left.1;
      end_is = ap (λ (y : Lexeme). y.end) (sym by_form) ∙ omega (arith, some, most, least);
    }

-- ---- a value between quotes

quoted_all : (o : Option ℕ) (len : ℕ) → is_some o ≡ true → 1 + unwrap_or o len ≡ suc len
    → o ≡ Some len
quoted_all None len t e = absurd (cc)
quoted_all (Some n) len t e = ap Some (omega (arith, e))

quoted_by : (q c : ℕ) (cs : List ℕ) → c ≡ q → is_terminated false q (c ∷ cs) 1 ≡ true
    → 1 + unwrap_or (quoted_len false q cs) (length cs) ≡ length (c ∷ cs) → IsQuoted q (c ∷ cs)
quoted_by q c cs is t e =
    subst (λ x. IsQuoted q (x ∷ cs)) (sym is) (sym (one_spelling q cs
    (quoted_all (quoted_len false q cs) (length cs) t
    (e ∙ (let len : length (c ∷ cs) ≡ suc (length cs) = omega arith in len)))))

pub string_is_quoted : TokensProgress → TokensWithin → (u : List ℕ)
    → form_of_text u ≡ Some form.String → IsQuoted apostrophe u
string_is_quoted progress within [] e = absurd (cc)
string_is_quoted progress within (c ∷ cs) e =
    let w = is_whole progress within c cs form.String e in
    quoted_by apostrophe c cs (string_first c (get_or cs 0 0) w.form_is)
    (string_form (is_terminated false apostrophe (c ∷ cs) 1) form.String w.kind_is).1 w.end_is

pub ident_is_quoted : TokensProgress → TokensWithin → (u : List ℕ)
    → form_of_text u ≡ Some form.QuotedIdent → IsQuoted quotation_mark u
ident_is_quoted progress within [] e = absurd (cc)
ident_is_quoted progress within (c ∷ cs) e =
    let w = is_whole progress within c cs form.QuotedIdent e in
    quoted_by quotation_mark c cs (ident_first c (get_or cs 0 0) w.form_is)
    (ident_form (is_terminated false quotation_mark (c ∷ cs) 1) form.QuotedIdent w.kind_is).1
    w.end_is
