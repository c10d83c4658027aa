-- Which texts have a value: the form of a token by its kind.
use Rattle.std.proofs.Common.{◌≡◌, ℕ, ◌+◌, Bool, true, false, List, [], ◌∷◌, get_or, Option, Some, None, unwrap_or, is_some, refl, sym, ap, ◌∙◌, ◌&&◌, not, eqb, cond}
use Rattle.squawk_lexer.specs.declared.forms.StringPrefix.{StringPrefix}
use Rattle.squawk_lexer.specs.declared.forms.StringPrefix.TheVariants.{National, Bit, Byte, Escape, UnicodeString, UnicodeIdent, NoPrefix}
use Rattle.squawk_lexer.specs.declared.forms.TokenForm.{TokenForm}
use Rattle.squawk_lexer.specs.declared.forms.TokenForm.TheVariants.{Whitespace, LineComment, BlockComment, String, QuotedIdent, Word, Dollar, Number, DotDot, Fraction, Psql, Symbol}
use Rattle.squawk_lexer.specs.declared.token.Base.TheVariants.{Binary, Octal, Decimal, Hexadecimal}
use Rattle.squawk_lexer.specs.declared.token.LiteralKind.TheVariants.{Str, DollarQuotedString}
use Rattle.squawk_lexer.specs.declared.token.Strings.TheVariants.{Standard}
use Rattle.squawk_lexer.specs.declared.token.Token.{Token}
use Rattle.squawk_lexer.specs.declared.token.TokenKind.{TokenKind}
use Rattle.squawk_lexer.specs.declared.token.TokenKind.TheVariants as kinds
use Rattle.squawk_lexer.specs.Classes.{is_letter, apostrophe, quotation_mark, backslash, semicolon, colon, minus, slash, asterisk, dot, digit_0, letter_b, letter_o, letter_x, comma, open_paren, close_paren, open_bracket, close_bracket, open_curly, close_curly, at_sign, number_sign, tilde, question_mark, equals_sign, exclamation_mark, less_than, greater_than, ampersand, vertical_bar, plus, caret, percent_sign, backquote}
use Rattle.squawk_lexer.specs.Cut.{tokens}
use Rattle.squawk_lexer.specs.Dollar.{is_dollar_quote_start, delimiter_end, dollar_string}
use Rattle.squawk_lexer.specs.Kind.{Lexeme, lexeme_until}
use Rattle.squawk_lexer.specs.Numbers.{number, based_int, decimal_from, fractional, with_exponent, numeric, int, parameter}
use Rattle.squawk_lexer.specs.Runs.{digits_end, hex_digits_end, fraction_end, is_exponent_letter}
use Rattle.squawk_lexer.specs.Psql.{psql, command_word, command_end}
use Rattle.squawk_lexer.specs.PsqlWords.{is_among, query_ending_words}
use Rattle.squawk_lexer.specs.Quoted.{is_terminated}
use Rattle.squawk_lexer.specs.Symbols.{symbol}
use Rattle.squawk_lexer.specs.Token.{lexeme_of_form, lexeme_of_prefix}
use Rattle.squawk_quote.specs.ValueForms.{value_form, form_of_tokens, form_of_text, value_by}
use Rattle.squawk_quote.specs.Values.{value_of_kind, value_of_tokens, value_of}
use Rattle.squawk_quote.specs.declared.values.ValueForm.{ValueForm}
use Rattle.squawk_quote.specs.declared.values.ValueForm.TheVariants as form

-- ---- a value by its form

value_by_kind : (kind : TokenKind) (text : List ℕ)
    → value_of_kind kind text ≡ value_by (value_form kind) text
value_by_kind (kinds.Literal (Str true)) text = refl
value_by_kind (kinds.Literal (DollarQuotedString true)) text = refl
value_by_kind (kinds.QuotedIdent true false) text = refl
value_by_kind _ text = refl

value_by_tokens : (ts : List Token) (text : List ℕ)
    → value_of_tokens ts text ≡ value_by (form_of_tokens ts) text
value_by_tokens [] text = refl
value_by_tokens (t ∷ []) text = value_by_kind t.kind text
value_by_tokens (t ∷ next ∷ ts) text = refl

pub value_by_form : (text : List ℕ) → value_of text ≡ value_by (form_of_text text) text
value_by_form text = value_by_tokens (tokens Standard text) text

-- ---- the form of a token by the form of its value

abbrev pub token_form_of : ValueForm → TokenForm
token_form_of form.String = String
token_form_of form.QuotedIdent = QuotedIdent
token_form_of form.Dollar = Dollar

prefix_no_form : (p : StringPrefix) (u : List ℕ) → value_form (lexeme_of_prefix p u).kind ≡ None
prefix_no_form National u = refl
prefix_no_form Bit u = refl
prefix_no_form Byte u = refl
prefix_no_form Escape u = refl
prefix_no_form UnicodeString u = refl
prefix_no_form UnicodeIdent u = by (is_terminated false quotation_mark u 3)
  where
    by : (b : Bool) → value_form (kinds.QuotedIdent b true) ≡ None
    by true = refl
    by false = refl
prefix_no_form NoPrefix u = refl

fractional_no_form : (u : List ℕ) (i : ℕ) → value_form (fractional u i).kind ≡ None
fractional_no_form u i = by (is_exponent_letter (get_or u (fraction_end u i) 0))
  where
    by : (b : Bool) → value_form (cond b (with_exponent u (fraction_end u i))
        (numeric None u (fraction_end u i))).kind ≡ None
    by true = refl
    by false = refl

decimal_no_form : (u : List ℕ) (a : ℕ) → value_form (decimal_from u a).kind ≡ None
decimal_no_form u a = by (eqb (get_or u a 0) dot && not (eqb (get_or u (a + 1) 0) dot))
    (is_exponent_letter (get_or u a 0))
  where
    by : (b c : Bool) → value_form (cond b (fractional u (a + 1))
        (cond c (with_exponent u a) (int Decimal false u a))).kind ≡ None
    by true c = fractional_no_form u (a + 1)
    by false true = refl
    by false false = refl

number_no_form : (u : List ℕ) → value_form (number u).kind ≡ None
number_no_form u = by (eqb (get_or u 0 0) digit_0 && is_letter letter_b (get_or u 1 0))
    (eqb (get_or u 0 0) digit_0 && is_letter letter_o (get_or u 1 0))
    (eqb (get_or u 0 0) digit_0 && is_letter letter_x (get_or u 1 0))
  where
    by : (b c d : Bool) → value_form (cond b (based_int Binary u (digits_end u 2))
        (cond c (based_int Octal u (digits_end u 2))
        (cond d (based_int Hexadecimal u (hex_digits_end u 2))
        (decimal_from u (digits_end u 1))))).kind ≡ None
    by true c d = refl
    by false true d = refl
    by false false true = refl
    by false false false = decimal_no_form u (digits_end u 1)

psql_no_form : (u : List ℕ) → value_form (psql u).kind ≡ None
psql_no_form u = by (eqb (get_or u 1 0) backslash) (eqb (get_or u 1 0) semicolon)
    (eqb (get_or u 1 0) colon) (is_among query_ending_words (command_word u))
  where
    by : (b c d e : Bool) → value_form (cond b (lexeme_until (kinds.PsqlCommand false) 2)
        (cond c (lexeme_until kinds.Semi 2) (cond d (lexeme_until kinds.Colon 2)
        (lexeme_until (kinds.PsqlCommand e) (command_end u))))).kind ≡ None
    by true c d e = refl
    by false true d e = refl
    by false false true e = refl
    by false false false true = refl
    by false false false false = refl

-- a kind without a value
record NoForm (kind : TokenKind) : Type 0 where
  is : value_form kind ≡ None

row : (b : Bool) (x y : TokenKind) → value_form x ≡ None → NoForm y → NoForm (cond b x y)
row true x y p q = record { is = p }
row false x y p q = q

symbol_no_form : (c : ℕ) → NoForm (symbol c)
unfolding symbol
symbol_no_form c =
    row (eqb c semicolon) kinds.Semi _ refl (
    row (eqb c comma) kinds.Comma _ refl (
    row (eqb c open_paren) kinds.OpenParen _ refl (
    row (eqb c close_paren) kinds.CloseParen _ refl (
    row (eqb c open_bracket) kinds.OpenBracket _ refl (
    row (eqb c close_bracket) kinds.CloseBracket _ refl (
    row (eqb c open_curly) kinds.OpenCurly _ refl (
    row (eqb c close_curly) kinds.CloseCurly _ refl (
    row (eqb c at_sign) kinds.At _ refl (
    row (eqb c number_sign) kinds.Pound _ refl (
    row (eqb c tilde) kinds.Tilde _ refl (
    row (eqb c question_mark) kinds.Question _ refl (
    row (eqb c colon) kinds.Colon _ refl (
    row (eqb c equals_sign) kinds.Eq _ refl (
    row (eqb c exclamation_mark) kinds.Bang _ refl (
    row (eqb c less_than) kinds.Lt _ refl (
    row (eqb c greater_than) kinds.Gt _ refl (
    row (eqb c ampersand) kinds.And _ refl (
    row (eqb c vertical_bar) kinds.Or _ refl (
    row (eqb c plus) kinds.Plus _ refl (
    row (eqb c asterisk) kinds.Star _ refl (
    row (eqb c caret) kinds.Caret _ refl (
    row (eqb c percent_sign) kinds.Percent _ refl (
    row (eqb c backquote) kinds.Backtick _ refl (
    row (eqb c minus) kinds.Minus _ refl (
    row (eqb c slash) kinds.Slash _ refl (
    row (eqb c dot) kinds.Dot _ refl (
    record { is = refl })))))))))))))))))))))))))))

no_form_is : (x : Lexeme) (v : ValueForm) (A : Type 0) → value_form x.kind ≡ None
    → value_form x.kind ≡ Some v → A
no_form_is x v A none some = absurd (let clash : None ≡ Some v = sym none ∙ some in cc)

some_same : (v w : ValueForm) → ◌≡◌ {A = Option ValueForm} (Some v) (Some w) → v ≡ w
some_same v w e = ap (λ o. unwrap_or o v) e

pub string_form : (b : Bool) (v : ValueForm) → value_form (kinds.Literal (Str b)) ≡ Some v
    → (form.String ≡ v) × (b ≡ true)
string_form true v e = (some_same form.String v e, refl)
string_form false v e = absurd (cc)

pub ident_form : (b : Bool) (v : ValueForm) → value_form (kinds.QuotedIdent b false) ≡ Some v
    → (form.QuotedIdent ≡ v) × (b ≡ true)
ident_form true v e = (some_same form.QuotedIdent v e, refl)
ident_form false v e = absurd (cc)

pub dollar_form : (b : Bool) (v : ValueForm)
    → value_form (kinds.Literal (DollarQuotedString b)) ≡ Some v
    → (form.Dollar ≡ v) × (b ≡ true)
dollar_form true v e = (some_same form.Dollar v e, refl)
dollar_form false v e = absurd (cc)

pub form_of_lexeme : (f : TokenForm) (u : List ℕ) (v : ValueForm)
    → value_form (lexeme_of_form Standard f u).kind ≡ Some v → f ≡ token_form_of v
form_of_lexeme Whitespace u v e = absurd (cc)
form_of_lexeme LineComment u v e = absurd (cc)
form_of_lexeme BlockComment u v e = absurd (cc)
form_of_lexeme String u v e =
    ap token_form_of (string_form (is_terminated false apostrophe u 1) v e).0
form_of_lexeme QuotedIdent u v e =
    ap token_form_of (ident_form (is_terminated false quotation_mark u 1) v e).0
form_of_lexeme Word u v e =
    no_form_is (lexeme_of_form Standard Word u) v _ (prefix_no_form _ u) e
form_of_lexeme Dollar u v e = by (is_dollar_quote_start u) e
  where
    by : (b : Bool) → value_form (cond b (dollar_string u) (parameter u)).kind ≡ Some v
        → Dollar ≡ token_form_of v
    by true e = ap token_form_of (dollar_form (is_some (delimiter_end u)) v e).0
    by false e = absurd (cc)
form_of_lexeme Number u v e =
    no_form_is (number u) v _ (number_no_form u) e
form_of_lexeme DotDot u v e = absurd (cc)
form_of_lexeme Fraction u v e =
    no_form_is (fractional u 1) v _ (fractional_no_form u 1) e
form_of_lexeme Psql u v e = no_form_is (psql u) v _ (psql_no_form u) e
form_of_lexeme Symbol u v e =
    no_form_is (lexeme_of_form Standard Symbol u) v _ (symbol_no_form (get_or u 0 0)).is e
