-- Every token has at least one character. Which forms have the kinds `Eof`, `Semi`, trivia and
-- `Unknown`.
use Rattle.std.proofs.Common.{◌≡◌, ℕ, zero, suc, ◌+◌, ◌<◌, ◌≤◌, Bool, true, false, List, [], ◌∷◌, length, get_or, take, None, refl, sym, ap, ◌∙◌, ◌&&◌, eqb, cond, arith, Option, Some}
use Rattle.std.proofs.lemmas.Bool.{false≢true}
use Rattle.std.proofs.lemmas.Bool.Decides.{nat_tests}
use Rattle.std.proofs.lemmas.List.Sums.{sum_by-cons}
use Rattle.std.proofs.lemmas.Str.{len_utf8_bounds}
use Rattle.std.specs.Char.{len_utf8}
use Rattle.squawk_lexer.specs.Text.{utf8_len}
use Rattle.squawk_lexer.specs.declared.token.Strings.{Strings}
use Rattle.squawk_lexer.specs.declared.forms.TokenForm.{TokenForm}
use Rattle.squawk_lexer.specs.declared.forms.TokenForm.TheVariants.{Whitespace, LineComment, BlockComment, String, QuotedIdent, Word, Dollar, Number, DotDot, Fraction, Psql, Symbol}
use Rattle.squawk_lexer.specs.declared.forms.StringPrefix.{StringPrefix}
use Rattle.squawk_lexer.specs.declared.forms.StringPrefix.TheVariants.{National, Bit, Byte, Escape, UnicodeString, UnicodeIdent, NoPrefix}
use Rattle.squawk_lexer.specs.Classes.{is_ident_start, is_digit, byte_order_mark, is_blank}
use Rattle.squawk_lexer.specs.Runs.{run_end, junk_end, digits_end, hex_digits_end, exponent_end, is_exponent_letter, is_sign, fraction_end, line_end}
use Rattle.squawk_lexer.specs.Kind.{Lexeme, lexeme_until, literal_until}
use Rattle.squawk_lexer.specs.declared.token.Base.TheVariants.{Binary, Octal, Decimal, Hexadecimal}
use Rattle.squawk_lexer.specs.Numbers.{number, decimal_from, fractional, with_exponent, numeric, int, based_int, parameter}
use Rattle.squawk_lexer.specs.Dollar.{is_dollar_quote_start, dollar_string, dollar}
use Rattle.squawk_lexer.specs.PsqlWords.{is_among, query_ending_words, pipe_words, option_words, takes_line}
use Rattle.squawk_lexer.specs.PsqlParts.{arguments_end, marked_len_at}
use Rattle.squawk_lexer.specs.Psql.{psql, command_word, word_end, options_end, output_start, output_end, command_end}
use Rattle.squawk_lexer.specs.Symbols.{symbol}
use Rattle.squawk_lexer.specs.Token.{token_form, prefix_of, lexeme_of_form, lexeme_of_prefix, lexeme_of, lexeme_at, token_at}
use Rattle.squawk_lexer.specs.declared.token.LiteralKind.{LiteralKind}
use Rattle.squawk_lexer.specs.declared.token.TokenKind.{TokenKind}
use Rattle.squawk_lexer.specs.declared.token.TokenKind.TheVariants as kinds
use Rattle.squawk_lexer.specs.Cut.{is_trivia}
use Rattle.squawk_lexer.specs.Laws.{is_unknown}
use Rattle.squawk_lexer.proofs.Steps.{drop_read}
use Rattle.squawk_lexer.proofs.FormSteps.{form_whitespace}

-- The parts of a number end at or after their start.
pub junk_on : (u : List ℕ) (i : ℕ) → i ≤ junk_end u i
junk_on u i = by (is_ident_start (get_or u i 0)) refl
  where
    by : (b : Bool) → is_ident_start (get_or u i 0) ≡ b → i ≤ junk_end u i
    by true e = rw e (omega arith)
    by false e = rw e (omega arith)

pub exponent_on : (u : List ℕ) (i : ℕ) → i + 1 ≤ exponent_end u i
exponent_on u i = by (is_sign (get_or u (i + 1) 0)
    && is_digit (get_or u (i + 2) 0)) (is_digit (get_or u (i + 1) 0)) refl refl
  where
    by : (b d : Bool) → (is_sign (get_or u (i + 1) 0) && is_digit (get_or u (i + 2) 0)) ≡ b
        → is_digit (get_or u (i + 1) 0) ≡ d → i + 1 ≤ exponent_end u i
    by true d e f = rw e (omega arith)
    by false true e f = rw (e, f) (omega arith)
    by false false e f = rw (e, f) (omega arith)

pub fraction_on : (u : List ℕ) (i : ℕ) → i ≤ fraction_end u i
fraction_on u i = by (is_digit (get_or u i 0)) refl
  where
    by : (b : Bool) → is_digit (get_or u i 0) ≡ b → i ≤ fraction_end u i
    by true e = rw e (omega arith)
    by false e = rw e (omega arith)

pub with_exponent_on : (u : List ℕ) (i : ℕ) → i ≤ (with_exponent u i).end
with_exponent_on u i = omega (arith, exponent_on u i, junk_on u (exponent_end u i))

pub fractional_on : (u : List ℕ) (i : ℕ) → i ≤ (fractional u i).end
fractional_on u i = by (is_exponent_letter (get_or u (fraction_end u i) 0)) refl
  where
    by : (b : Bool) → is_exponent_letter (get_or u (fraction_end u i) 0) ≡ b
        → i ≤ (fractional u i).end
    by true e = rw e (omega (arith, fraction_on u i, with_exponent_on u (fraction_end u i)))
    by false e = rw e (omega (arith, fraction_on u i, junk_on u (fraction_end u i)))

-- Of two lexemes, the chosen one ends at or after n where both do.
either_on : (b : Bool) (x y : Lexeme) (n : ℕ) → n ≤ x.end → n ≤ y.end → n ≤ (cond b x y).end
either_on true x y n p q = p
either_on false x y n p q = q

-- The order is transitive.
le_on : (a b c : ℕ) → a ≤ b → b ≤ c → a ≤ c
le_on a b c p q = omega arith

-- Numbers, words and prefixed strings have at least one character.
pub decimal_on : (u : List ℕ) (a : ℕ) → a ≤ (decimal_from u a).end
decimal_on u a =
    either_on _ (fractional u (a + 1)) _ a (le_on a (a + 1) _ (omega arith)
    (fractional_on u (a + 1)))
    (either_on _ (with_exponent u a) (int Decimal false u a) a (with_exponent_on u a) (junk_on u a))

pub number_on : (u : List ℕ) → 1 ≤ (number u).end
number_on u =
    either_on _ (based_int Binary u (digits_end u 2)) _ 1
    (le_on 1 (digits_end u 2) _ (omega arith) (junk_on u (digits_end u 2)))
    (either_on _ (based_int Octal u (digits_end u 2)) _ 1
    (le_on 1 (digits_end u 2) _ (omega arith) (junk_on u (digits_end u 2)))
    (either_on _ (based_int Hexadecimal u (hex_digits_end u 2)) (decimal_from u (digits_end u 1)) 1
    (le_on 1 (hex_digits_end u 2) _ (omega arith) (junk_on u (hex_digits_end u 2)))
    (le_on 1 (digits_end u 1) _ (omega arith) (decimal_on u (digits_end u 1)))))

pub prefix_on : (s : StringPrefix) (u : List ℕ) → 1 ≤ (lexeme_of_prefix s u).end
prefix_on National u = omega arith
prefix_on Bit u = omega arith
prefix_on Byte u = omega arith
prefix_on Escape u = omega arith
prefix_on UnicodeString u = omega arith
prefix_on UnicodeIdent u = omega arith
prefix_on NoPrefix u = omega arith

-- Of two ends, the chosen one is at or after n where both are.
later : (b : Bool) (x y n : ℕ) → n ≤ x → n ≤ y → n ≤ cond b x y
later true x y n p q = p
later false x y n p q = q

-- The parts of a psql command end at or after their start.
pub options_on : (u : List ℕ) (i : ℕ) (o : Option ℕ) → i ≤ options_end u i o
options_on u i None = omega arith
options_on u i (Some n) = omega arith

pub output_start_on : (b : Bool) (u : List ℕ) (i : ℕ) → i ≤ output_start b u i
output_start_on b u i =
    later (b && eqb (get_or u i 0) 40) (options_end u i (marked_len_at u i)) i i
    (options_on u i (marked_len_at u i)) (omega arith)

pub output_end_on : (u : List ℕ) (p : ℕ) → p ≤ output_end u p
output_end_on u p =
    later (eqb (get_or u p 0) 124) (line_end u p) (arguments_end u p) p (omega arith) (omega arith)

pub command_on : (u : List ℕ) → 1 ≤ command_end u
command_on u =
    let i = run_end is_blank u (word_end u) in
    let p = output_start (is_among option_words (command_word u)) u i in
    later (takes_line (command_word u)) (line_end u (word_end u)) _ 1 (omega arith)
    (later (is_among pipe_words (command_word u)) (output_end u p) (arguments_end u (word_end u)) 1
    (omega (arith, output_end_on u p, output_start_on (is_among option_words (command_word u)) u i))
    (omega arith))

pub psql_on : (u : List ℕ) → 1 ≤ (psql u).end
psql_on u =
    either_on (eqb (get_or u 1 0) 92) (lexeme_until (kinds.PsqlCommand false) 2) _ 1 (omega arith)
    (either_on (eqb (get_or u 1 0) 59) (lexeme_until kinds.Semi 2) _ 1 (omega arith)
    (either_on (eqb (get_or u 1 0) 58) (lexeme_until kinds.Colon 2)
    (lexeme_until (kinds.PsqlCommand (is_among query_ending_words (command_word u)))
    (command_end u)) 1 (omega arith) (command_on u)))

-- The lexeme of each form has at least one character.
form_on : (strings : Strings) (s : TokenForm) (u : List ℕ) → 0 < length u
    → s ≡ token_form (get_or u 0 0) (get_or u 1 0) → 1 ≤ (lexeme_of_form strings s u).end
form_on strings Whitespace u h e =
    rw (drop_read u 0 h, form_whitespace (get_or u 0 0) (get_or u 1 0) e) (omega arith)
form_on strings LineComment u h e = omega arith
form_on strings BlockComment u h e = omega arith
form_on strings String u h e = omega arith
form_on strings QuotedIdent u h e = omega arith
form_on strings Word u h e = prefix_on (prefix_of (get_or u 0 0) (get_or u 1 0) (get_or u 2 0)) u
form_on strings Dollar u h e =
    either_on (is_dollar_quote_start u) (dollar_string u) (parameter u) 1 (omega arith)
    (omega (arith, junk_on u (run_end is_digit u 1)))
form_on strings Number u h e = number_on u
form_on strings DotDot u h e = omega arith
form_on strings Fraction u h e = fractional_on u 1
form_on strings Psql u h e = psql_on u
form_on strings Symbol u h e = omega arith

-- A token has at least one character,
pub lexeme_at_some : (strings : Strings) (s : Bool) (u : List ℕ) → 0 < length u
    → 0 < (lexeme_at strings s u).end
lexeme_at_some strings s u h = by (s && eqb (get_or u 0 0) byte_order_mark) refl
  where
    by : (b : Bool) → (s && eqb (get_or u 0 0) byte_order_mark) ≡ b
        → 0 < (lexeme_at strings s u).end
    by true e = rw e (omega arith)
    by false e = rw e (form_on strings (token_form (get_or u 0 0) (get_or u 1 0)) u h refl)

-- and so at least one byte.
pub token_positive : (strings : Strings) (s : Bool) (u : List ℕ) → 0 < length u
    → 0 < (token_at strings s u).len
token_positive strings s u h = some (lexeme_at strings s u).end u (lexeme_at_some strings s u h) h
  where
    some : (n : ℕ) (u : List ℕ) → 0 < n → 0 < length u → 0 < utf8_len (take n u)
    some n [] p h = absurd (omega arith)
    some zero (c ∷ cs) p h = absurd (omega arith)
    some (suc n) (c ∷ cs) p h = omega (arith, sum_by-cons len_utf8 c (take n cs), len_utf8_bounds c)

-- ---- kinds that few forms have

-- Whether a kind is `Eof`.
abbrev is_eof : TokenKind → Bool
is_eof kinds.Eof = true
is_eof _ = false

-- Whether a kind is `Semi`.
abbrev pub is_semi : TokenKind → Bool
is_semi kinds.Semi = true
is_semi _ = false

-- A lexeme that is not `Eof`.
record IsReal (x : Lexeme) : Type 0 where
  real : is_eof x.kind ≡ false

-- A lexeme that is neither `Eof` nor `Semi`, no trivia, and not `Unknown`.
pub record IsOther (x : Lexeme) : Type 0 where
  pub real : is_eof x.kind ≡ false
  pub other : is_semi x.kind ≡ false
  pub plain : is_trivia x.kind ≡ false
  pub known : is_unknown x.kind ≡ false

-- A psql command is not trivia.
pub command_plain : (b : Bool) → is_trivia (kinds.PsqlCommand b) ≡ false
command_plain true = refl
command_plain false = refl

-- A test that the kinds of two lexemes fail is failed by that of the chosen one.
pub either_kind : (p : TokenKind → Bool) (b : Bool) (x y : Lexeme) → p x.kind ≡ false
    → p y.kind ≡ false → p (cond b x y).kind ≡ false
either_kind p true x y f g = f
either_kind p false x y f g = g

-- Of two lexemes that are not `Eof`, or are of another kind, so is the chosen one.
either_real : (b : Bool) (x y : Lexeme) → IsReal x → IsReal y → IsReal (cond b x y)
either_real true x y p q = p
either_real false x y p q = q

pub either_other : (b : Bool) (x y : Lexeme) → IsOther x → IsOther y → IsOther (cond b x y)
either_other true x y p q = p
either_other false x y p q = q

-- No symbol is `Eof`, and only `;` (59) is `Semi`.
symbol_real : (c : ℕ) → is_eof (symbol c) ≡ false
unfolding symbol
symbol_real c = grind (arith, nat_tests)

pub symbol_other : (c : ℕ) → eqb c 59 ≡ false → is_semi (symbol c) ≡ false
unfolding symbol
symbol_other c e = grind (arith, nat_tests)

-- Literals, numbers, words and tokens at `$` are of other kinds.
literal_other : (k : LiteralKind) (n : ℕ) → IsOther (literal_until k n)
literal_other k n = record { real = refl; other = refl; plain = refl; known = refl }

pub fractional_other : (u : List ℕ) (i : ℕ) → IsOther (fractional u i)
fractional_other u i =
    either_other (is_exponent_letter (get_or u (fraction_end u i) 0))
    (with_exponent u (fraction_end u i)) (numeric None u (fraction_end u i)) (literal_other _ _)
    (literal_other _ _)

decimal_other : (u : List ℕ) (a : ℕ) → IsOther (decimal_from u a)
decimal_other u a =
    either_other _ (fractional u (a + 1)) _ (fractional_other u (a + 1))
    (either_other _ (with_exponent u a) (int Decimal false u a) (literal_other _ _)
    (literal_other _ _))

pub number_other : (u : List ℕ) → IsOther (number u)
number_other u =
    either_other _ (based_int Binary u (digits_end u 2)) _ (literal_other _ _)
    (either_other _ (based_int Octal u (digits_end u 2)) _ (literal_other _ _)
    (either_other _ (based_int Hexadecimal u (hex_digits_end u 2)) (decimal_from u (digits_end u 1))
    (literal_other _ _) (decimal_other u (digits_end u 1))))

pub prefix_other : (s : StringPrefix) (u : List ℕ) → IsOther (lexeme_of_prefix s u)
prefix_other National u = literal_other _ _
prefix_other Bit u = literal_other _ _
prefix_other Byte u = literal_other _ _
prefix_other Escape u = literal_other _ _
prefix_other UnicodeString u = literal_other _ _
prefix_other UnicodeIdent u = record { real = refl; other = refl; plain = refl; known = refl }
prefix_other NoPrefix u = record { real = refl; other = refl; plain = refl; known = refl }

pub dollar_other : (u : List ℕ) → IsOther (dollar u)
dollar_other u =
    either_other (is_dollar_quote_start u) (dollar_string u) (parameter u) (literal_other _ _)
    (record { real = refl; other = refl; plain = refl; known = refl })

-- No psql command is `Eof`, nor is a lexeme of any form.
psql_real : (u : List ℕ) → IsReal (psql u)
psql_real u =
    either_real (eqb (get_or u 1 0) 92) (lexeme_until (kinds.PsqlCommand false) 2) _
    (record { real = refl })
    (either_real (eqb (get_or u 1 0) 59) (lexeme_until kinds.Semi 2) _ (record { real = refl })
    (either_real (eqb (get_or u 1 0) 58) (lexeme_until kinds.Colon 2)
    (lexeme_until (kinds.PsqlCommand (is_among query_ending_words (command_word u)))
    (command_end u)) (record { real = refl }) (record { real = refl })))

form_real : (strings : Strings) (s : TokenForm) (u : List ℕ) → IsReal (lexeme_of_form strings s u)
form_real strings Whitespace u = record { real = refl }
form_real strings LineComment u = record { real = refl }
form_real strings BlockComment u = record { real = refl }
form_real strings String u = record { real = refl }
form_real strings QuotedIdent u = record { real = refl }
form_real strings Word u = record {
  real = (prefix_other (prefix_of (get_or u 0 0) (get_or u 1 0) (get_or u 2 0)) u).real;
}
form_real strings Dollar u = record { real = (dollar_other u).real }
form_real strings Number u = record { real = (number_other u).real }
form_real strings DotDot u = record { real = refl }
form_real strings Fraction u = record { real = (fractional_other u 1).real }
form_real strings Psql u = psql_real u
form_real strings Symbol u = record { real = symbol_real (get_or u 0 0) }

-- No token is `Eof`.
pub token_never_eof : (strings : Strings) (s : Bool) (u : List ℕ)
    → (token_at strings s u).kind ≡ kinds.Eof → ⊥
token_never_eof strings s u e =
    let is_real : IsReal (lexeme_at strings s u) =
    either_real (s && eqb (get_or u 0 0) byte_order_mark) (lexeme_until kinds.Whitespace 1)
    (lexeme_of strings u) (record { real = refl })
    (form_real strings (token_form (get_or u 0 0) (get_or u 1 0)) u) in
    false≢true (sym is_real.real ∙ ap is_eof e)
