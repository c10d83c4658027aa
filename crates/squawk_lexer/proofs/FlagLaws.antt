-- The offsets in a token's kind lie in the token.
use Rattle.std.proofs.Common.{◌≡◌, ℕ, zero, suc, ◌+◌, ◌-◌, ◌<◌, ◌≤◌, Bool, true, false, List, [], ◌∷◌, length, get_or, take, refl, sym, ◌&&◌, ◌||◌, not, eqb, cond, arith, Some, None}
use Rattle.std.proofs.lemmas.Bool.{false≢true}
use Rattle.std.proofs.lemmas.Bool.Decides.{nat_tests}
use Rattle.std.proofs.lemmas.List.Sums.{sum_by-cons}
use Rattle.std.specs.Char.{len_utf8}
use Rattle.squawk_lexer.specs.declared.token.Strings.{Strings}
use Rattle.squawk_lexer.specs.declared.token.Base.TheVariants.{Binary, Octal, Decimal, Hexadecimal}
use Rattle.squawk_lexer.specs.declared.token.TokenKind.{TokenKind}
use Rattle.squawk_lexer.specs.declared.token.TokenKind.TheVariants as kinds
use Rattle.squawk_lexer.specs.declared.forms.TokenForm.{TokenForm}
use Rattle.squawk_lexer.specs.declared.forms.TokenForm.TheVariants.{Whitespace, LineComment, BlockComment, String, QuotedIdent, Word, Dollar, Number, DotDot, Fraction, Psql, Symbol}
use Rattle.squawk_lexer.specs.declared.forms.StringPrefix.{StringPrefix}
use Rattle.squawk_lexer.specs.declared.forms.StringPrefix.TheVariants.{National, Bit, Byte, Escape, UnicodeString, UnicodeIdent, NoPrefix}
use Rattle.squawk_lexer.specs.Text.{utf8_len}
use Rattle.squawk_lexer.specs.Classes.{is_digit, byte_order_mark}
use Rattle.squawk_lexer.specs.Runs.{run_end, junk_end, digits_end, hex_digits_end, exponent_end, is_exponent_letter, fraction_end}
use Rattle.squawk_lexer.specs.Kind.{Lexeme, lexeme_until}
use Rattle.squawk_lexer.specs.Numbers.{number, decimal_from, fractional, with_exponent, numeric, int, based_int, parameter}
use Rattle.squawk_lexer.specs.Dollar.{is_dollar_quote_start, dollar_string, dollar}
use Rattle.squawk_lexer.specs.PsqlWords.{is_among, query_ending_words}
use Rattle.squawk_lexer.specs.Psql.{psql, command_word, command_end}
use Rattle.squawk_lexer.specs.Symbols.{symbol}
use Rattle.squawk_lexer.specs.Token.{token_form, prefix_of, lexeme_of_form, lexeme_of_prefix, lexeme_of, lexeme_at}
use Rattle.squawk_lexer.specs.Cut.{tokens_from}
use Rattle.squawk_lexer.specs.Flags.{JunkWithin, FlagsWithin, FlagsLieWithin, AreCut, TokensAreCut}
use Rattle.squawk_lexer.proofs.CursorRest.{fewer_bytes}
use Rattle.squawk_lexer.proofs.Steps.{letter_within}
use Rattle.squawk_lexer.proofs.TokenLaws.{junk_on, exponent_on, fraction_on, token_positive}

-- ---- more characters have more bytes

-- A prefix that is no shorter takes no fewer bytes.
bytes_le : (n m : ℕ) (u : List ℕ) → n ≤ m → utf8_len (take n u) ≤ utf8_len (take m u)
bytes_le zero m u p = omega arith
bytes_le (suc n) zero u p = absurd (omega arith)
bytes_le (suc n) (suc m) [] p = omega arith
bytes_le (suc n) (suc m) (c ∷ cs) p =
    omega (
      arith,
      sum_by-cons len_utf8 c (take n cs),
      sum_by-cons len_utf8 c (take m cs),
      bytes_le n m cs (omega arith),
    )

-- Junk after at least one character begins after at least one byte, and ends no earlier.
junk_within : (u : List ℕ) (n : ℕ) → 1 ≤ length u → 1 ≤ n
    → JunkWithin (utf8_len (take n u)) (utf8_len (take (junk_end u n) u))
junk_within u n h p = (
  omega (arith, fewer_bytes u 0 n (omega arith) (omega arith)),
  bytes_le n (junk_end u n) u
      (junk_on u n),
)

-- ---- numbers

-- The offsets in the kind of a lexeme at the start of a text lie in its bytes.
abbrev Flagged : List ℕ → Lexeme → Type 0
Flagged u x = FlagsWithin x.kind (utf8_len (take x.end u))

-- Of two lexemes, the chosen one is such where both are.
either_flags : (u : List ℕ) (b : Bool) (x y : Lexeme) → (b ≡ true → Flagged u x) → Flagged u y
    → Flagged u (cond b x y)
either_flags u true x y p q = p refl
either_flags u false x y p q = q

-- The offset of an exponent without digits is before the junk.
exponent_flags : (b : Bool) (u : List ℕ) (i n : ℕ) → 1 ≤ length u → i < length u → i < n
    → Flagged u (numeric (cond b (Some (utf8_len (take i u))) None) u n)
exponent_flags true u i n h within p = (fewer_bytes u i n p within, junk_within u n h (omega arith))
exponent_flags false u i n h within p = (tt, junk_within u n h (omega arith))

-- Numbers with an exponent, with a point, and without a base prefix.
with_exponent_flags : (u : List ℕ) (i : ℕ) → 1 ≤ length u → i < length u
    → Flagged u (with_exponent u i)
with_exponent_flags u i h within =
    exponent_flags (eqb (exponent_end u i) (i + 1)) u i (exponent_end u i) h within
    (omega (arith, exponent_on u i))

fractional_flags : (u : List ℕ) (i : ℕ) → 1 ≤ length u → 1 ≤ i → Flagged u (fractional u i)
fractional_flags u i h p =
    let n = fraction_end u i in
    either_flags u (is_exponent_letter (get_or u n 0)) (with_exponent u n) (numeric None u n)
    (λ t. with_exponent_flags u n h (letter_within u n t))
    (tt, junk_within u n h (omega (arith, fraction_on u i)))

decimal_flags : (u : List ℕ) (a : ℕ) → 1 ≤ length u → 1 ≤ a → Flagged u (decimal_from u a)
decimal_flags u a h p =
    either_flags u (eqb (get_or u a 0) 46 && not (eqb (get_or u (a + 1) 0) 46))
    (fractional u (a + 1)) _
    (λ t. fractional_flags u (a + 1) h (omega arith))
    (either_flags u (is_exponent_letter (get_or u a 0)) (with_exponent u a) (int Decimal false u a)
    (λ t. with_exponent_flags u a h (letter_within u a t)) (junk_within u a h p))

-- Whether a text begins with `0` (48) and a letter in either case.
abbrev begins : List ℕ → ℕ → ℕ → Bool
begins u small capital = eqb (get_or u 0 0) 48
    && (eqb (get_or u 1 0) small || eqb (get_or u 1 0) capital)

-- Every number.
number_flags : (u : List ℕ) → 1 ≤ length u → Flagged u (number u)
number_flags u h =
    let decimal = decimal_from u (digits_end u 1) in
    let hexadecimal = cond (begins u 120 88) (based_int Hexadecimal u (hex_digits_end u 2)) decimal
    in
    let octal = cond (begins u 111 79) (based_int Octal u (digits_end u 2)) hexadecimal in
    either_flags u (begins u 98 66) (based_int Binary u (digits_end u 2)) octal
    (λ t. junk_within u (digits_end u 2) h (omega arith))
    (either_flags u (begins u 111 79) (based_int Octal u (digits_end u 2)) hexadecimal
    (λ t. junk_within u (digits_end u 2) h (omega arith))
    (either_flags u (begins u 120 88) (based_int Hexadecimal u (hex_digits_end u 2)) decimal
    (λ t. junk_within u (hex_digits_end u 2) h (omega arith))
    (decimal_flags u (digits_end u 1) h (omega arith))))

-- Every token that begins with `$`.
dollar_flags : (u : List ℕ) → 1 ≤ length u → Flagged u (dollar u)
dollar_flags u h = either_flags u (is_dollar_quote_start u) (dollar_string u) (parameter u)
    (λ t. tt) (junk_within u (run_end is_digit u 1) h (omega arith))

-- ---- kinds without offsets

-- Whether a kind has an offset.
abbrev has_offsets : TokenKind → Bool
has_offsets (kinds.Literal kind) = true
has_offsets (kinds.PositionalParam place) = true
has_offsets _ = false

-- No symbol has one.
symbol_offsets : (c : ℕ) → has_offsets (symbol c) ≡ false
unfolding symbol
symbol_offsets c = grind (arith, nat_tests)

-- A kind without offsets fits any length.
no_offsets : (kind : TokenKind) (n : ℕ) → has_offsets kind ≡ false → FlagsWithin kind n
no_offsets (kinds.Literal kind) n e = absurd (false≢true (sym e))
no_offsets (kinds.PositionalParam place) n e = absurd (false≢true (sym e))
no_offsets (kinds.PsqlCommand ends) n e = tt
no_offsets (kinds.BlockComment terminated) n e = tt
no_offsets (kinds.QuotedIdent terminated uescape) n e = tt
no_offsets kinds.Unknown n e = tt
no_offsets kinds.Whitespace n e = tt
no_offsets kinds.Ident n e = tt
no_offsets kinds.Semi n e = tt
no_offsets kinds.Eof n e = tt
no_offsets kinds.Slash n e = tt
no_offsets kinds.LineComment n e = tt
no_offsets kinds.Minus n e = tt
no_offsets kinds.Colon n e = tt
no_offsets kinds.Dot n e = tt
no_offsets kinds.DotDot n e = tt
no_offsets kinds.Eq n e = tt
no_offsets kinds.Gt n e = tt
no_offsets kinds.And n e = tt
no_offsets kinds.Lt n e = tt
no_offsets kinds.Bang n e = tt
no_offsets kinds.Plus n e = tt
no_offsets kinds.Tilde n e = tt
no_offsets kinds.Pound n e = tt
no_offsets kinds.Question n e = tt
no_offsets kinds.Or n e = tt
no_offsets kinds.Percent n e = tt
no_offsets kinds.Caret n e = tt
no_offsets kinds.Star n e = tt
no_offsets kinds.Backtick n e = tt
no_offsets kinds.At n e = tt
no_offsets kinds.CloseBracket n e = tt
no_offsets kinds.OpenBracket n e = tt
no_offsets kinds.CloseCurly n e = tt
no_offsets kinds.OpenCurly n e = tt
no_offsets kinds.CloseParen n e = tt
no_offsets kinds.OpenParen n e = tt
no_offsets kinds.Comma n e = tt

-- Words, prefixed strings and psql commands.
prefix_flags : (s : StringPrefix) (u : List ℕ) → Flagged u (lexeme_of_prefix s u)
prefix_flags National u = tt
prefix_flags Bit u = tt
prefix_flags Byte u = tt
prefix_flags Escape u = tt
prefix_flags UnicodeString u = tt
prefix_flags UnicodeIdent u = tt
prefix_flags NoPrefix u = tt

psql_flags : (u : List ℕ) → Flagged u (psql u)
psql_flags u =
    either_flags u (eqb (get_or u 1 0) 92) (lexeme_until (kinds.PsqlCommand false) 2) _ (λ t. tt)
    (either_flags u (eqb (get_or u 1 0) 59) (lexeme_until kinds.Semi 2) _ (λ t. tt)
    (either_flags u (eqb (get_or u 1 0) 58) (lexeme_until kinds.Colon 2)
    (lexeme_until (kinds.PsqlCommand (is_among query_ending_words (command_word u)))
    (command_end u)) (λ t. tt) tt))

-- ---- every form

-- The lexeme of each form.
form_flags : (strings : Strings) (s : TokenForm) (u : List ℕ) → 1 ≤ length u
    → Flagged u (lexeme_of_form strings s u)
form_flags strings Whitespace u h = tt
form_flags strings LineComment u h = tt
form_flags strings BlockComment u h = tt
form_flags strings String u h = tt
form_flags strings QuotedIdent u h = tt
form_flags strings Word u h =
    prefix_flags (prefix_of (get_or u 0 0) (get_or u 1 0) (get_or u 2 0)) u
form_flags strings Dollar u h = dollar_flags u h
form_flags strings Number u h = number_flags u h
form_flags strings DotDot u h = tt
form_flags strings Fraction u h = fractional_flags u 1 h (omega arith)
form_flags strings Psql u h = psql_flags u
form_flags strings Symbol u h = no_offsets (symbol (get_or u 0 0)) _ (symbol_offsets (get_or u 0 0))

-- The first token of every text.
pub flags_lie_within : FlagsLieWithin
flags_lie_within strings s u h = (
  token_positive strings s u h,
  either_flags u (s && eqb (get_or u 0 0) byte_order_mark) (lexeme_until kinds.Whitespace 1)
      (lexeme_of strings u)
      (λ t. tt) (form_flags strings (token_form (get_or u 0 0) (get_or u 1 0)) u h),
)

-- ---- each token of a text is the first of the text that begins with it

-- By induction on the text.
cut_from : (strings : Strings) (inside : ℕ) (s : Bool) (u : List ℕ)
    → AreCut (tokens_from strings inside s u)
cut_from strings inside s [] = tt
cut_from strings zero s (c ∷ cs) = (
  record {
    strings = strings;
    at_start = s;
    text = c ∷ cs;
    some = omega arith;
    same = refl;
  },
  cut_from strings ((lexeme_at strings s (c ∷ cs)).end - 1) false cs,
)
cut_from strings (suc inside) s (c ∷ cs) = cut_from strings inside s cs

pub tokens_are_cut : TokensAreCut
tokens_are_cut strings u = cut_from strings 0 true u
