-- A token is `Unknown` exactly where it begins with a control character other than white space.
use Rattle.std.proofs.Common.{◌≡◌, ℕ, ◌<◌, ◌≤◌, Bool, true, false, List, ◌∷◌, get_or, refl, sym, ap, ◌∙◌, inl, inr, ◌⊎◌, not, ◌&&◌, ◌||◌, eqb, cond, arith}
use Rattle.std.proofs.lemmas.Bool.{cases_lt, false≢true}
use Rattle.std.proofs.lemmas.Bool.Decides.{nat_tests}
use Rattle.squawk_lexer.specs.declared.token.Strings.{Strings}
use Rattle.squawk_lexer.specs.declared.token.TokenKind.TheVariants as kinds
use Rattle.squawk_lexer.specs.declared.forms.TokenForm.{TokenForm}
use Rattle.squawk_lexer.specs.declared.forms.TokenForm.TheVariants.{Whitespace, LineComment, BlockComment, String, QuotedIdent, Word, Dollar, Number, DotDot, Fraction, Psql, Symbol}
use Rattle.squawk_lexer.specs.Kind.{Lexeme, lexeme_until}
use Rattle.squawk_lexer.specs.Classes.{is_whitespace, is_control, is_digit, is_ident_start, byte_order_mark}
use Rattle.squawk_lexer.specs.PsqlWords.{is_among, query_ending_words}
use Rattle.squawk_lexer.specs.Psql.{psql, command_word, command_end}
use Rattle.squawk_lexer.specs.Symbols.{symbol}
use Rattle.squawk_lexer.specs.Token.{token_form, prefix_of, lexeme_of_form, lexeme_of, lexeme_at}
use Rattle.squawk_lexer.specs.Laws.{is_unknown, UnknownIsControl, UnknownIsOneCharacter}
use Rattle.squawk_lexer.proofs.ByteClasses.{agree_below, agree_at}
use Rattle.squawk_lexer.proofs.FormSteps.{form_fits}
use Rattle.squawk_lexer.proofs.TokenLaws.{either_kind, prefix_other, dollar_other, number_other, fractional_other}

-- Whether c alone decides a form other than a symbol.
abbrev begins_form : ℕ → Bool
begins_form c = is_whitespace c
    || (eqb c 39
    || (eqb c 34 || (is_ident_start c || (eqb c 36 || (is_digit c || eqb c 92)))))

-- Whether c is a control character other than white space.
abbrev is_plain_control : ℕ → Bool
is_plain_control c = is_control c && not (is_whitespace c)

-- ---- symbols

-- Where a chain of tests chooses `Symbol`, none of its tests of one character passes.
no_form : (w l b s q i x n p f y : Bool)
    → Symbol ≡ cond w Whitespace (cond l LineComment (cond b BlockComment (cond s String
    (cond q QuotedIdent (cond i Word (cond x Dollar (cond n Number (cond p DotDot (cond f Fraction
    (cond y Psql Symbol))))))))))
    → (w || (s || (q || (i || (x || (n || y)))))) ≡ false
no_form true l b s q i x n p f y e = absurd (cc)
no_form false true b s q i x n p f y e = absurd (cc)
no_form false false true s q i x n p f y e = absurd (cc)
no_form false false false true q i x n p f y e = absurd (cc)
no_form false false false false true i x n p f y e = absurd (cc)
no_form false false false false false true x n p f y e = absurd (cc)
no_form false false false false false false true n p f y e = absurd (cc)
no_form false false false false false false false true p f y e = absurd (cc)
no_form false false false false false false false false true f y e = absurd (cc)
no_form false false false false false false false false false true y e = absurd (cc)
no_form false false false false false false false false false false true e = absurd (cc)
no_form false false false false false false false false false false false e = refl

-- A symbol begins with no character that decides another form.
symbol_begins : (c d : ℕ) → Symbol ≡ token_form c d → begins_form c ≡ false
unfolding token_form
symbol_begins c d e =
    no_form (is_whitespace c) (eqb c 45 && eqb d 45) (eqb c 47 && eqb d 42) (eqb c 39) (eqb c 34)
    (is_ident_start c) (eqb c 36) (is_digit c) (eqb c 46 && eqb d 46) (eqb c 46 && is_digit d)
    (eqb c 92) e

-- The characters of ASCII, one by one.
ascii_symbols : agree_below (λ c. begins_form c || is_unknown (symbol c))
    (λ c. begins_form c || is_plain_control c) 128 ≡ true
unfolding agree_below symbol
ascii_symbols = refl

-- A symbol is `Unknown` exactly where it is a control character other than white space.
symbol_unknown : (c : ℕ) → begins_form c ≡ false → is_unknown (symbol c) ≡ is_plain_control c
symbol_unknown c none = by (cases_lt c 128)
  where
    by : (c < 128) ⊎ (128 ≤ c) → is_unknown (symbol c) ≡ is_plain_control c
    by (inl less) = rw none at (agree_at (λ c. begins_form c || is_unknown (symbol c))
        (λ c. begins_form c || is_plain_control c) 128 ascii_symbols c less)
    by (inr more) =
        let some : begins_form c ≡ true = grind (arith, nat_tests) in
        absurd (false≢true (sym none ∙ some))

-- ---- other forms

-- No psql command is `Unknown`.
psql_known : (u : List ℕ) → is_unknown (psql u).kind ≡ false
psql_known u =
    either_kind is_unknown (eqb (get_or u 1 0) 92) (lexeme_until (kinds.PsqlCommand false) 2) _ refl
    (either_kind is_unknown (eqb (get_or u 1 0) 59) (lexeme_until kinds.Semi 2) _ refl
    (either_kind is_unknown (eqb (get_or u 1 0) 58) (lexeme_until kinds.Colon 2)
    (lexeme_until (kinds.PsqlCommand (is_among query_ending_words (command_word u)))
    (command_end u)) refl refl))

-- No form but a symbol is `Unknown`.
form_known : (strings : Strings) (s : TokenForm) (u : List ℕ)
    → (is_unknown (lexeme_of_form strings s u).kind ≡ false) ⊎ (s ≡ Symbol)
form_known strings Whitespace u = inl refl
form_known strings LineComment u = inl refl
form_known strings BlockComment u = inl refl
form_known strings String u = inl refl
form_known strings QuotedIdent u = inl refl
form_known strings Word u =
    inl (prefix_other (prefix_of (get_or u 0 0) (get_or u 1 0) (get_or u 2 0)) u).known
form_known strings Dollar u = inl (dollar_other u).known
form_known strings Number u = inl (number_other u).known
form_known strings DotDot u = inl refl
form_known strings Fraction u = inl (fractional_other u 1).known
form_known strings Psql u = inl (psql_known u)
form_known strings Symbol u = inr refl

-- No form but a symbol begins with a control character, unless with white space.
form_control : (s : TokenForm) (c d : ℕ) → s ≡ token_form c d
    → (is_plain_control c ≡ false) ⊎ (s ≡ Symbol)
form_control Whitespace c d e = let t = form_fits Whitespace c d e in inl (grind (arith, nat_tests))
form_control LineComment c d e =
    let t = form_fits LineComment c d e in inl (grind (arith, nat_tests))
form_control BlockComment c d e =
    let t = form_fits BlockComment c d e in inl (grind (arith, nat_tests))
form_control String c d e = let t = form_fits String c d e in inl (grind (arith, nat_tests))
form_control QuotedIdent c d e =
    let t = form_fits QuotedIdent c d e in inl (grind (arith, nat_tests))
form_control Word c d e = let t = form_fits Word c d e in inl (grind (arith, nat_tests))
form_control Dollar c d e = let t = form_fits Dollar c d e in inl (grind (arith, nat_tests))
form_control Number c d e = let t = form_fits Number c d e in inl (grind (arith, nat_tests))
form_control DotDot c d e = let t = form_fits DotDot c d e in inl (grind (arith, nat_tests))
form_control Fraction c d e = let t = form_fits Fraction c d e in inl (grind (arith, nat_tests))
form_control Psql c d e = let t = form_fits Psql c d e in inl (grind (arith, nat_tests))
form_control Symbol c d e = inr refl

-- ---- every token

-- The law, for the lexeme of each form.
form_unknown : (strings : Strings) (s : TokenForm) (u : List ℕ)
    → s ≡ token_form (get_or u 0 0) (get_or u 1 0)
    → is_unknown (lexeme_of_form strings s u).kind ≡ is_plain_control (get_or u 0 0)
form_unknown strings s u e =
    by (form_known strings s u) (form_control s (get_or u 0 0) (get_or u 1 0) e)
  where
    symbol_is : s ≡ Symbol
        → is_unknown (lexeme_of_form strings s u).kind ≡ is_plain_control (get_or u 0 0)
    symbol_is is = ap (λ r. is_unknown (lexeme_of_form strings r u).kind) is
        ∙ symbol_unknown (get_or u 0 0) (symbol_begins (get_or u 0 0) (get_or u 1 0) (sym is ∙ e))

    by : (is_unknown (lexeme_of_form strings s u).kind ≡ false) ⊎ (s ≡ Symbol)
        → (is_plain_control (get_or u 0 0) ≡ false) ⊎ (s ≡ Symbol)
        → is_unknown (lexeme_of_form strings s u).kind ≡ is_plain_control (get_or u 0 0)
    by (inl known) (inl none) = known ∙ sym none
    by (inl known) (inr is) = symbol_is is
    by (inr is) none = symbol_is is

-- The law, for every token.
pub unknown_is_control : UnknownIsControl
unknown_is_control strings s c cs = by (s && eqb c byte_order_mark) refl
  where
    by : (b : Bool) → (s && eqb c byte_order_mark) ≡ b
        → is_unknown (lexeme_at strings s (c ∷ cs)).kind ≡ is_plain_control c
    by true e =
        let none : is_plain_control c ≡ false = grind (arith, nat_tests) in
        rw (e, none) refl
    by false e =
        rw e (form_unknown strings (token_form c (get_or (c ∷ cs) 1 0)) (c ∷ cs) refl)

-- An `Unknown` token is a symbol, and symbols are one character.
pub unknown_is_one_character : UnknownIsOneCharacter
unknown_is_one_character strings s c cs t = by (s && eqb c byte_order_mark) refl
  where
    form : TokenForm
    form = token_form c (get_or (c ∷ cs) 1 0)

    one : is_unknown (lexeme_of strings (c ∷ cs)).kind ≡ true
        → (is_unknown (lexeme_of_form strings form (c ∷ cs)).kind ≡ false) ⊎ (form ≡ Symbol)
        → (lexeme_of strings (c ∷ cs)).end ≡ 1
    one known (inl none) = absurd (false≢true (sym none ∙ known))
    one known (inr is) = ap (λ r. (lexeme_of_form strings r (c ∷ cs)).end) is

    by : (b : Bool) → (s && eqb c byte_order_mark) ≡ b → (lexeme_at strings s (c ∷ cs)).end ≡ 1
    by true e = rw e refl
    by false e =
        let is : lexeme_at strings s (c ∷ cs) ≡ lexeme_of strings (c ∷ cs) = rw e refl in
        ap (λ (x : Lexeme). x.end) is
        ∙ one (sym (ap (λ (x : Lexeme). is_unknown x.kind) is) ∙ t)
        (form_known strings form (c ∷ cs))
