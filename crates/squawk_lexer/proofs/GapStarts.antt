-- A text begins with a gap exactly where its first token is trivia.
use Rattle.std.proofs.Common.{◌≡◌, ℕ, Bool, true, false, List, get_or, refl, sym, ap, ◌∙◌, ◌&&◌, ◌||◌, eqb, arith}
use Rattle.std.proofs.lemmas.Bool.{false≢true}
use Rattle.std.proofs.lemmas.Bool.Decides.{nat_tests}
use Rattle.squawk_lexer.specs.declared.token.Strings.{Strings}
use Rattle.squawk_lexer.specs.declared.token.TokenKind.TheVariants as kinds
use Rattle.squawk_lexer.specs.declared.forms.TokenForm.{TokenForm}
use Rattle.squawk_lexer.specs.declared.forms.TokenForm.TheVariants.{Whitespace, LineComment, BlockComment, String, QuotedIdent, Word, Dollar, Number, DotDot, Fraction, Psql, Symbol}
use Rattle.squawk_lexer.specs.Kind.{lexeme_until}
use Rattle.squawk_lexer.specs.Classes.{is_whitespace}
use Rattle.squawk_lexer.specs.PsqlWords.{is_among, query_ending_words}
use Rattle.squawk_lexer.specs.Psql.{psql, command_word, command_end}
use Rattle.squawk_lexer.specs.Symbols.{symbol}
use Rattle.squawk_lexer.specs.Token.{token_form, prefix_of, lexeme_of_form, lexeme_of, lexeme_at}
use Rattle.squawk_lexer.specs.Cut.{is_trivia}
use Rattle.squawk_lexer.specs.Gaps.{begins_gap, GapsAreSeen}
use Rattle.squawk_lexer.proofs.TokenLaws.{command_plain, either_kind, prefix_other, dollar_other, number_other, fractional_other}
use Rattle.squawk_lexer.proofs.FormSteps.{form_fits}
use Rattle.squawk_lexer.proofs.AheadTokens.{first_form}
use Rattle.squawk_lexer.proofs.GapTests.{is_gap}
use Rattle.squawk_lexer.proofs.GapLaws.{NoGap, form_is}

-- ---- what begins a gap

-- Symbols and psql commands are not trivia.
symbol_plain : (c : ℕ) → is_trivia (symbol c) ≡ false
unfolding symbol
symbol_plain c = grind (arith, nat_tests)

psql_plain : (u : List ℕ) → is_trivia (psql u).kind ≡ false
psql_plain u =
    either_kind is_trivia (eqb (get_or u 1 0) 92) (lexeme_until (kinds.PsqlCommand false) 2) _ refl
    (either_kind is_trivia (eqb (get_or u 1 0) 59) (lexeme_until kinds.Semi 2) _ refl
    (either_kind is_trivia (eqb (get_or u 1 0) 58) (lexeme_until kinds.Colon 2)
    (lexeme_until (kinds.PsqlCommand (is_among query_ending_words (command_word u)))
    (command_end u)) refl (command_plain (is_among query_ending_words (command_word u)))))

-- Only white space and comments are trivia.
form_plain : (strings : Strings) (s : TokenForm) (u : List ℕ) → NoGap s
    → is_trivia (lexeme_of_form strings s u).kind ≡ false
form_plain strings Whitespace u n = absurd n
form_plain strings LineComment u n = absurd n
form_plain strings BlockComment u n = absurd n
form_plain strings String u n = refl
form_plain strings QuotedIdent u n = refl
form_plain strings Word u n =
    (prefix_other (prefix_of (get_or u 0 0) (get_or u 1 0) (get_or u 2 0)) u).plain
form_plain strings Dollar u n = (dollar_other u).plain
form_plain strings Number u n = (number_other u).plain
form_plain strings DotDot u n = refl
form_plain strings Fraction u n = (fractional_other u 1).plain
form_plain strings Psql u n = psql_plain u
form_plain strings Symbol u n = symbol_plain (get_or u 0 0)

-- A disjunction holds where either part does.
or_first : (a b : Bool) → a ≡ true → (a || b) ≡ true
or_first a b e = rw e refl

or_second : (a b : Bool) → b ≡ true → (a || b) ≡ true
or_second true b e = refl
or_second false b e = e

-- A text that begins with no gap has another form.
no_gap_form : (c d : ℕ) (s : TokenForm) → s ≡ token_form c d → is_gap c d ≡ false → NoGap s
no_gap_form c d Whitespace e t = let fits : is_whitespace c ≡ true = form_fits Whitespace c d e in
    absurd (false≢true (sym t ∙ rw fits refl))
no_gap_form c d LineComment e t = let fits : (eqb c 45 && eqb d 45) ≡ true =
    form_fits LineComment c d e in absurd (false≢true (sym t
    ∙ or_second (is_whitespace c) _ (or_first _ (eqb c 47 && eqb d 42) fits)))
no_gap_form c d BlockComment e t = let fits : (eqb c 47 && eqb d 42) ≡ true =
    form_fits BlockComment c d e in
    absurd (false≢true (sym t
    ∙ or_second (is_whitespace c) _ (or_second (eqb c 45 && eqb d 45) _ fits)))
no_gap_form c d String e t = tt
no_gap_form c d QuotedIdent e t = tt
no_gap_form c d Word e t = tt
no_gap_form c d Dollar e t = tt
no_gap_form c d Number e t = tt
no_gap_form c d DotDot e t = tt
no_gap_form c d Fraction e t = tt
no_gap_form c d Psql e t = tt
no_gap_form c d Symbol e t = tt

-- The first token of a text that begins with a gap is trivia.
gap_form : (strings : Strings) (u : List ℕ) → begins_gap u ≡ true
    → is_trivia (lexeme_of strings u).kind ≡ true
gap_form strings u t = by (is_whitespace c) (eqb c 45 && eqb d 45)
    (eqb c 47 && eqb d 42) refl refl refl
  where
    c : ℕ
    c = get_or u 0 0

    d : ℕ
    d = get_or u 1 0

    kind : (s : TokenForm) → first_form u ≡ s → is_trivia (lexeme_of_form strings s u).kind ≡ true
        → is_trivia (lexeme_of strings u).kind ≡ true
    kind s e t = ap (λ r. is_trivia (lexeme_of_form strings r u).kind) e ∙ t

    by : (x y z : Bool) → is_whitespace c ≡ x → (eqb c 45 && eqb d 45) ≡ y
        → (eqb c 47 && eqb d 42) ≡ z → is_trivia (lexeme_of strings u).kind ≡ true
    by true y z e f g = kind Whitespace (form_is c d ∙ rw e refl) refl
    by false true z e f g = kind LineComment (form_is c d ∙ rw (e, f) refl) refl
    by false false true e f g = kind BlockComment (form_is c d ∙ rw (e, f, g) refl) refl
    by false false false e f g = absurd (false≢true (sym (rw (e, f, g) refl) ∙ t))

-- The law.
pub gaps_are_seen : GapsAreSeen
gaps_are_seen strings u = by (begins_gap u) refl
  where
    by : (b : Bool) → begins_gap u ≡ b → is_trivia (lexeme_at strings false u).kind ≡ begins_gap u
    by true t = gap_form strings u t ∙ sym t
    by false t = form_plain strings (first_form u) u
        (no_gap_form (get_or u 0 0) (get_or u 1 0) (first_form u) refl t) ∙ sym t
