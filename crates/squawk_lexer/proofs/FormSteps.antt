-- The form of a token by its first two characters.
use Rattle.std.proofs.Common.{◌≡◌, ℕ, ◌<◌, true, List, length, get_or, refl, sym, subst, ◌∙◌, Bool, false, ◌&&◌, cond, eqb, eqb-true, arith}
use Rattle.std.proofs.lemmas.Bool.Decides.{nat_tests}
use Rattle.squawk_lexer.specs.declared.token.Strings.{Strings}
use Rattle.squawk_lexer.specs.declared.forms.TokenForm.{TokenForm}
use Rattle.squawk_lexer.specs.declared.forms.TokenForm.TheVariants.{Whitespace, LineComment, BlockComment, String, QuotedIdent, Word, Dollar, Number, DotDot, Fraction, Psql, Symbol}
use Rattle.squawk_lexer.specs.Position.{position_after}
use Rattle.squawk_lexer.specs.Classes.{is_whitespace, is_ident_start, is_digit}
use Rattle.squawk_lexer.specs.Token.{token_form, lexeme_of_form, lexeme_of}
use Rattle.squawk_lexer.proofs.Steps.{after_within}
use Rattle.squawk_lexer.proofs.WordSteps.{two}

-- The test of each form.
abbrev pub form_test : TokenForm → ℕ → ℕ → Bool
form_test Whitespace c d = is_whitespace c
form_test LineComment c d = eqb c 45 && eqb d 45
form_test BlockComment c d = eqb c 47 && eqb d 42
form_test String c d = eqb c 39
form_test QuotedIdent c d = eqb c 34
form_test Word c d = is_ident_start c
form_test Dollar c d = eqb c 36
form_test Number c d = is_digit c
form_test DotDot c d = eqb c 46 && eqb d 46
form_test Fraction c d = eqb c 46 && is_digit d
form_test Psql c d = eqb c 92
form_test Symbol c d = true

-- Of a test for each form, that of one form.
abbrev pick : TokenForm → Bool → Bool → Bool → Bool → Bool → Bool → Bool → Bool → Bool → Bool → Bool
    → Bool
pick Whitespace w l b s q i x n p f y = w
pick LineComment w l b s q i x n p f y = l
pick BlockComment w l b s q i x n p f y = b
pick String w l b s q i x n p f y = s
pick QuotedIdent w l b s q i x n p f y = q
pick Word w l b s q i x n p f y = i
pick Dollar w l b s q i x n p f y = x
pick Number w l b s q i x n p f y = n
pick DotDot w l b s q i x n p f y = p
pick Fraction w l b s q i x n p f y = f
pick Psql w l b s q i x n p f y = y
pick Symbol w l b s q i x n p f y = true

-- The form that a chain of tests chooses passes its test.
picked : (w l b s q i x n p f y : Bool)
    → pick (cond w Whitespace (cond l LineComment
    (cond b BlockComment (cond s String (cond q QuotedIdent
    (cond i Word (cond x Dollar (cond n Number
    (cond p DotDot (cond f Fraction (cond y Psql Symbol))))))))))) w l b s q i x n p f y ≡ true
picked true l b s q i x n p f y = refl
picked false true b s q i x n p f y = refl
picked false false true s q i x n p f y = refl
picked false false false true q i x n p f y = refl
picked false false false false true i x n p f y = refl
picked false false false false false true x n p f y = refl
picked false false false false false false true n p f y = refl
picked false false false false false false false true p f y = refl
picked false false false false false false false false true f y = refl
picked false false false false false false false false false true y = refl
picked false false false false false false false false false false true = refl
picked false false false false false false false false false false false = refl

-- The tests of the chain are those of `form_test`.
same_test : (r : TokenForm) (c d : ℕ)
    → pick r (is_whitespace c) (eqb c 45 && eqb d 45) (eqb c 47 && eqb d 42) (eqb c 39) (eqb c 34)
    (is_ident_start c) (eqb c 36) (is_digit c) (eqb c 46 && eqb d 46) (eqb c 46 && is_digit d)
    (eqb c 92) ≡ form_test r c d
same_test Whitespace c d = refl
same_test LineComment c d = refl
same_test BlockComment c d = refl
same_test String c d = refl
same_test QuotedIdent c d = refl
same_test Word c d = refl
same_test Dollar c d = refl
same_test Number c d = refl
same_test DotDot c d = refl
same_test Fraction c d = refl
same_test Psql c d = refl
same_test Symbol c d = refl

-- The form of a token passes its test.
pub form_fits : (r : TokenForm) (c d : ℕ) → r ≡ token_form c d → form_test r c d ≡ true
unfolding token_form
form_fits r c d e =
    sym (same_test r c d)
    ∙ subst (λ t. pick t (is_whitespace c) (eqb c 45 && eqb d 45) (eqb c 47 && eqb d 42)
    (eqb c 39) (eqb c 34) (is_ident_start c) (eqb c 36) (is_digit c) (eqb c 46 && eqb d 46)
    (eqb c 46 && is_digit d) (eqb c 92) ≡ true) (sym e)
    (picked (is_whitespace c) (eqb c 45 && eqb d 45) (eqb c 47 && eqb d 42) (eqb c 39) (eqb c 34)
    (is_ident_start c) (eqb c 36) (is_digit c) (eqb c 46 && eqb d 46) (eqb c 46 && is_digit d)
    (eqb c 92))

-- White space begins with white space, and a form of two characters has a second one.
pub form_whitespace : (c d : ℕ) → Whitespace ≡ token_form c d → is_whitespace c ≡ true
form_whitespace c d e = form_fits Whitespace c d e

form_line : (c d : ℕ) → LineComment ≡ token_form c d → 0 < d
form_line c d e = let t = form_fits LineComment c d e in grind (arith, nat_tests)

form_block : (c d : ℕ) → BlockComment ≡ token_form c d → 0 < d
form_block c d e = let t = form_fits BlockComment c d e in grind (arith, nat_tests)

form_dots : (c d : ℕ) → DotDot ≡ token_form c d → 0 < d
form_dots c d e = let t = form_fits DotDot c d e in grind (arith, nat_tests)

-- The cursor after the first two characters, in the form in which the code has it.
pub begin_line : (u : List ℕ) (i : ℕ) → i ≡ 0 → 0 < length u
    → LineComment ≡ token_form (get_or u 0 0) (get_or u 1 0) → (position_after u i ≡ 1)
    × (position_after u (position_after u i) ≡ 2)
begin_line u i none some e = two u i none (form_line _ _ e)

pub begin_block : (u : List ℕ) (i : ℕ) → i ≡ 0 → 0 < length u
    → BlockComment ≡ token_form (get_or u 0 0) (get_or u 1 0) → (position_after u i ≡ 1)
    × (position_after u (position_after u i) ≡ 2)
begin_block u i none some e = two u i none (form_block _ _ e)

pub begin_dots : (u : List ℕ) (i : ℕ) → i ≡ 0 → 0 < length u
    → DotDot ≡ token_form (get_or u 0 0) (get_or u 1 0) → (position_after u i ≡ 1)
    × (position_after u (position_after u i) ≡ 2)
begin_dots u i none some e = two u i none (form_dots _ _ e)

-- The first character of a word, of a token at `$`, and of a psql command.
pub begin_word : (u : List ℕ) → Word ≡ token_form (get_or u 0 0) (get_or u 1 0)
    → is_ident_start (get_or u 0 0) ≡ true
begin_word u e = form_fits Word (get_or u 0 0) (get_or u 1 0) e

pub begin_dollar : (u : List ℕ) → Dollar ≡ token_form (get_or u 0 0) (get_or u 1 0)
    → get_or u 0 0 ≡ 36
begin_dollar u e = eqb-true (get_or u 0 0) 36 (form_fits Dollar (get_or u 0 0) (get_or u 1 0) e)

pub begin_psql : (u : List ℕ) → Psql ≡ token_form (get_or u 0 0) (get_or u 1 0) → get_or u 0 0 ≡ 92
begin_psql u e = eqb-true (get_or u 0 0) 92 (form_fits Psql (get_or u 0 0) (get_or u 1 0) e)

-- The first lexeme of a text is that of its form.
pub form_lexeme : (strings : Strings) (u : List ℕ) (s : TokenForm)
    → s ≡ token_form (get_or u 0 0) (get_or u 1 0)
    → lexeme_of strings u ≡ lexeme_of_form strings s u
form_lexeme strings u s e = rw e refl

pub ruleset form_steps =
    (begin_line, begin_block, begin_word, begin_dollar, begin_psql, begin_dots, after_within)
