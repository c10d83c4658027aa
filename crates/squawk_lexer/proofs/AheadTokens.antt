-- A token is decided by its own characters, and by tests of the two after them.
use Rattle.std.proofs.Common.{◌≡◌, ℕ, ◌+◌, ◌<◌, ◌≤◌, Bool, true, false, List, length, get_or, take, drop, refl, sym, ap, ◌∙◌, inl, inr, ◌⊎◌, ◌&&◌, eqb, cond, arith}
use Rattle.std.specs.Bool.{⊤}
use Rattle.std.proofs.Math.Bool.{and_assoc}
use Rattle.squawk_lexer.specs.declared.token.Token.{Token}
use Rattle.squawk_lexer.specs.declared.token.LiteralKind.{LiteralKind}
use Rattle.squawk_lexer.specs.declared.token.LiteralKind.TheVariants.{Str, NationalStr, BitStr, ByteStr, UnicodeEscStr, EscStr}
use Rattle.squawk_lexer.specs.declared.token.TokenKind.TheVariants as kinds
use Rattle.squawk_lexer.specs.declared.token.Strings.{Strings}
use Rattle.squawk_lexer.specs.declared.forms.TokenForm.{TokenForm}
use Rattle.squawk_lexer.specs.declared.forms.TokenForm.TheVariants.{Whitespace, LineComment, BlockComment, String, QuotedIdent, Word, Dollar, Number, DotDot, Fraction, Psql, Symbol}
use Rattle.squawk_lexer.specs.declared.forms.StringPrefix.{StringPrefix}
use Rattle.squawk_lexer.specs.declared.forms.StringPrefix.TheVariants.{National, Bit, Byte, Escape, UnicodeString, UnicodeIdent, NoPrefix}
use Rattle.squawk_lexer.specs.Kind.{Lexeme, lexeme_until}
use Rattle.squawk_lexer.specs.Text.{utf8_len}
use Rattle.squawk_lexer.specs.Classes.{is_letter, is_whitespace, is_ident_cont, is_not_line_end, apostrophe, quotation_mark, byte_order_mark}
use Rattle.squawk_lexer.specs.Symbols.{symbol}
use Rattle.squawk_lexer.specs.Token.{has_escapes, string, quoted_ident, token_form, prefix_of, lexeme_of_prefix, lexeme_of_form, lexeme_of, lexeme_at, token_at}
use Rattle.squawk_lexer.specs.LookAhead.{Agrees, LexemesLookAhead, TokensLookAhead}
use Rattle.squawk_lexer.proofs.TokenLaws.{lexeme_at_some}
use Rattle.squawk_lexer.proofs.Ahead.{Tests, PairTests, pick, agrees_right, agrees_less, agrees_read, after, Alike, read, take_same, test, pair}
use Rattle.squawk_lexer.proofs.AheadRuns.{Asks, run_same, number_same, fractional_same}
use Rattle.squawk_lexer.proofs.AheadClosed.{quoted_same, comment_same, dollar_same}
use Rattle.squawk_lexer.proofs.AheadPsql.{AsksPsql, psql_same}

-- ---- words

-- Strings and quoted identifiers are the same in both texts.
string_same : {tests : Tests} {pairs : PairTests}
    → Asks tests pairs → (kind : Bool → LiteralKind) (escapes : Bool) (k : ℕ) (u v : List ℕ) (i : ℕ)
    → Alike tests pairs k u v → (string kind escapes u i).end ≤ k
    → string kind escapes v i ≡ string kind escapes u i
string_same w kind escapes k u v i a h =
    let (found, ends) = quoted_same escapes apostrophe w.apostrophe k u v i a h in
    rw (ends, found) refl

quoted_ident_same : {tests : Tests} {pairs : PairTests}
    → Asks tests pairs → (uescape : Bool) (k : ℕ) (u v : List ℕ) (i : ℕ) → Alike tests pairs k u v
    → (quoted_ident uescape u i).end ≤ k → quoted_ident uescape v i ≡ quoted_ident uescape u i
quoted_ident_same w uescape k u v i a h =
    let (found, ends) = quoted_same false quotation_mark w.quotation k u v i a h in
    rw (ends, found) refl

-- The prefix by its first character, a test of the second, and two tests of the second and third.
abbrev prefix_from : ℕ → Bool → Bool → Bool → StringPrefix
prefix_from c quote string ident =
    cond (is_letter 110 c && quote) National
    (cond (is_letter 98 c && quote) Bit
    (cond (is_letter 120 c && quote) Byte
    (cond (is_letter 101 c && quote) Escape
    (cond (is_letter 117 c && string) UnicodeString
    (cond (is_letter 117 c && ident) UnicodeIdent NoPrefix)))))

-- `prefix_of` in these terms.
prefix_is : (c d e : ℕ) → prefix_of c d e
    ≡ prefix_from c (eqb d 39) (eqb d 38 && eqb e 39) (eqb d 38 && eqb e 34)
unfolding prefix_of
prefix_is c d e =
    rw (
      and_assoc (is_letter 117 c) (eqb d 38) (eqb e 39),
      and_assoc (is_letter 117 c) (eqb d 38) (eqb e 34),
    ) refl

-- The prefix is the same in both texts.
prefix_same : {tests : Tests} {pairs : PairTests} → Asks tests pairs → (k : ℕ) (u v : List ℕ)
    → Alike tests pairs k u v → 1 ≤ k → prefix_of (get_or v 0 0) (get_or v 1 0) (get_or v 2 0)
    ≡ prefix_of (get_or u 0 0) (get_or u 1 0) (get_or u 2 0)
prefix_same w k u v a some =
    let first : get_or v 0 0 ≡ get_or u 0 0 = read k u v 0 a (omega arith) in
    let quote = test (λ c. eqb c 39) w.apostrophe k u v 1 a some in
    let string = pair (λ c. eqb c 38)
    (λ c. eqb c 39) w.apostrophe w.and_string k u v 1 2 a some refl in
    let ident = pair (λ c. eqb c 38) (λ c. eqb c 34) w.quotation w.and_ident k u v 1 2 a some refl
    in
    prefix_is (get_or v 0 0) (get_or v 1 0) (get_or v 2 0)
    ∙ ap (λ c. prefix_from c (eqb (get_or v 1 0) 39) (eqb (get_or v 1 0) 38
    && eqb (get_or v 2 0) 39) (eqb (get_or v 1 0) 38 && eqb (get_or v 2 0) 34)) first
    ∙ ap (λ b. prefix_from (get_or u 0 0) b (eqb (get_or v 1 0) 38
    && eqb (get_or v 2 0) 39) (eqb (get_or v 1 0) 38 && eqb (get_or v 2 0) 34)) quote
    ∙ ap (λ b. prefix_from (get_or u 0 0) (eqb (get_or u 1 0) 39) b
    (eqb (get_or v 1 0) 38 && eqb (get_or v 2 0) 34)) string
    ∙ ap (prefix_from (get_or u 0 0) (eqb (get_or u 1 0) 39)
    (eqb (get_or u 1 0) 38 && eqb (get_or u 2 0) 39)) ident
    ∙ sym (prefix_is (get_or u 0 0) (get_or u 1 0) (get_or u 2 0))

-- So is the lexeme that it begins.
prefixed_same : {tests : Tests} {pairs : PairTests}
    → Asks tests pairs → (s : StringPrefix) (k : ℕ) (u v : List ℕ) → Alike tests pairs k u v
    → (lexeme_of_prefix s u).end ≤ k → lexeme_of_prefix s v ≡ lexeme_of_prefix s u
prefixed_same w National k u v a h = string_same w NationalStr false k u v 2 a h
prefixed_same w Bit k u v a h = string_same w BitStr false k u v 2 a h
prefixed_same w Byte k u v a h = string_same w ByteStr false k u v 2 a h
prefixed_same w Escape k u v a h = string_same w EscStr true k u v 2 a h
prefixed_same w UnicodeString k u v a h = string_same w UnicodeEscStr false k u v 3 a h
prefixed_same w UnicodeIdent k u v a h = quoted_ident_same w true k u v 3 a h
prefixed_same w NoPrefix k u v a h =
    ap (lexeme_until kinds.Ident) (run_same is_ident_cont w.id_cont k u v 1 a h)

-- ---- every form

-- The tests of what follows a token, for each form.
abbrev pub AsksOf : Tests → PairTests → TokenForm → Type 0
AsksOf tests pairs Whitespace = tests is_whitespace
AsksOf tests pairs LineComment = tests is_not_line_end
AsksOf tests pairs BlockComment = ⊤
AsksOf tests pairs Psql = AsksPsql tests
AsksOf tests pairs DotDot = ⊤
AsksOf tests pairs Symbol = ⊤
AsksOf tests pairs _ = Asks tests pairs

-- The tests of every form, from those of each kind of token.
pub asks_form : {tests : Tests} {pairs : PairTests} → Asks tests pairs → AsksPsql tests
    → tests is_whitespace → tests is_not_line_end → (s : TokenForm) → AsksOf tests pairs s
asks_form asks psql whitespace line Whitespace = whitespace
asks_form asks psql whitespace line LineComment = line
asks_form asks psql whitespace line BlockComment = tt
asks_form asks psql whitespace line String = asks
asks_form asks psql whitespace line QuotedIdent = asks
asks_form asks psql whitespace line Word = asks
asks_form asks psql whitespace line Dollar = asks
asks_form asks psql whitespace line Number = asks
asks_form asks psql whitespace line DotDot = tt
asks_form asks psql whitespace line Fraction = asks
asks_form asks psql whitespace line Psql = psql
asks_form asks psql whitespace line Symbol = tt

-- The lexeme of each form is the same in both texts.
pub form_same : {tests : Tests} {pairs : PairTests} (strings : Strings) (s : TokenForm)
    → AsksOf tests pairs s → (k : ℕ) (u v : List ℕ) → Alike tests pairs k u v → 1 ≤ k
    → (lexeme_of_form strings s u).end ≤ k → lexeme_of_form strings s v ≡ lexeme_of_form strings s u
form_same strings Whitespace w k u v a some h =
    ap (lexeme_until kinds.Whitespace) (run_same is_whitespace w k u v 0 a h)
form_same strings LineComment w k u v a some h =
    ap (lexeme_until kinds.LineComment) (run_same is_not_line_end w k u v 2 a h)
form_same strings BlockComment w k u v a some h =
    let (found, ends) = comment_same 0 k u v 2 a h in
    rw (ends, found) refl
form_same strings String w k u v a some h = string_same w Str (has_escapes strings) k u v 1 a h
form_same strings QuotedIdent w k u v a some h = quoted_ident_same w false k u v 1 a h
form_same strings Word w k u v a some h =
    ap (λ s. lexeme_of_prefix s v) (prefix_same w k u v a some)
    ∙ prefixed_same w (prefix_of (get_or u 0 0) (get_or u 1 0) (get_or u 2 0)) k u v a h
form_same strings Dollar w k u v a some h = dollar_same w k u v a some h
form_same strings Number w k u v a some h = number_same w k u v a h
form_same strings DotDot w k u v a some h = refl
form_same strings Fraction w k u v a some h = fractional_same w k u v 1 a h
form_same strings Psql w k u v a some h = psql_same w k u v a h
form_same strings Symbol w k u v a some h =
    ap (λ c. lexeme_until (symbol c) 1) (read k u v 0 a (omega arith))

-- The form that a text begins with.
abbrev pub first_form : List ℕ → TokenForm
first_form u = token_form (get_or u 0 0) (get_or u 1 0)

-- A token is the same in texts that are alike up to its end.
pub lexeme_same : {tests : Tests} {pairs : PairTests} (strings : Strings) (s : Bool) (k : ℕ)
    (u v : List ℕ) → Alike tests pairs k u v → first_form v ≡ first_form u
    → AsksOf tests pairs (first_form u) → (lexeme_at strings s u).end ≡ k
    → lexeme_at strings s v ≡ lexeme_at strings s u
lexeme_same strings s k u v a rows w e =
    pick (λ (x : Lexeme). x.end) _ _ (lexeme_until kinds.Whitespace 1) (lexeme_of strings u)
    (lexeme_until kinds.Whitespace 1) (lexeme_of strings v) k
    (ap (λ c. s && eqb c byte_order_mark) first) (λ t h. refl)
    (λ t h. ap (λ x. lexeme_of_form strings x v) rows
    ∙ form_same strings (first_form u) w k u v a some h) (omega (arith, e))
  where
    within : k < length u
    within = a.left

    some : 1 ≤ k
    some = omega (arith, lexeme_at_some strings s u (omega arith), e)

    first : get_or v 0 0 ≡ get_or u 0 0
    first = read k u v 0 a some

-- The token of a lexeme: its kind and its length in bytes.
abbrev pub token_from : Lexeme → List ℕ → Token
token_from x u = record { kind = x.kind; len = utf8_len (take x.end u) }

-- So is its length in bytes.
pub token_of : {tests : Tests} {pairs : PairTests} (strings : Strings) (s : Bool) (k : ℕ)
    (u v : List ℕ) → Alike tests pairs k u v → (lexeme_at strings s u).end ≡ k
    → lexeme_at strings s v ≡ lexeme_at strings s u → token_at strings s v ≡ token_at strings s u
token_of strings s k u v a e same = ap (λ x. token_from x v) same ∙ ap (λ w. record {
  kind = (lexeme_at strings s u).kind;
  len = utf8_len w;
}) (take_same k u v (lexeme_at strings s u).end a (omega (arith, e)))

-- ---- texts whose next character is the same: every test says the same of it

-- Every test of one character.
abbrev pub Any : (ℕ → Bool) → Type 0
Any p = ⊤

-- Every pair of tests whose first one `;` (59) does not pass.
abbrev pub PastSemi : (ℕ → Bool) → (ℕ → Bool) → Type 0
PastSemi p q = p 59 ≡ false

-- The tests of words and numbers are among these, those of psql commands, and those of every form.
any : Asks Any PastSemi
any = record {
  id_start = tt;
  id_cont = tt;
  tag_cont = tt;
  digit = tt;
  hex = tt;
  letters = λ x y p q. tt;
  no_point = tt;
  dollar = tt;
  apostrophe = tt;
  quotation = tt;
  points = refl;
  signs = refl;
  underscore_digit = refl;
  underscore_hex_digit = refl;
  and_string = refl;
  and_ident = refl;
}

pub any_psql : AsksPsql Any
any_psql = record {
  line_end = tt;
  not_line_end = tt;
  blank = tt;
  command_word = tt;
  ends = tt;
  other = λ x e. tt;
}

asks_any : (s : TokenForm) → AsksOf Any PastSemi s
asks_any s = asks_form any any_psql tt tt s

-- Texts that agree on the next character, and on the one after it unless the next is `;`, are
-- alike.
pub alike_next : (k : ℕ) (u v : List ℕ) → Agrees (k + 1) u v → Agrees (k + 2) u v
    ⊎ (get_or u k 0 ≡ 59) → Alike Any PastSemi k u v
alike_next k u v a more = record {
  left = let w : k + 1 ≤ length u = a.within in omega arith;
  right = let w : k + 1 ≤ length v = agrees_right (k + 1) u v a in omega arith;
  same = (agrees_less k (k + 1) u v (omega arith) a).same;
  follows = record { one = λ p t. ap p here; two = λ p q t. by p q t more };
}
  where
    here : get_or v k 0 ≡ get_or u k 0
    here = agrees_read (k + 1) u v k a (omega arith)

    by : (p q : ℕ → Bool) → PastSemi p q → Agrees (k + 2) u v ⊎ (get_or u k 0 ≡ 59)
        → (p (get_or v k 0) && q (get_or (drop (k + 1) v) 0 0))
        ≡ (p (get_or u k 0) && q (get_or (drop (k + 1) u) 0 0))
    by p q t (inl two) =
        let next : get_or (drop (k + 1) v) 0 0 ≡ get_or (drop (k + 1) u) 0 0 = after k v
        ∙ agrees_read (k + 2) u v (k + 1) two (omega arith) ∙ sym (after k u) in
        ap (λ c. p c && q (get_or (drop (k + 1) v) 0 0)) here
        ∙ ap (λ c. p (get_or u k 0) && q c) next
    by p q t (inr semi) = rw (here, semi, t) refl

-- So a token is the same in such texts.
pub lexeme_next : (strings : Strings) (s : Bool) (k : ℕ) (u v : List ℕ) → Agrees (k + 1) u v
    → Agrees (k + 2) u v ⊎ (get_or u k 0 ≡ 59) → (lexeme_at strings s u).end ≡ k
    → lexeme_at strings s v ≡ lexeme_at strings s u
lexeme_next strings s k u v a more e =
    let within : k + 1 ≤ length u = a.within in
    let some : 1 ≤ k = omega (arith, lexeme_at_some strings s u (omega arith), e) in
    let rows : first_form v ≡ first_form u =
    ap (λ c. token_form c (get_or v 1 0)) (agrees_read (k + 1) u v 0 a (omega arith))
    ∙ ap (token_form (get_or u 0 0)) (agrees_read (k + 1) u v 1 a (omega arith)) in
    lexeme_same strings s k u v (alike_next k u v a more) rows (asks_any (first_form u)) e

-- ---- the laws

-- Texts that agree on two more characters agree on one more.
agrees_two : (k : ℕ) (u v : List ℕ) → Agrees (k + 2) u v → Agrees (k + 1) u v
agrees_two k u v a = agrees_less (k + 1) (k + 2) u v (omega arith) a

-- The laws of look-ahead.
pub lexemes_look_ahead : LexemesLookAhead
lexemes_look_ahead strings s u v a =
    let k = (lexeme_at strings s u).end in
    lexeme_next strings s k u v (agrees_two k u v a) (inl a) refl

pub tokens_look_ahead : TokensLookAhead
tokens_look_ahead strings s u v a =
    let k = (lexeme_at strings s u).end in
    token_of strings s k u v (alike_next k u v (agrees_two k u v a) (inl a)) refl
    (lexemes_look_ahead strings s u v a)
