-- A token stays the same whichever gap follows it directly.
use Rattle.std.proofs.Common.{◌≡◌, ℕ, zero, suc, ◌+◌, ◌<◌, ◌≤◌, Bool, true, false, List, [], ◌∷◌, ◌++◌, length, get_or, take, drop, length-drop, refl, sym, ap, subst, ◌∙◌, inl, inr, ◌⊎◌, not, ◌&&◌, eqb, cond, arith}
use Rattle.std.specs.Bool.{⊤}
use Rattle.std.specs.List.{prefix_len}
use Rattle.std.proofs.lemmas.Bool.{cases_lt, cases_eq, cases_Bool, false≢true}
use Rattle.std.proofs.lemmas.Bool.Decides.{nat_tests}
use Rattle.std.proofs.lemmas.List.{get_or-drop}
use Rattle.std.proofs.lemmas.List.Sums.{prefix_len_stops}
use Rattle.squawk_lexer.specs.declared.token.Strings.{Strings}
use Rattle.squawk_lexer.specs.declared.forms.TokenForm.{TokenForm}
use Rattle.squawk_lexer.specs.declared.forms.TokenForm.TheVariants.{Whitespace, LineComment, BlockComment, String, QuotedIdent, Word, Dollar, Number, DotDot, Fraction, Psql, Symbol}
use Rattle.squawk_lexer.specs.Kind.{Lexeme}
use Rattle.squawk_lexer.specs.Classes.{is_whitespace, is_line_end, is_not_line_end, is_blank, is_digit, is_ident_start, byte_order_mark}
use Rattle.squawk_lexer.specs.Runs.{run_end, line_end}
use Rattle.squawk_lexer.specs.PsqlWords.{is_among, pipe_words, option_words, takes_line}
use Rattle.squawk_lexer.specs.PsqlParts.{ends_arguments, part_rest, arguments_len, arguments_end}
use Rattle.squawk_lexer.specs.Psql.{psql, command_word, word_end, output_start, output_end, command_end}
use Rattle.squawk_lexer.specs.Token.{token_form, lexeme_of_form, lexeme_of, lexeme_at}
use Rattle.squawk_lexer.specs.Cut.{is_trivia}
use Rattle.squawk_lexer.specs.Gaps.{begins_gap, TokensStay}
use Rattle.squawk_lexer.proofs.TokenLaws.{lexeme_at_some}
use Rattle.squawk_lexer.proofs.Ahead.{Alike}
use Rattle.squawk_lexer.proofs.AheadRuns.{Asks}
use Rattle.squawk_lexer.proofs.AheadPsql.{AsksPsql, psql_same}
use Rattle.squawk_lexer.proofs.AheadTokens.{first_form, form_same}
use Rattle.squawk_lexer.proofs.GapTests.{is_gap_start, gap_whitespace, whitespace_start, SameOnGapStarts, whitespace_gap, FailsOnGapStarts, letters_same_on_gap_starts, IsOn, put, gap_within, on_read, gap_at, gap_pair}

-- ---- directly after

-- The tests of words and numbers say the same of all characters that may begin a gap.
asks_calm : Asks SameOnGapStarts FailsOnGapStarts
asks_calm = record {
  id_start = λ c t. grind (arith, nat_tests);
  id_cont = λ c t. grind (arith, nat_tests);
  tag_cont = λ c t. grind (arith, nat_tests);
  digit = λ c t. grind (arith, nat_tests);
  hex = λ c t. grind (arith, nat_tests);
  letters = letters_same_on_gap_starts;
  no_point = λ c t. grind (arith, nat_tests);
  dollar = λ c t. grind (arith, nat_tests);
  apostrophe = λ c t. grind (arith, nat_tests);
  quotation = λ c t. grind (arith, nat_tests);
  points = λ c e t. grind (arith, nat_tests);
  signs = λ c e t. grind (arith, nat_tests);
  underscore_digit = λ c e t. grind (arith, nat_tests);
  underscore_hex_digit = λ c e t. grind (arith, nat_tests);
  and_string = λ c e t. grind (arith, nat_tests);
  and_ident = λ c e t. grind (arith, nat_tests);
}

-- A form whose tokens are not trivia.
abbrev pub NoGap : TokenForm → Type 0
NoGap Whitespace = ⊥
NoGap LineComment = ⊥
NoGap BlockComment = ⊥
NoGap _ = ⊤

-- A lexeme that is not trivia has such a form.
no_gap : (strings : Strings) (s : TokenForm) (u : List ℕ)
    → is_trivia (lexeme_of_form strings s u).kind ≡ false → NoGap s
no_gap strings Whitespace u t = absurd (false≢true (sym t))
no_gap strings LineComment u t = absurd (false≢true (sym t))
no_gap strings BlockComment u t = absurd (false≢true (sym t))
no_gap strings String u t = tt
no_gap strings QuotedIdent u t = tt
no_gap strings Word u t = tt
no_gap strings Dollar u t = tt
no_gap strings Number u t = tt
no_gap strings DotDot u t = tt
no_gap strings Fraction u t = tt
no_gap strings Psql u t = tt
no_gap strings Symbol u t = tt

-- The form by the first character and by four tests of the first two.
abbrev form_from : ℕ → Bool → Bool → Bool → Bool → TokenForm
form_from c line_end block dots point =
    cond (is_whitespace c) Whitespace
    (cond line_end LineComment
    (cond block BlockComment
    (cond (eqb c 39) String
    (cond (eqb c 34) QuotedIdent
    (cond (is_ident_start c) Word
    (cond (eqb c 36) Dollar
    (cond (is_digit c) Number
    (cond dots DotDot
    (cond point Fraction
    (cond (eqb c 92) Psql Symbol))))))))))

-- `token_form` in these terms.
pub form_is : (c d : ℕ) → token_form c d
    ≡ form_from c (eqb c 45 && eqb d 45) (eqb c 47 && eqb d 42) (eqb c 46 && eqb d 46)
    (eqb c 46 && is_digit d)
unfolding token_form
form_is c d = refl

-- Two `-` begin a line comment.
line_form : (c d : ℕ) → (eqb c 45 && eqb d 45) ≡ true → token_form c d ≡ LineComment
unfolding token_form
line_form c d t =
    let whitespace : is_whitespace c ≡ false = grind (arith, nat_tests) in
    rw (whitespace, t) refl

-- Before a gap, the first character alone decides a form that is not trivia.
form_before : (c d : ℕ) → is_gap_start d ≡ true → NoGap (token_form c d)
    → token_form c d ≡ form_from c false false false false
form_before c d t n =
    let line_end : (eqb c 45 && eqb d 45) ≡ false =
    elim (cases_Bool (eqb c 45 && eqb d 45))
    [ inl is ↦ absurd (subst NoGap (line_form c d is) n) | inr not ↦ not ] in
    let block : (eqb c 47 && eqb d 42) ≡ false = grind (arith, nat_tests) in
    let dots : (eqb c 46 && eqb d 46) ≡ false = grind (arith, nat_tests) in
    let point : (eqb c 46 && is_digit d) ≡ false = grind (arith, nat_tests) in
    form_is c d ∙ rw (line_end, block, dots, point) refl

-- Before white space, the first character alone decides the form.
form_before_whitespace : (c g : ℕ) → is_whitespace g ≡ true
    → token_form c g ≡ form_from c false false false false
form_before_whitespace c g t =
    let line_end : (eqb c 45 && eqb g 45) ≡ false = grind (arith, nat_tests) in
    let block : (eqb c 47 && eqb g 42) ≡ false = grind (arith, nat_tests) in
    let dots : (eqb c 46 && eqb g 46) ≡ false = grind (arith, nat_tests) in
    let point : (eqb c 46 && is_digit g) ≡ false = grind (arith, nat_tests) in
    form_is c g ∙ rw (line_end, block, dots, point) refl

-- The text ends at index n, or a line end or a backslash is there.
abbrev Stops : List ℕ → ℕ → Type 0
Stops u n = n < length u → ends_arguments (get_or u n 0) ≡ true

-- A psql command ends so: each of its possible ends, and the one that is chosen.
either_stops : (b : Bool) (u : List ℕ) (x y : ℕ) → Stops u x → Stops u y → Stops u (cond b x y)
either_stops true u x y p q = p
either_stops false u x y p q = q

line_stops : (u : List ℕ) (i : ℕ) → Stops u (line_end u i)
line_stops u i h =
    let n = prefix_len is_not_line_end (drop i u) in
    let end : is_not_line_end (get_or (drop i u) n 0) ≡ false =
    prefix_len_stops is_not_line_end (drop i u) 0 (omega (arith, length-drop i u)) in
    let here : is_not_line_end (get_or u (line_end u i) 0) ≡ false =
    sym (ap is_not_line_end (get_or-drop i u n 0)) ∙ end in
    grind (arith, nat_tests)

one_on : (c : ℕ) (cs : List ℕ) (n : ℕ) → ends_arguments (get_or (c ∷ cs) (1 + n) 0)
    ≡ ends_arguments (get_or cs n 0)
one_on c cs n = ap (λ m. ends_arguments (get_or (c ∷ cs) m 0)) (let e : 1 + n ≡ suc n = omega arith
    in e)

parts_stop : (inside : ℕ) (v : List ℕ) → Stops v (arguments_len inside v)
parts_stop inside [] h = absurd (omega arith)
parts_stop zero (c ∷ cs) h = by (ends_arguments c) refl (parts_stop (part_rest c cs) cs) h
  where
    n : ℕ
    n = arguments_len (part_rest c cs) cs

    by : (b : Bool) → ends_arguments c ≡ b → Stops cs n → cond b 0 (1 + n) < length (c ∷ cs)
        → ends_arguments (get_or (c ∷ cs) (cond b 0 (1 + n)) 0) ≡ true
    by true t more h = t
    by false t more h = one_on c cs n ∙ more (omega arith)
parts_stop (suc i) (c ∷ cs) h = one_on c cs (arguments_len i cs) ∙ parts_stop i cs (omega arith)

args_stop : (u : List ℕ) (i : ℕ) → Stops u (arguments_end u i)
args_stop u i h = sym (ap ends_arguments (get_or-drop i u (arguments_len 0 (drop i u)) 0))
    ∙ parts_stop 0 (drop i u) (omega (arith, length-drop i u))

command_stops : (u : List ℕ) → Stops u (command_end u)
command_stops u =
    let w = word_end u in
    let p = output_start (is_among option_words (command_word u)) u (run_end is_blank u w) in
    either_stops (takes_line (command_word u)) u (line_end u w) _ (line_stops u w)
    (either_stops (is_among pipe_words (command_word u)) u (output_end u p) (arguments_end u w)
    (either_stops (eqb (get_or u p 0) 124) u (line_end u p) (arguments_end u p) (line_stops u p)
    (args_stop u p)) (args_stop u w))

-- A test that says the same of LF (10) and CR (13).
abbrev OfLineEnds : (ℕ → Bool) → Type 0
OfLineEnds p = p 13 ≡ p 10

-- No pair of tests.
abbrev NoPair : (ℕ → Bool) → (ℕ → Bool) → Type 0
NoPair p q = ⊥

-- The tests of a psql command are such.
asks_psql : AsksPsql OfLineEnds
asks_psql = record {
  line_end = refl;
  not_line_end = refl;
  blank = refl;
  command_word = refl;
  ends = refl;
  other = λ x e. of x e;
}
  where
    of : (x : ℕ) → is_line_end x ≡ false → eqb 13 x ≡ eqb 10 x
    of x e =
        let left : eqb 13 x ≡ false = grind (arith, nat_tests) in
        let right : eqb 10 x ≡ false = grind (arith, nat_tests) in
        left ∙ sym right

-- Such a test says the same of LF and any line end.
of_line_ends : (p : ℕ → Bool) → OfLineEnds p → (c : ℕ) → is_line_end c ≡ true → p 10 ≡ p c
of_line_ends p same c t = elim (cases_eq c 10) [
  | inl is ↦ ap p (sym is)
  | inr is_not ↦ sym same ∙ ap p (let other : 13 ≡ c = grind (arith, nat_tests) in other)
]

-- A psql command before a line end stays the same before LF.
command_stays : (u v : List ℕ) → IsOn (psql u).end 10 u v
    → is_line_end (get_or u (psql u).end 0) ≡ true → psql v ≡ psql u
command_stays u v on t = psql_same asks_psql (psql u).end u v a (omega arith)
  where
    a : Alike OfLineEnds NoPair (psql u).end u v
    a = record {
      left = on.within;
      right = on.right;
      same = on.same;
      follows = record {
        one = λ p x. ap p on.at ∙ of_line_ends p x (get_or u (psql u).end 0) t;
        two = λ p q x. absurd x;
      };
    }

-- A token that begins with a backslash stays the same, whichever gap follows it.
pair_stays : (u v : List ℕ) (b c d : Bool) → eqb (get_or u 1 0) 92 ≡ b → eqb (get_or u 1 0) 59 ≡ c
    → eqb (get_or u 1 0) 58 ≡ d → (g : ℕ) → IsOn (psql u).end g u v
    → begins_gap (drop (psql u).end u) ≡ true
    → (is_line_end (get_or u (psql u).end 0) ≡ true → g ≡ 10) → psql v ≡ psql u
pair_stays u v true c d e f h g on t crlf =
    let two : (psql u).end ≡ 2 = rw e refl in
    let next : eqb (get_or v 1 0) 92 ≡ true =
    ap (λ c. eqb c 92) (on_read (psql u).end g u v 1 on (omega (arith, two))) ∙ e in
    rw (next, e) refl
pair_stays u v false true d e f h g on t crlf =
    let two : (psql u).end ≡ 2 = rw (e, f) refl in
    let same = on_read (psql u).end g u v 1 on (omega (arith, two)) in
    rw (same, e, f) refl
pair_stays u v false false true e f h g on t crlf =
    let two : (psql u).end ≡ 2 = rw (e, f, h) refl in
    let same = on_read (psql u).end g u v 1 on (omega (arith, two)) in
    rw (same, e, f, h) refl
pair_stays u v false false false e f h g on t crlf =
    let is : (psql u).end ≡ command_end u = rw (e, f, h) refl in
    let first : is_gap_start (get_or u (psql u).end 0) ≡ true = gap_at (psql u).end u t in
    let stops : ends_arguments (get_or u (psql u).end 0) ≡ true =
    subst (Stops u) (sym is) (command_stops u) on.within in
    let line_end : is_line_end (get_or u (psql u).end 0) ≡ true = grind (arith, nat_tests) in
    command_stays u v (subst (λ n. IsOn (psql u).end n u v) (crlf line_end) on) line_end

-- The law, by the form of the token.
pub tokens_stay : TokensStay
tokens_stay strings s u g rest t gap whitespace crlf = by (s && eqb (get_or u 0 0) byte_order_mark) refl
  where
    k : ℕ
    k = (lexeme_at strings s u).end

    v : List ℕ
    v = take k u ++ g ∷ rest

    on : IsOn k g u v
    on = put k g rest u (gap_within k u gap)

    some : 1 ≤ k
    some = lexeme_at_some strings s u (let within : k < length u = on.within in omega arith)

    first : get_or v 0 0 ≡ get_or u 0 0
    first = on_read k g u v 0 on some

    start_at : is_gap_start (get_or u k 0) ≡ true
    start_at = gap_at k u gap

    same_on_gap_starts : Alike SameOnGapStarts FailsOnGapStarts k u v
    same_on_gap_starts = record {
      left = on.within;
      right = on.right;
      same = on.same;
      follows = record {
        one = λ p x. ap p on.at ∙ x g (whitespace_start g (gap_whitespace g whitespace))
            ∙ sym (x (get_or u k 0) start_at);
        two = λ p q x. x (get_or v k 0) _ (whitespace_gap (get_or v k 0) _ (ap is_whitespace on.at
            ∙ gap_whitespace g whitespace)) ∙ sym (x (get_or u k 0) _ (gap_pair k u gap));
      };
    }

    rows : NoGap (first_form u) → first_form v ≡ first_form u
    rows n = near (cases_lt 1 k)
      where
        near : (1 < k) ⊎ (k ≤ 1) → first_form v ≡ first_form u
        near (inl more) = ap (λ c. token_form c (get_or v 1 0)) first
            ∙ ap (token_form (get_or u 0 0)) (on_read k g u v 1 on more)
        near (inr less) =
            let one : k ≡ 1 = omega (arith, some) in
            let here : is_gap_start (get_or u 1 0) ≡ true =
            sym (ap (λ n. is_gap_start (get_or u n 0)) one) ∙ start_at in
            let there : is_whitespace (get_or v 1 0) ≡ true =
            sym (ap (λ n. is_whitespace (get_or v n 0)) one) ∙ ap is_whitespace on.at
            ∙ gap_whitespace g whitespace in
            ap (λ c. token_form c (get_or v 1 0)) first
            ∙ form_before_whitespace (get_or u 0 0) (get_or v 1 0) there
            ∙ sym (form_before (get_or u 0 0) (get_or u 1 0) here n)

    of_row : (r : TokenForm) → NoGap r → (lexeme_of_form strings r u).end ≡ k
        → lexeme_of_form strings r v ≡ lexeme_of_form strings r u
    of_row Whitespace n e = absurd n
    of_row LineComment n e = absurd n
    of_row BlockComment n e = absurd n
    of_row Psql n e = pair_stays u v _ _ _ refl refl refl g (subst
        (λ m. IsOn m g u v) (sym e) on) (ap (λ m. begins_gap (drop m u)) e ∙ gap)
        (λ x. crlf (sym (ap (λ m. is_line_end (get_or u m 0)) e) ∙ x))
    of_row String n e = form_same strings String asks_calm k u v same_on_gap_starts some (omega (arith, e))
    of_row QuotedIdent n e =
        form_same strings QuotedIdent asks_calm k u v same_on_gap_starts some (omega (arith, e))
    of_row Word n e = form_same strings Word asks_calm k u v same_on_gap_starts some (omega (arith, e))
    of_row Dollar n e = form_same strings Dollar asks_calm k u v same_on_gap_starts some (omega (arith, e))
    of_row Number n e = form_same strings Number asks_calm k u v same_on_gap_starts some (omega (arith, e))
    of_row DotDot n e = form_same strings DotDot tt k u v same_on_gap_starts some (omega (arith, e))
    of_row Fraction n e = form_same strings Fraction asks_calm k u v same_on_gap_starts some (omega (arith, e))
    of_row Symbol n e = form_same strings Symbol tt k u v same_on_gap_starts some (omega (arith, e))

    by : (b : Bool) → (s && eqb (get_or u 0 0) byte_order_mark) ≡ b
        → lexeme_at strings s v ≡ lexeme_at strings s u
    by true e =
        let whitespace_kind : is_trivia (lexeme_at strings s u).kind ≡ true = rw e refl in
        absurd (false≢true (sym t ∙ whitespace_kind))
    by false e =
        let is : lexeme_at strings s u ≡ lexeme_of strings u = rw e refl in
        let test : (s && eqb (get_or v 0 0) byte_order_mark) ≡ false =
        ap (λ c. s && eqb c byte_order_mark) first ∙ e in
        let there : lexeme_at strings s v ≡ lexeme_of strings v = rw test refl in
        let n : NoGap (first_form u) =
        no_gap strings (first_form u) u (sym (ap (λ (x : Lexeme). is_trivia x.kind) is) ∙ t) in
        there ∙ ap (λ r. lexeme_of_form strings r v) (rows n)
        ∙ of_row (first_form u) n (sym (ap (λ (x : Lexeme). x.end) is)) ∙ sym is
