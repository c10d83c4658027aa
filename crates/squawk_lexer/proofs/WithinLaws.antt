-- No token ends past the end of its text.
use Rattle.std.proofs.Common.{◌≡◌, ℕ, zero, suc, ◌+◌, ◌<◌, ◌≤◌, Bool, true, false, List, [], ◌∷◌, length, get_or, drop, None, Some, Option, option_map, unwrap_or, nat_eq, not, ◌&&◌, ◌||◌, eqb, cond, refl, arith}
use Rattle.std.proofs.lemmas.Bool.{and_parts}
use Rattle.std.proofs.lemmas.Bool.Decides.{nat_tests}
use Rattle.std.proofs.lemmas.List.{length-drop}
use Rattle.std.specs.List.{starts_with}
use Rattle.squawk_lexer.specs.declared.token.Strings.{Strings}
use Rattle.squawk_lexer.specs.declared.forms.TokenForm.{TokenForm}
use Rattle.squawk_lexer.specs.declared.forms.TokenForm.TheVariants.{Whitespace, LineComment, BlockComment, String, QuotedIdent, Word, Dollar, Number, DotDot, Fraction, Psql, Symbol}
use Rattle.squawk_lexer.specs.declared.forms.StringPrefix.{StringPrefix}
use Rattle.squawk_lexer.specs.declared.forms.StringPrefix.TheVariants.{National, Bit, Byte, Escape, UnicodeString, UnicodeIdent, NoPrefix}
use Rattle.squawk_lexer.specs.declared.token.Base.TheVariants.{Binary, Octal, Decimal, Hexadecimal}
use Rattle.squawk_lexer.specs.declared.token.TokenKind.TheVariants as kinds
use Rattle.squawk_lexer.specs.Kind.{Lexeme, lexeme_until}
use Rattle.squawk_lexer.specs.Position.{position_after}
use Rattle.squawk_lexer.specs.Classes.{is_whitespace, is_ident_start, is_ident_cont, is_digit, is_hex_digit, is_blank, is_command_char, is_not_line_end, apostrophe, quotation_mark, byte_order_mark}
use Rattle.squawk_lexer.specs.Runs.{run_end, line_end, junk_end, digits_len, digits_end, hex_digits_end, is_sign, exponent_end, is_exponent_letter, fraction_end}
use Rattle.squawk_lexer.specs.Quoted.{quoted_len, end_or_text_end, quoted_end}
use Rattle.squawk_lexer.specs.Comment.{comment_len, opens_comment, closes_comment}
use Rattle.squawk_lexer.specs.Numbers.{number, decimal_from, fractional, with_exponent, numeric, int, based_int, parameter}
use Rattle.squawk_lexer.specs.Dollar.{find_end, tag_end, delimiter, delimiter_end, is_dollar_quote_start, dollar_string, dollar}
use Rattle.squawk_lexer.specs.PsqlWords.{is_among, query_ending_words, pipe_words, option_words, takes_line}
use Rattle.squawk_lexer.specs.PsqlParts.{arguments_len, arguments_end, part_rest, mark_after, is_parenthesis, ends_arguments, marked_len, marked_len_at}
use Rattle.squawk_lexer.specs.Psql.{psql, command_word, word_end, options_end, output_start, output_end, command_end}
use Rattle.squawk_lexer.specs.Token.{token_form, prefix_of, lexeme_of_form, lexeme_of_prefix, lexeme_of, lexeme_at}
use Rattle.squawk_lexer.specs.Laws.{TokensWithin, LengthsWithin}
use Rattle.squawk_lexer.proofs.Steps.{within_read, letter_within}
use Rattle.squawk_lexer.proofs.WordSteps.{opens_national, opens_bit, opens_byte, opens_escape, opens_string, opens_ident}
use Rattle.squawk_lexer.proofs.FormSteps.{begin_line, begin_block, begin_dots}
use Rattle.squawk_lexer.proofs.LawLemmas.{runs_are_longest}

-- ---- of two ends, either is within n

-- Of two ends, two lexemes or two lengths, the chosen one is within n.
less : (b : Bool) (x y n : ℕ) → (b ≡ true → x ≤ n) → y ≤ n → cond b x y ≤ n
less true x y n p q = p refl
less false x y n p q = q

either : (b : Bool) (x y : Lexeme) (n : ℕ) → (b ≡ true → x.end ≤ n) → y.end ≤ n
    → (cond b x y).end ≤ n
either true x y n p q = p refl
either false x y n p q = q

found : (b : Bool) (x y : Option ℕ) (n : ℕ) → (b ≡ true → unwrap_or x n ≤ n) → unwrap_or y n ≤ n
    → unwrap_or (cond b x y) n ≤ n
found true x y n p q = p refl
found false x y n p q = q

-- A length found k characters later is within the text.
on : (o : Option ℕ) (k len total : ℕ) → total ≡ len + k → unwrap_or o len ≤ len
    → unwrap_or (option_map (λ n. n + k) o) total ≤ total
on None k len total e h = omega arith
on (Some m) k len total e h = omega arith

-- The index after a character is within the text.
after_in : (u : List ℕ) (i n : ℕ) → i ≤ length u → position_after u i ≡ n → n ≤ length u
after_in u i n h e = let le : position_after u i ≤ length u = grind (arith, nat_tests) in
    omega arith

-- A character other than NUL that was read is in the text.
read_in : (u : List ℕ) (i c : ℕ) → 0 < c → eqb (get_or u i 0) c ≡ true → i + 1 ≤ length u
read_in u i c some t =
    let is : 0 < get_or u i 0 = grind (arith, nat_tests) in
    let h : i < length u = within_read u i is in
    omega arith

-- ---- runs and numbers

-- Runs and the parts of numbers end within the text.
run_in : (class : ℕ → Bool) (u : List ℕ) (i : ℕ) → i ≤ length u → run_end class u i ≤ length u
run_in class u i h = (runs_are_longest class u i h).within

digits_in : (digit : ℕ → Bool) (u : List ℕ) (i : ℕ) → i ≤ length u
    → i + digits_len digit (drop i u) ≤ length u
digits_in digit u i h = omega (arith, len digit (drop i u), length-drop i u)
  where
    len : (digit : ℕ → Bool) (v : List ℕ) → digits_len digit v ≤ length v
    len digit [] = omega arith
    len digit (c ∷ cs) =
        less (digit c || (eqb c 95 && digit (get_or cs 0 0))) (1 + digits_len digit cs) 0 _
        (λ t. omega (arith, len digit cs)) (omega arith)

junk_in : (u : List ℕ) (i : ℕ) → i ≤ length u → junk_end u i ≤ length u
junk_in u i h = less (is_ident_start (get_or u i 0)) (run_end is_ident_cont u i) i _
    (λ t. run_in is_ident_cont u i h) h

exponent_in : (u : List ℕ) (i : ℕ) → i < length u → exponent_end u i ≤ length u
exponent_in u i h =
    less (is_sign (get_or u (i + 1) 0) && is_digit (get_or u (i + 2) 0)) (digits_end u (i + 2)) _ _
    (λ t. digits_in is_digit u (i + 2) (signed t))
    (less (is_digit (get_or u (i + 1) 0)) (digits_end u (i + 1)) (i + 1) _
    (λ t. digits_in is_digit u (i + 1) (omega arith)) (omega arith))
  where
    signed : (is_sign (get_or u (i + 1) 0) && is_digit (get_or u (i + 2) 0)) ≡ true
        → i + 2 ≤ length u
    signed t =
        let some : 0 < get_or u (i + 1) 0 = grind (arith, nat_tests) in
        let k : i + 1 < length u = within_read u (i + 1) some in
        omega arith

with_exponent_in : (u : List ℕ) (i : ℕ) → i < length u → (with_exponent u i).end ≤ length u
with_exponent_in u i h = junk_in u (exponent_end u i) (exponent_in u i h)

fraction_in : (u : List ℕ) (i : ℕ) → i ≤ length u → fraction_end u i ≤ length u
fraction_in u i h = less (is_digit (get_or u i 0)) (digits_end u i) i _
    (λ t. digits_in is_digit u i h) h

fractional_in : (u : List ℕ) (i : ℕ) → i ≤ length u → (fractional u i).end ≤ length u
fractional_in u i h =
    let n = fraction_end u i in
    either (is_exponent_letter (get_or u n 0)) (with_exponent u n) (numeric None u n) _
    (λ t. with_exponent_in u n (letter_within u n t)) (junk_in u n (fraction_in u i h))

decimal_in : (u : List ℕ) (a : ℕ) → a ≤ length u → (decimal_from u a).end ≤ length u
decimal_in u a h =
    either (eqb (get_or u a 0) 46 && not (eqb (get_or u (a + 1) 0) 46)) (fractional u (a + 1)) _ _
    (λ t. fractional_in u (a + 1) (read_in u a 46 (omega arith) (and_parts _ _ t).0))
    (either (is_exponent_letter (get_or u a 0)) (with_exponent u a) (int Decimal false u a) _
    (λ t. with_exponent_in u a (letter_within u a t)) (junk_in u a h))

-- The letter of a base prefix is in the text.
base_in : (u : List ℕ) (x y : ℕ) → 0 < x → 0 < y
    → (eqb (get_or u 0 0) 48 && (eqb (get_or u 1 0) x || eqb (get_or u 1 0) y)) ≡ true
    → 2 ≤ length u
base_in u x y p q t =
    let some : 0 < get_or u 1 0 = grind (arith, nat_tests) in
    let h : 1 < length u = within_read u 1 some in
    omega arith

-- Every number ends within the text.
number_in : (u : List ℕ) → 1 ≤ length u → (number u).end ≤ length u
number_in u h =
    either _ (based_int Binary u (digits_end u 2)) _ _
    (λ t. junk_in u (digits_end u 2) (digits_in is_digit u 2
    (base_in u 98 66 (omega arith) (omega arith) t)))
    (either _ (based_int Octal u (digits_end u 2)) _ _
    (λ t. junk_in u (digits_end u 2) (digits_in is_digit u 2
    (base_in u 111 79 (omega arith) (omega arith) t)))
    (either _ (based_int Hexadecimal u (hex_digits_end u 2)) (decimal_from u (digits_end u 1)) _
    (λ t. junk_in u (hex_digits_end u 2) (digits_in is_hex_digit u 2
    (base_in u 120 88 (omega arith) (omega arith) t)))
    (decimal_in u (digits_end u 1) (digits_in is_digit u 1 h))))

-- ---- elements that close

-- Quoted texts, block comments and dollar-quoted strings end within the text.
end_in : (u : List ℕ) (i : ℕ) (o : Option ℕ) → i ≤ length u
    → unwrap_or o (length (drop i u)) ≤ length (drop i u) → end_or_text_end u i o ≤ length u
end_in u i o h k = omega (arith, length-drop i u)

quoted_in : (escapes : Bool) (q : ℕ) (u : List ℕ) (i : ℕ) → i ≤ length u
    → quoted_end escapes q u i ≤ length u
quoted_in escapes q u i h = end_in u i (quoted_len escapes q (drop i u)) h (len (drop i u))
  where
    len : (v : List ℕ) → unwrap_or (quoted_len escapes q v) (length v) ≤ length v
    len [] = omega arith
    len (c ∷ []) = found (eqb c q) (Some 1) None _ (λ t. omega arith) (omega arith)
    len (c ∷ d ∷ cs) =
        let two = on (quoted_len escapes q cs) 2 (length cs) (length (c ∷ d ∷ cs)) (omega arith)
        (len cs) in
        let one = on (quoted_len escapes q (d ∷ cs)) 1 (length (d ∷ cs)) (length (c ∷ d ∷ cs))
        (omega arith) (len (d ∷ cs)) in
        found (eqb c q) _ _ _ (λ t. found (eqb d q) _ (Some 1) _
        (λ s. two) (omega arith)) (found (escapes && eqb c 92) _ _ _ (λ t. two) one)

comment_in : (inner : ℕ) (v : List ℕ) → unwrap_or (comment_len inner v) (length v) ≤ length v
comment_in inner [] = omega arith
comment_in inner (c ∷ []) = omega arith
comment_in zero (c ∷ d ∷ cs) =
    let in_two = on (comment_len 1 cs) 2 (length cs) (length (c ∷ d ∷ cs)) (omega arith)
    (comment_in 1 cs) in
    let one = on (comment_len 0 (d ∷ cs)) 1 (length (d ∷ cs)) (length (c ∷ d ∷ cs)) (omega arith)
    (comment_in 0 (d ∷ cs)) in
    found (opens_comment c d) _ _ _ (λ t. in_two) (found (closes_comment c d) (Some 2) _ _
    (λ t. omega arith) one)
comment_in (suc n) (c ∷ d ∷ cs) =
    let in_two = on (comment_len (suc (suc n)) cs) 2 (length cs) (length (c ∷ d ∷ cs)) (omega arith)
    (comment_in (suc (suc n)) cs) in
    let out_two =
    on (comment_len n cs) 2 (length cs) (length (c ∷ d ∷ cs)) (omega arith) (comment_in n cs) in
    let one = on (comment_len (suc n) (d ∷ cs)) 1 (length (d ∷ cs)) (length (c ∷ d ∷ cs))
    (omega arith) (comment_in (suc n) (d ∷ cs)) in
    found (opens_comment c d) _ _ _ (λ t. in_two) (found (closes_comment c d) _ _ _
    (λ t. out_two) one)

starts_in : (v d : List ℕ) → starts_with nat_eq v d ≡ true → length d ≤ length v
starts_in v [] e = omega arith
starts_in [] (c ∷ d) e = absurd (cc)
starts_in (x ∷ v) (c ∷ d) e = omega (arith, starts_in v d (and_parts _ _ e).1)

find_in : (d v : List ℕ) → unwrap_or (find_end d v) (length v) ≤ length v
find_in d [] = omega arith
find_in d (c ∷ cs) =
    found (starts_with nat_eq (c ∷ cs) d) (Some (length d)) _ _ (λ t. starts_in (c ∷ cs) d t)
    (on (find_end d cs) 1 (length cs) (length (c ∷ cs)) (omega arith) (find_in d cs))

dollar_in : (u : List ℕ) → 1 ≤ length u → (dollar u).end ≤ length u
dollar_in u h =
    either (is_dollar_quote_start u) (dollar_string u) (parameter u) _
    (λ t. end_in u (tag_end u + 1) (delimiter_end u) (read_in u (tag_end u) 36 (omega arith) t)
    (find_in (delimiter u) (drop (tag_end u + 1) u)))
    (junk_in u (run_end is_digit u 1) (run_in is_digit u 1 h))

-- Both characters that begin a token are in the text.
pair_in : (u : List ℕ) → 1 ≤ length u → (position_after u 0 ≡ 1)
    × (position_after u (position_after u 0) ≡ 2) → 2 ≤ length u
pair_in u h (one, two) = after_in u (position_after u 0) 2 (after_in u 0 _ (omega arith) refl) two

-- Words and prefixed strings end within the text.
prefix_in : (s : StringPrefix) (u : List ℕ) → s
    ≡ prefix_of (get_or u 0 0) (get_or u 1 0) (get_or u 2 0) → 1 ≤ length u
    → (lexeme_of_prefix s u).end ≤ length u
prefix_in National u e h = quoted_in false apostrophe u 2 (pair_in u h (opens_national u 0 refl e))
prefix_in Bit u e h = quoted_in false apostrophe u 2 (pair_in u h (opens_bit u 0 refl e))
prefix_in Byte u e h = quoted_in false apostrophe u 2 (pair_in u h (opens_byte u 0 refl e))
prefix_in Escape u e h = quoted_in true apostrophe u 2 (pair_in u h (opens_escape u 0 refl e))
prefix_in UnicodeString u e h =
    let (one, two, three) = opens_string u 0 refl e in
    quoted_in false apostrophe u 3 (after_in u (position_after u (position_after u 0)) 3
    (after_in u (position_after u 0) _ (after_in u 0 _ (omega arith) refl) refl) three)
prefix_in UnicodeIdent u e h =
    let (one, two, three) = opens_ident u 0 refl e in
    quoted_in false quotation_mark u 3 (after_in u (position_after u (position_after u 0)) 3
    (after_in u (position_after u 0) _ (after_in u 0 _ (omega arith) refl) refl) three)
prefix_in NoPrefix u e h = run_in is_ident_cont u 1 h

-- ---- psql commands

-- The parts of a psql command end within the text.
pub args_len_in : (inside : ℕ) (v : List ℕ) → arguments_len inside v ≤ length v
args_len_in inside [] = omega arith
args_len_in zero (c ∷ cs) = less (ends_arguments c) 0 (1 + arguments_len (part_rest c cs) cs) _
    (λ t. omega arith) (omega (arith, args_len_in (part_rest c cs) cs))
args_len_in (suc n) (c ∷ cs) = omega (arith, args_len_in n cs)

args_in : (u : List ℕ) (i : ℕ) → i ≤ length u → arguments_end u i ≤ length u
args_in u i h = omega (arith, args_len_in 0 (drop i u), length-drop i u)

pub marked_in : (inside : ℕ) (mark : Option ℕ) (v : List ℕ)
    → unwrap_or (marked_len inside mark v) (length v) ≤ length v
marked_in inside mark [] = found (is_parenthesis mark) (Some 0) None _
    (λ t. omega arith) (omega arith)
marked_in zero mark (c ∷ cs) =
    let blank = on (marked_len 0 None cs) 1 (length cs) (length (c ∷ cs)) (omega arith)
    (marked_in 0 None cs) in
    let part = on (marked_len (part_rest c cs) (mark_after mark c cs) cs) 1 (length cs)
    (length (c ∷ cs)) (omega arith) (marked_in (part_rest c cs) (mark_after mark c cs) cs) in
    found (ends_arguments c) _ _ _ (λ t. found (is_parenthesis mark) (Some 0) None _
    (λ s. omega arith) (omega arith))
    (found (is_blank c) _ _ _ (λ t. found (is_parenthesis mark) (Some 0) _ _
    (λ s. omega arith) blank) part)
marked_in (suc n) mark (c ∷ cs) =
    on (marked_len n mark cs) 1 (length cs) (length (c ∷ cs)) (omega arith) (marked_in n mark cs)

options_in : (u : List ℕ) (i : ℕ) (o : Option ℕ) → i ≤ length u
    → unwrap_or o (length (drop i u)) ≤ length (drop i u) → options_end u i o ≤ length u
options_in u i None h k = args_in u i h
options_in u i (Some n) h k = run_in is_blank u (i + n) (omega (arith, length-drop i u))

output_start_in : (b : Bool) (u : List ℕ) (i : ℕ) → i ≤ length u → output_start b u i ≤ length u
output_start_in b u i h =
    less (b && eqb (get_or u i 0) 40) (options_end u i (marked_len_at u i)) i _
    (λ t. options_in u i (marked_len_at u i) h (marked_in 0 None (drop i u))) h

output_end_in : (u : List ℕ) (p : ℕ) → p ≤ length u → output_end u p ≤ length u
output_end_in u p h = less (eqb (get_or u p 0) 124) (line_end u p) (arguments_end u p) _
    (λ t. run_in is_not_line_end u p h) (args_in u p h)

command_in : (u : List ℕ) → 1 ≤ length u → command_end u ≤ length u
command_in u h =
    let w : word_end u ≤ length u = run_in is_command_char u 1 h in
    let i = run_end is_blank u (word_end u) in
    let options = is_among option_words (command_word u) in
    less (takes_line (command_word u)) (line_end u (word_end u)) _ _
    (λ t. run_in is_not_line_end u (word_end u) w)
    (less (is_among pipe_words (command_word u)) (output_end u (output_start options u i))
    (arguments_end u (word_end u)) _
    (λ t. output_end_in u (output_start options u i)
    (output_start_in options u i (run_in is_blank u (word_end u) w)))
    (args_in u (word_end u) w))

psql_in : (u : List ℕ) → 1 ≤ length u → (psql u).end ≤ length u
psql_in u h =
    either (eqb (get_or u 1 0) 92) (lexeme_until (kinds.PsqlCommand false) 2) _ _
    (λ t. read_in u 1 92 (omega arith) t)
    (either (eqb (get_or u 1 0) 59) (lexeme_until kinds.Semi 2) _ _
    (λ t. read_in u 1 59 (omega arith) t)
    (either (eqb (get_or u 1 0) 58) (lexeme_until kinds.Colon 2)
    (lexeme_until (kinds.PsqlCommand (is_among query_ending_words (command_word u)))
    (command_end u)) _
    (λ t. read_in u 1 58 (omega arith) t) (command_in u h)))

-- ---- every token

-- The lexeme of each form ends within the text.
form_in : (strings : Strings) (s : TokenForm) (u : List ℕ)
    → s ≡ token_form (get_or u 0 0) (get_or u 1 0) → 1 ≤ length u
    → (lexeme_of_form strings s u).end ≤ length u
form_in strings Whitespace u e h = run_in is_whitespace u 0 (omega arith)
form_in strings LineComment u e h =
    run_in is_not_line_end u 2 (pair_in u h (begin_line u 0 refl h e))
form_in strings BlockComment u e h =
    end_in u 2 (comment_len 0 (drop 2 u)) (pair_in u h (begin_block u 0 refl h e))
    (comment_in 0 (drop 2 u))
form_in strings String u e h = quoted_in _ apostrophe u 1 h
form_in strings QuotedIdent u e h = quoted_in false quotation_mark u 1 h
form_in strings Word u e h =
    prefix_in (prefix_of (get_or u 0 0) (get_or u 1 0) (get_or u 2 0)) u refl h
form_in strings Dollar u e h = dollar_in u h
form_in strings Number u e h = number_in u h
form_in strings DotDot u e h = pair_in u h (begin_dots u 0 refl h e)
form_in strings Fraction u e h = fractional_in u 1 h
form_in strings Psql u e h = psql_in u h
form_in strings Symbol u e h = h

-- Every token ends within the text, and so do the first n.
pub tokens_within : TokensWithin
tokens_within strings at_start u h =
    either (at_start && eqb (get_or u 0 0) byte_order_mark) (lexeme_until kinds.Whitespace 1)
    (lexeme_of strings u) _ (λ t. h)
    (form_in strings (token_form (get_or u 0 0) (get_or u 1 0)) u refl h)

pub lengths_within : LengthsWithin
lengths_within strings at_start zero u = omega arith
lengths_within strings at_start (suc n) [] = omega arith
lengths_within strings at_start (suc n) (c ∷ cs) =
    let u = c ∷ cs in
    let e = (lexeme_at strings at_start u).end in
    omega (
      arith,
      lengths_within strings false n (drop e u),
      length-drop e u,
      tokens_within strings at_start u (omega arith),
    )
