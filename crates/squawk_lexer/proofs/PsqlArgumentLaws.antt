-- The laws of quotes, arguments and marks of psql commands, and worked examples of the first
-- marked argument.
use Rattle.std.proofs.Common.{◌≡◌, ℕ, zero, suc, ◌+◌, ◌-◌, ◌<◌, ◌≤◌, Bool, true, false, List, [], ◌∷◌, length, get_or, slice_get, drop, Option, Some, None, option_map, unwrap_or, eqb, cond, refl, sym, ap, subst, ◌∙◌, arith, codes}
use Rattle.std.specs.List.{prefix_len}
use Rattle.std.proofs.lemmas.List.{length-drop, get_or-drop}
use Rattle.std.proofs.lemmas.List.Sums.{prefix_len-le-length}
use Rattle.std.proofs.lemmas.Bool.Decides.{nat_tests}
use Rattle.squawk_lexer.specs.Classes.{is_blank, is_line_end, is_not_line_end}
use Rattle.squawk_lexer.specs.PsqlParts.{is_psql_quote, is_escape, close_len, ends_arguments, part_rest, arguments_len, mark_after, is_parenthesis, marked_len}
use Rattle.squawk_lexer.specs.PsqlArguments.{begins_escape, IsPieces, NoPiece, OnePiece, EscapePiece, QuotesCloseFirst, OpenQuotesStayOpen, IsParts, NoPart, OnePart, IsLongest, ArgumentsAreLongest, ArgumentsAreUnique, ends_argument, argument_len, ArgumentIsLongest, ArgumentIsUnique, mark_from, first_marked, MarkedIsFirst}
use Rattle.squawk_lexer.proofs.Steps.{within_some}

-- ---- quotes

-- What a length, or its absence, says of a quote.
abbrev Closes : ℕ → List ℕ → Option ℕ → Type 0
Closes q cs None = IsPieces q cs (prefix_len is_not_line_end cs)
Closes q cs (Some n) = (m : ℕ) × (n ≡ m + 1) × IsPieces q cs m × (slice_get cs m ≡ Some q)

-- A quote that closes at once, and one whose line ends.
is_close : (q c : ℕ) (cs : List ℕ) → eqb c q ≡ true → Closes q (c ∷ cs) (Some 1)
is_close q c cs t = let same : c ≡ q = grind (arith, nat_tests) in
    (0, omega arith, NoPiece (c ∷ cs), ap Some same)

no_piece : (q c : ℕ) (cs : List ℕ) → is_line_end c ≡ true → Closes q (c ∷ cs) None
no_piece q c cs t = rw t (NoPiece (c ∷ cs))

-- The law with one more piece before it: a single character, or an escape.
one_piece : (q c : ℕ) (cs : List ℕ) (o : Option ℕ) → is_line_end c ≡ false → eqb c q ≡ false
    → begins_escape q (c ∷ cs) ≡ false → Closes q cs o → Closes q (c ∷ cs) (option_map (λ n. n + 1) o)
one_piece q c cs None t s p more = rw t (OnePiece c cs (prefix_len is_not_line_end cs) t s p more)
one_piece q c cs (Some n) t s p (m, e, pieces, last) = (
  1 + m,
  omega (arith, e),
  OnePiece c cs m t s p pieces,
  let next : 1 + m ≡ suc m = omega arith
      in rw next last,
)

-- The second character of an escape is not a line end.
pub pair_plain : (q c d : ℕ) → is_escape q c d ≡ true → is_line_end d ≡ false
pair_plain q c d p = grind (arith, nat_tests)

pair_piece : (q c d : ℕ) (cs : List ℕ) (o : Option ℕ) → is_line_end c ≡ false
    → is_escape q c d ≡ true → Closes q cs o
    → Closes q (c ∷ d ∷ cs) (option_map (λ n. n + 2) o)
pair_piece q c d cs None t p more =
    let all : 1 + (1 + prefix_len is_not_line_end cs) ≡ 2 + prefix_len is_not_line_end cs =
    omega arith in
    rw (t, pair_plain q c d p, all) (EscapePiece c d cs (prefix_len is_not_line_end cs) p more)
pair_piece q c d cs (Some n) t p (m, e, pieces, last) = (
  2 + m,
  omega (arith, e),
  EscapePiece c d cs m p pieces,
  let next : 2 + m ≡ suc (suc m) =
      omega arith in rw next last,
)

-- The law for both outcomes.
closes : (q : ℕ) (cs : List ℕ) → Closes q cs (close_len q cs)
closes q [] = NoPiece []
closes q (c ∷ []) = by (eqb c q) (is_line_end c) refl refl
  where
    by : (b l : Bool) → eqb c q ≡ b → is_line_end c ≡ l → Closes q (c ∷ []) (cond b (Some 1) None)
    by true l s t = is_close q c [] s
    by false true s t = no_piece q c [] t
    by false false s t = one_piece q c [] None t s refl (NoPiece [])
closes q (c ∷ d ∷ cs) =
    by (is_line_end c) (eqb c q) (is_escape q c d) refl refl refl (closes q cs)
    (closes q (d ∷ cs))
  where
    by : (l b p : Bool) → is_line_end c ≡ l → eqb c q ≡ b → is_escape q c d ≡ p
        → Closes q cs (close_len q cs) → Closes q (d ∷ cs) (close_len q (d ∷ cs))
        → Closes q
        (c ∷ d ∷ cs) (cond l None (cond b (Some 1)
        (cond p (option_map (λ n. n + 2) (close_len q cs))
        (option_map (λ n. n + 1) (close_len q (d ∷ cs))))))
    by true b p t s r two one = no_piece q c (d ∷ cs) t
    by false true p t s r two one = is_close q c (d ∷ cs) s
    by false false true t s r two one = pair_piece q c d cs (close_len q cs) t r two
    by false false false t s r two one = one_piece q c (d ∷ cs) (close_len q (d ∷ cs)) t s r one

-- The two laws of quotes.
pub quotes_close_first : QuotesCloseFirst
quotes_close_first q cs n e = subst (Closes q cs) e (closes q cs)

pub open_quotes_stay_open : OpenQuotesStayOpen
open_quotes_stay_open q cs e = subst (Closes q cs) e (closes q cs)

-- A part ends within its text.
pub rest_in : (c : ℕ) (cs : List ℕ) → part_rest c cs ≤ length cs
rest_in c cs = by (is_psql_quote c) (close_len c cs) (closes c cs)
  where
    by : (b : Bool) (o : Option ℕ) → Closes c cs o
        → cond b (unwrap_or o (prefix_len is_not_line_end cs)) 0 ≤ length cs
    by false o h = omega arith
    by true None h = prefix_len-le-length is_not_line_end cs
    by true (Some n) (m, e, pieces, last) = omega (arith, e, within_some cs m c (sym last))

-- A closed quote ends with the character that opened it.
pub close_read : (q : ℕ) (cs : List ℕ) (n : ℕ) → close_len q cs ≡ Some n
    → (Some q ≡ slice_get cs (n - 1)) × (1 ≤ n)
close_read q cs n e = by (close_len q cs) (closes q cs) e
  where
    by : (o : Option ℕ) → Closes q cs o → o ≡ Some n → (Some q ≡ slice_get cs (n - 1)) × (1 ≤ n)
    by None h e = absurd (cc)
    by (Some k) (m, len, pieces, last) e =
        let same : k ≡ n = cc in
        let at : n - 1 ≡ m = omega arith in
        (rw at (sym last), omega arith)

-- ---- longest sequences of parts

-- The length of the longest sequence of parts before a character of which `ends` holds. The first
-- `inside` characters belong to a part that began before.
abbrev parts_len : (ℕ → Bool) → ℕ → List ℕ → ℕ
parts_len ends inside [] = 0
parts_len ends zero (c ∷ cs) = cond (ends c) 0 (1 + parts_len ends (part_rest c cs) cs)
parts_len ends (suc inside) (c ∷ cs) = 1 + parts_len ends inside cs

-- The characters inside a part are only skipped.
parts_inside : (ends : ℕ → Bool) (k : ℕ) (cs : List ℕ) → k ≤ length cs
    → parts_len ends k cs ≡ k + parts_len ends 0 (drop k cs)
parts_inside ends zero cs h = omega arith
parts_inside ends (suc k) [] h = absurd (omega arith)
parts_inside ends (suc k) (c ∷ cs) h = omega (arith, parts_inside ends k cs (omega arith))

-- The empty sequence, and a sequence with one more part before it.
no_more : (ends : ℕ → Bool) (cs : List ℕ) → (0 < length cs → ends (get_or cs 0 0) ≡ true)
    → IsLongest ends cs 0
no_more ends cs stops = record { parts = NoPart cs; stops = stops }

one_more : (ends : ℕ → Bool) (c : ℕ) (cs : List ℕ) (n : ℕ) → ends c ≡ false
    → IsLongest ends (drop (part_rest c cs) cs) n → IsLongest ends (c ∷ cs) (1 + part_rest c cs + n)
one_more ends c cs n e more = record { parts = OnePart c cs n e more.parts; stops = stops }
  where
    r : ℕ
    r = part_rest c cs

    stops : 1 + r + n < length (c ∷ cs) → ends (get_or (c ∷ cs) (1 + r + n) 0) ≡ true
    stops h =
        let next : 1 + r + n ≡ suc (r + n) = omega arith in
        rw next (ap ends (sym (get_or-drop r cs n 0))
        ∙ more.stops (omega (arith, length-drop r cs)))

-- `parts_len` is the length of a longest sequence,
longest : (ends : ℕ → Bool) (k : ℕ) (cs : List ℕ) (n : ℕ) → k ≤ length cs
    → parts_len ends k cs ≡ k + n → IsLongest ends (drop k cs) n
longest ends zero [] n h e = let none : n ≡ 0 = omega (arith, e) in
    rw none (no_more ends [] (λ some. absurd (omega arith)))
longest ends (suc k) [] n h e = absurd (omega arith)
longest ends zero (c ∷ cs) n h e = by (ends c) refl e (longest ends r cs m (rest_in c cs) inside)
  where
    r : ℕ
    r = part_rest c cs

    m : ℕ
    m = parts_len ends 0 (drop r cs)

    inside : parts_len ends r cs ≡ r + m
    inside = parts_inside ends r cs (rest_in c cs)

    by : (b : Bool) → ends c ≡ b → cond b 0 (1 + parts_len ends r cs) ≡ 0 + n
        → IsLongest ends (drop r cs) m → IsLongest ends (c ∷ cs) n
    by true t e more = let none : n ≡ 0 = omega (arith, e) in
        rw none (no_more ends (c ∷ cs) (λ some. t))
    by false t e more = let all : n ≡ 1 + r + m = omega (arith, e, inside) in
        rw all (one_more ends c cs m t more)
longest ends (suc k) (c ∷ cs) n h e = longest ends k cs n (omega arith) (omega (arith, e))

-- and no other length is.
only : (ends : ℕ → Bool) (cs : List ℕ) (n : ℕ) → IsParts ends cs n
    → (n < length cs → ends (get_or cs n 0) ≡ true) → n ≡ parts_len ends 0 cs
only ends [] n (NoPart cs) stops = refl
only ends (c ∷ cs) n (NoPart _) stops = let t : ends c ≡ true = stops (omega arith) in rw t refl
only ends cs n (OnePart c rest m t more) stops =
    let r = part_rest c rest in
    let next : 1 + r + m ≡ suc (r + m) = omega arith in
    let stops' : m < length (drop r rest) → ends (get_or (drop r rest) m 0) ≡ true =
    λ h. ap ends (get_or-drop r rest m 0) ∙ subst (λ k.
    ends (get_or (c ∷ rest) k 0) ≡ true) next (stops (omega (arith, h, length-drop r rest))) in
    rw t (omega (
      arith,
      only ends (drop r rest) m more stops',
      parts_inside ends r rest (rest_in c rest),
    ))

-- The arguments together, and one of them, are such sequences.
args_parts : (k : ℕ) (cs : List ℕ) → arguments_len k cs ≡ parts_len ends_arguments k cs
args_parts k [] = refl
args_parts zero (c ∷ cs) =
    ap (λ n. cond (ends_arguments c) 0 (1 + n)) (args_parts (part_rest c cs) cs)
args_parts (suc k) (c ∷ cs) = ap (λ n. 1 + n) (args_parts k cs)

argument_parts : (k : ℕ) (cs : List ℕ) → argument_len k cs ≡ parts_len ends_argument k cs
argument_parts k [] = refl
argument_parts zero (c ∷ cs) =
    ap (λ n. cond (ends_argument c) 0 (1 + n)) (argument_parts (part_rest c cs) cs)
argument_parts (suc k) (c ∷ cs) = ap (λ n. 1 + n) (argument_parts k cs)

-- The four laws of arguments.
pub arguments_are_longest : ArgumentsAreLongest
arguments_are_longest cs =
    longest ends_arguments 0 cs (arguments_len 0 cs) (omega arith) (sym (args_parts 0 cs)
    ∙ omega arith)

pub argument_is_longest : ArgumentIsLongest
argument_is_longest cs =
    longest ends_argument 0 cs (argument_len 0 cs) (omega arith) (sym (argument_parts 0 cs)
    ∙ omega arith)

pub arguments_are_one : ArgumentsAreUnique
arguments_are_one cs n h = only ends_arguments cs n h.parts h.stops ∙ sym (args_parts 0 cs)

pub argument_is_one : ArgumentIsUnique
argument_is_one cs n h = only ends_argument cs n h.parts h.stops ∙ sym (argument_parts 0 cs)

-- ---- the first argument whose mark is `)`

-- What `marked_len` says from within an argument: its end where its mark becomes `)`, else the end
-- of a later one.
abbrev Within : List ℕ → ℕ → Option ℕ → Type 0
Within cs inside mark =
    marked_len inside mark cs
    ≡ cond (is_parenthesis (mark_from inside mark cs)) (Some (argument_len inside cs))
    (first_marked (argument_len inside cs) cs)

-- The law from within an argument, and from the start of a text.
abbrev Found : List ℕ → Type 0
Found cs = ((inside : ℕ) (mark : Option ℕ) → Within cs inside mark)
    × (marked_len 0 None cs ≡ first_marked 0 cs)

-- One character further on in an argument, and at its first one.
further : (b : Bool) (n c : ℕ) (cs : List ℕ)
    → option_map (λ m. m + 1) (cond b (Some n) (first_marked n cs))
    ≡ cond b (Some (1 + n)) (first_marked (1 + n) (c ∷ cs))
further true n c cs = ap Some (omega arith)
further false n c cs = let next : 1 + n ≡ suc n = omega arith in rw next refl

first_on : (b : Bool) (n : ℕ) (o : Option ℕ) → option_map (λ m. m + 1) (cond b (Some n) o)
    ≡ cond b (Some (1 + n)) (option_map (λ m. m + 1) o)
first_on true n o = ap Some (omega arith)
first_on false n o = refl

-- The law one character further on, from within an argument,
within : (c : ℕ) (cs : List ℕ) → Found cs → (inside : ℕ) (mark : Option ℕ)
    → Within (c ∷ cs) inside mark
within c cs (more, first) zero mark = by (ends_arguments c) (is_blank c) refl refl
  where
    by : (b d : Bool) → ends_arguments c ≡ b → is_blank c ≡ d → Within (c ∷ cs) 0 mark
    by true d e f = rw e (rw e refl)
    by false true e f = rw (e, f, first) (rw (e, f) refl)
    by false false e f =
        let r = part_rest c cs in
        let m = mark_after mark c cs in
        rw (e, f) (ap (option_map (λ n. n + 1)) (more r m)
        ∙ further (is_parenthesis (mark_from r m cs)) (argument_len r cs) c cs)
within c cs (more, first) (suc n) mark = ap (option_map (λ n. n + 1)) (more n mark)
    ∙ further (is_parenthesis (mark_from n mark cs)) (argument_len n cs) c cs

-- and from the start of a text.
start : (c : ℕ) (cs : List ℕ) → Found cs → marked_len 0 None (c ∷ cs) ≡ first_marked 0 (c ∷ cs)
start c cs (more, first) = by (ends_arguments c) (is_blank c) refl refl
  where
    by : (b d : Bool) → ends_arguments c ≡ b → is_blank c ≡ d
        → marked_len 0 None (c ∷ cs) ≡ first_marked 0 (c ∷ cs)
    by true d e f = rw e refl
    by false true e f = rw (e, f, first) refl
    by false false e f =
        let r = part_rest c cs in
        let m = mark_after None c cs in
        let n = argument_len r cs in
        rw (e, f) (ap (option_map (λ n. n + 1)) (more r m)
        ∙ first_on (is_parenthesis (mark_from r m cs)) n (first_marked n cs))

-- The law for every text.
found : (cs : List ℕ) → Found cs
found [] = ((λ inside mark. refl), refl)
found (c ∷ cs) = (within c cs (found cs), start c cs (found cs))

pub marked_is_first : MarkedIsFirst
marked_is_first cs = (found cs).1

-- ---- worked examples

second_argument : first_marked 0 (codes "(a b) |x") ≡ Some 5
second_argument = refl

empty_quote_keeps : first_marked 0 (codes "a (a)'' |x") ≡ Some 7
empty_quote_keeps = refl

double_then_parenthesis : first_marked 0 (codes "(\")\" )") ≡ Some 6
double_then_parenthesis = refl

other_line : first_marked 0 (codes "(a\n)") ≡ None
other_line = refl
