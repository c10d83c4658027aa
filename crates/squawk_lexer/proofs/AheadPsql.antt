-- Psql commands are decided by the characters up to their end, and by tests of the next.
use Rattle.std.proofs.Common.{◌≡◌, ℕ, zero, suc, ◌+◌, ◌-◌, ◌≤◌, Bool, true, false, List, [], ◌∷◌, ◌++◌, length, get_or, take, drop, Option, None, Some, option_map, unwrap_or, refl, sym, ap, ◌∙◌, ◌&&◌, not, eqb, cond, arith}
use Rattle.std.proofs.lemmas.List.{take-append-le}
use Rattle.std.proofs.lemmas.Bool.Decides.{nat_tests}
use Rattle.std.specs.List.{prefix_len, last_or}
use Rattle.std.specs.Option.{option_or}
use Rattle.squawk_lexer.specs.declared.token.TokenKind.TheVariants as kinds
use Rattle.squawk_lexer.specs.Kind.{Lexeme, lexeme_until}
use Rattle.squawk_lexer.specs.Classes.{is_line_end, is_not_line_end, is_blank, is_command_char}
use Rattle.squawk_lexer.specs.Runs.{run_end, line_end}
use Rattle.squawk_lexer.specs.PsqlWords.{is_among, query_ending_words, pipe_words, option_words, takes_line}
use Rattle.squawk_lexer.specs.PsqlParts.{is_psql_quote, is_escape, close_len, quote_len, last_inside, ends_arguments, part_rest, arguments_len, arguments_end, mark_after, is_parenthesis, marked_len, marked_len_at}
use Rattle.squawk_lexer.specs.Psql.{psql, command_word, word_end, options_end, output_start, output_end, command_end}
use Rattle.squawk_lexer.proofs.TokenLaws.{output_start_on, output_end_on, psql_on}
use Rattle.squawk_lexer.proofs.PsqlArgumentLaws.{pair_plain, rest_in}
use Rattle.squawk_lexer.proofs.ArgumentSteps.{blank_is_plain}
use Rattle.squawk_lexer.proofs.Ahead.{Tests, PairTests, Follows, Looks, branch, pick, Alike, take_same, test, seen}
use Rattle.squawk_lexer.proofs.AheadRuns.{prefix_looks, run_same}
use Rattle.squawk_lexer.proofs.AheadClosed.{far, later, shorter, either_far}

-- ---- the tests of psql commands

-- The tests of the character after a command.
pub record AsksPsql (tests : Tests) : Type 0 where
  pub line_end : tests is_line_end
  pub not_line_end : tests is_not_line_end
  pub blank : tests is_blank
  pub command_word : tests is_command_char
  pub ends : tests ends_arguments
  pub other : (x : ℕ) → is_line_end x ≡ false → tests (λ c. eqb c x)

-- ---- quotes

-- A quote is not a line end.
quote_plain : (q : ℕ) → is_psql_quote q ≡ true → is_line_end q ≡ false
quote_plain q t = grind (arith, nat_tests)

-- A line end closes no quote.
line_closes : (q c : ℕ) (cs : List ℕ) → is_line_end q ≡ false → is_line_end c ≡ true
    → close_len q (c ∷ cs) ≡ None
line_closes q c [] plain t = let other : eqb c q ≡ false = grind (arith, nat_tests) in rw other refl
line_closes q c (d ∷ cs) plain t = rw t refl

-- A length found later is at least 1.
far_one : (o : Option ℕ) (j total : ℕ) → 1 ≤ j → 1 ≤ total
    → 1 ≤ unwrap_or (option_map (λ m. m + j) o) total
far_one None j total p q = q
far_one (Some m) j total p q = omega arith

-- A quote reads a character that is not a line end.
quote_far : (q c : ℕ) (cs : List ℕ) → is_line_end c ≡ false → 1 ≤ quote_len q (c ∷ cs)
quote_far q c [] t = rw t (either_far (eqb c q) (Some 1) None 1 1 (omega arith) (omega arith))
quote_far q c (d ∷ cs) t =
    let total = 1 + prefix_len is_not_line_end (d ∷ cs) in
    rw t
    (either_far (eqb c q) (Some 1) _ total 1 (omega arith)
    (either_far (is_escape q c d) _ _ total 1
    (far_one (close_len q cs) 2 total (omega arith) (omega arith))
    (far_one (close_len q (d ∷ cs)) 1 total (omega arith) (omega arith))))

-- The rest of a line, from a single character and from an escape.
one_on : (x : ℕ) (v : List ℕ) → is_line_end x ≡ false
    → prefix_len is_not_line_end (x ∷ v) ≡ prefix_len is_not_line_end v + 1
one_on x v t = rw t (omega arith)

two_on : (q x y : ℕ) (v : List ℕ) → is_line_end x ≡ false → is_escape q x y ≡ true
    → prefix_len is_not_line_end (x ∷ y ∷ v) ≡ prefix_len is_not_line_end v + 2
two_on q x y v t p = rw (t, pair_plain q x y p) (omega arith)

-- Where a quote is closed is decided by its characters and by tests of the next.
close_looks : {tests : Tests} {pairs : PairTests}
    → AsksPsql tests → (q : ℕ) → is_line_end q ≡ false → Looks tests pairs (close_len q) (quote_len q)
close_looks w q plain [] c d r s f h = by (is_line_end c) refl
  where
    by : (b : Bool) → is_line_end c ≡ b → close_len q (d ∷ s) ≡ close_len q (c ∷ r)
    by true t = line_closes q d s plain (f.one is_line_end w.line_end ∙ t)
        ∙ sym (line_closes q c r plain t)
    by false t = absurd (omega (arith, quote_far q c r t))
close_looks w q plain (x ∷ []) c d r s f h =
    let total = prefix_len is_not_line_end (x ∷ c ∷ r) in
    let m = λ (o : Option ℕ). unwrap_or o total in
    branch m (is_line_end x) None _ None _ 1 (λ t k. refl)
    (λ t. branch m (eqb x q) (Some 1) _ (Some 1) _ 1 (λ e k. refl)
    (λ e. pick m (is_escape q x c) (is_escape q x d) _ _ _ _ 1
    (ap (λ b. (eqb q 39 && eqb x 92) && not b) (f.one is_line_end w.line_end))
    (λ p k. absurd (omega (
      arith,
      far (close_len q r) 2 (prefix_len is_not_line_end r) total (two_on q x c r t p),
    )))
    (λ p k. later (close_len q (c ∷ r)) (close_len q (d ∷ s)) 1 (prefix_len is_not_line_end (c ∷ r))
    total 0 (one_on x (c ∷ r) t) (close_looks w q plain [] c d r s f) (omega arith)))) h
close_looks w q plain (x ∷ y ∷ xs) c d r s f h =
    let total = prefix_len is_not_line_end (x ∷ y ∷ xs ++ c ∷ r) in
    let m = λ (o : Option ℕ). unwrap_or o total in
    let n = length (x ∷ y ∷ xs) in
    branch m (is_line_end x) None _ None _ n (λ t k. refl)
    (λ t. branch m (eqb x q) (Some 1) _ (Some 1) _ n (λ e k. refl)
    (λ e. branch m (is_escape q x y) _ _ _ _ n
    (λ p k. later (close_len q (xs ++ c ∷ r)) (close_len q (xs ++ d ∷ s)) 2
    (prefix_len is_not_line_end (xs ++ c ∷ r)) total (length xs)
    (two_on q x y (xs ++ c ∷ r) t p) (close_looks w q plain xs c d r s f) (omega arith))
    (λ p k. later (close_len q (y ∷ xs ++ c ∷ r)) (close_len q (y ∷ xs ++ d ∷ s)) 1
    (prefix_len is_not_line_end (y ∷ xs ++ c ∷ r)) total (length (y ∷ xs))
    (one_on x (y ∷ xs ++ c ∷ r) t) (close_looks w q plain (y ∷ xs) c d r s f) (omega arith)))) h

-- So is the length of a quote,
quote_looks : {tests : Tests} {pairs : PairTests}
    → AsksPsql tests → (q : ℕ) → is_line_end q ≡ false → Looks tests pairs (quote_len q) (quote_len q)
quote_looks w q plain xs c d r s f h =
    ap (λ o. unwrap_or o (prefix_len is_not_line_end (xs ++ d ∷ s)))
    (close_looks w q plain xs c d r s f h) ∙ by (close_len q (xs ++ c ∷ r)) h
  where
    by : (o : Option ℕ) → unwrap_or o (prefix_len is_not_line_end (xs ++ c ∷ r)) ≤ length xs
        → unwrap_or o (prefix_len is_not_line_end (xs ++ d ∷ s))
        ≡ unwrap_or o (prefix_len is_not_line_end (xs ++ c ∷ r))
    by None h = prefix_looks is_not_line_end w.not_line_end xs c d r s f h
    by (Some n) h = refl

-- ---- parts and arguments

-- The length of a part is decided so.
part_looks : {tests : Tests} {pairs : PairTests} → AsksPsql tests
    → (x : ℕ) → Looks tests pairs (part_rest x) (part_rest x)
part_looks w x xs c d r s f h =
    branch (λ n. n) (is_psql_quote x) (quote_len x (xs ++ c ∷ r)) 0 (quote_len x (xs ++ d ∷ s)) 0
    (length xs) (λ t k. quote_looks w x (quote_plain x t) xs c d r s f k) (λ t k. refl) h

-- The arguments reach past the part that they begin inside.
args_far : (inside : ℕ) (v : List ℕ) → inside ≤ length v → inside ≤ arguments_len inside v
args_far zero v h = omega arith
args_far (suc i) [] h = absurd (omega arith)
args_far (suc i) (c ∷ cs) h = omega (arith, args_far i cs (omega arith))

-- The length of the arguments is decided so.
args_looks : {tests : Tests} {pairs : PairTests} → AsksPsql tests
    → (inside : ℕ) → Looks tests pairs (arguments_len inside) (arguments_len inside)
args_looks w (suc i) [] c d r s f h = absurd (omega arith)
args_looks w zero [] c d r s f h =
    pick (λ n. n) (ends_arguments c) (ends_arguments d) 0 (1 + arguments_len (part_rest c r) r) 0
    (1 + arguments_len (part_rest d s) s) 0 (f.one ends_arguments w.ends) (λ t k. refl)
    (λ t k. absurd (omega arith)) h
args_looks w zero (x ∷ xs) c d r s f h =
    let i = part_rest x (xs ++ c ∷ r) in
    branch (λ n. n) (ends_arguments x) 0 (1 + arguments_len i (xs ++ c ∷ r)) 0
    (1 + arguments_len (part_rest x (xs ++ d ∷ s)) (xs ++ d ∷ s)) (length (x ∷ xs))
    (λ t k. refl)
    (λ t k. ap (λ j. 1 + arguments_len j (xs ++ d ∷ s))
    (part_looks w x xs c d r s f (omega (
      arith,
      args_far i (xs ++ c ∷ r) (rest_in x (xs ++ c ∷ r)),
    )))
    ∙ ap (λ n. 1 + n) (args_looks w i xs c d r s f (omega arith))) h
args_looks w (suc i) (x ∷ xs) c d r s f h =
    ap (λ n. 1 + n) (args_looks w i xs c d r s f (omega arith))

-- The end of the arguments is the same in both texts.
pub args_same : {tests : Tests} {pairs : PairTests} → AsksPsql tests → (k : ℕ) (u v : List ℕ) (i : ℕ)
    → Alike tests pairs k u v → arguments_end u i ≤ k → arguments_end v i ≡ arguments_end u i
args_same w k u v i a h =
    ap (λ n. i + n) (seen (arguments_len 0) (arguments_len 0) (args_looks w 0) k u v i a h)

-- ---- marks

-- The last character of a quoted text is decided by the characters up to its closing quote.
inside_same : (xs r s : List ℕ) (o : Option ℕ) (len : ℕ) → unwrap_or o len ≤ length xs
    → last_inside (xs ++ s) o ≡ last_inside (xs ++ r) o
inside_same xs r s None len h = refl
inside_same xs r s (Some n) len h =
    ap (last_or None) (take-append-le (n - 1) xs s (omega arith)
    ∙ sym (take-append-le (n - 1) xs r (omega arith)))

-- So is the mark after a part.
mark_same : {tests : Tests} {pairs : PairTests} → AsksPsql tests
    → (mark : Option ℕ) (x : ℕ) (xs : List ℕ) (c d : ℕ) (r s : List ℕ) → Follows tests pairs c d r s
    → part_rest x (xs ++ c ∷ r) ≤ length xs
    → mark_after mark x (xs ++ d ∷ s) ≡ mark_after mark x (xs ++ c ∷ r)
mark_same w mark x xs c d r s f h = by (eqb x 39) refl
  where
    quoted : eqb x 39 ≡ true → last_inside (xs ++ d ∷ s) (close_len x (xs ++ d ∷ s))
        ≡ last_inside (xs ++ c ∷ r) (close_len x (xs ++ c ∷ r))
    quoted t =
        let is : is_psql_quote x ≡ true = grind (arith, nat_tests) in
        let short : quote_len x (xs ++ c ∷ r) ≤ length xs = rw is at h in
        ap (last_inside (xs ++ d ∷ s)) (close_looks w x (quote_plain x is) xs c d r s f short)
        ∙ inside_same xs (c ∷ r) (d ∷ s) (close_len x (xs ++ c ∷ r)) _ short

    by : (b : Bool) → eqb x 39 ≡ b → mark_after mark x (xs ++ d ∷ s)
        ≡ mark_after mark x (xs ++ c ∷ r)
    by true t = rw t (ap (λ o. option_or o mark) (quoted t))
    by false t = rw t refl

-- ---- the first argument whose mark is `)`

-- The first marked argument, or all arguments where none is marked, reach past the part that they
-- begin inside.
marked_far : (inside : ℕ) (mark : Option ℕ) (v : List ℕ) → inside ≤ length v
    → inside ≤ unwrap_or (marked_len inside mark v) (arguments_len inside v)
marked_far zero mark v h = omega arith
marked_far (suc i) mark [] h = absurd (omega arith)
marked_far (suc i) mark (c ∷ cs) h = by (marked_len i mark cs) (marked_far i mark cs (omega arith))
  where
    by : (o : Option ℕ) → i ≤ unwrap_or o (arguments_len i cs)
        → suc i ≤ unwrap_or (option_map (λ m. m + 1) o) (1 + arguments_len i cs)
    by None h = omega arith
    by (Some m) h = omega arith

-- The length of the arguments, from a part and from a blank.
part_on : (x : ℕ) (v : List ℕ) → ends_arguments x ≡ false
    → arguments_len 0 (x ∷ v) ≡ arguments_len (part_rest x v) v + 1
part_on x v t = rw t (omega arith)

blank_on : (x : ℕ) (v : List ℕ) → ends_arguments x ≡ false → is_blank x ≡ true
    → arguments_len 0 (x ∷ v) ≡ arguments_len 0 v + 1
blank_on x v t b = rw (t, blank_is_plain x b) (omega arith)

-- The end of the first marked argument is decided by the characters up to it, or up to the end of
-- the arguments where none is marked.
marked_looks : {tests : Tests} {pairs : PairTests}
    → AsksPsql tests → (inside : ℕ) (mark : Option ℕ)
    → Looks tests pairs (marked_len inside mark)
    (λ v. unwrap_or (marked_len inside mark v) (arguments_len inside v))
marked_looks w (suc i) mark [] c d r s f h =
    absurd (omega (
      arith,
      far (marked_len i mark r) 1 (arguments_len i r) (1 + arguments_len i r) (omega arith),
    ))
marked_looks w zero mark [] c d r s f h =
    let total = arguments_len 0 (c ∷ r) in
    let m = λ (o : Option ℕ). unwrap_or o total in
    pick m (ends_arguments c) (ends_arguments d) _ _ _ _ 0 (f.one ends_arguments w.ends)
    (λ t k. refl)
    (λ t. pick m (is_blank c) (is_blank d) _ _ _ _ 0 (f.one is_blank w.blank)
    (λ b. branch m (is_parenthesis mark) (Some 0) _ (Some 0) _ 0 (λ p k. refl)
    (λ p k. absurd (omega (
      arith,
      far (marked_len 0 None r) 1 (arguments_len 0 r) total (blank_on c r t b),
    ))))
    (λ b k. absurd (omega (
      arith,
      far (marked_len (part_rest c r) (mark_after mark c r) r) 1
          (arguments_len (part_rest c r) r) total (part_on c r t),
    )))) h
marked_looks w zero mark (x ∷ xs) c d r s f h =
    let total = arguments_len 0 (x ∷ xs ++ c ∷ r) in
    let m = λ (o : Option ℕ). unwrap_or o total in
    let n = length (x ∷ xs) in
    branch m (ends_arguments x) _ _ _ _ n (λ t k. refl)
    (λ t. branch m (is_blank x) _ _ _ _ n
    (λ b. branch m (is_parenthesis mark) (Some 0) _ (Some 0) _ n (λ p k. refl)
    (λ p k. later (marked_len 0 None (xs ++ c ∷ r)) (marked_len 0 None (xs ++ d ∷ s)) 1
    (arguments_len 0 (xs ++ c ∷ r)) total (length xs) (blank_on x (xs ++ c ∷ r) t b)
    (marked_looks w 0 None xs c d r s f) (omega arith)))
    (λ b k. let short : unwrap_or o (arguments_len i (xs ++ c ∷ r)) ≤ length xs =
    shorter o 1 (arguments_len i (xs ++ c ∷ r)) total (length xs) (part_on x (xs ++ c ∷ r) t)
    (omega arith) in
    let near : i ≤ length xs =
    omega (arith, marked_far i mk (xs ++ c ∷ r) (rest_in x (xs ++ c ∷ r))) in
    ap (λ j. option_map (λ m. m + 1) (marked_len j (mark_after mark x (xs ++ d ∷ s)) (xs ++ d ∷ s)))
    (part_looks w x xs c d r s f near)
    ∙ ap (λ y. option_map (λ m. m + 1) (marked_len i y (xs ++ d ∷ s)))
    (mark_same w mark x xs c d r s f near)
    ∙ ap (option_map (λ m. m + 1)) (marked_looks w i mk xs c d r s f short))) h
  where
    i : ℕ
    i = part_rest x (xs ++ c ∷ r)

    mk : Option ℕ
    mk = mark_after mark x (xs ++ c ∷ r)

    o : Option ℕ
    o = marked_len i mk (xs ++ c ∷ r)
marked_looks w (suc i) mark (x ∷ xs) c d r s f h =
    later (marked_len i mark (xs ++ c ∷ r)) (marked_len i mark (xs ++ d ∷ s)) 1
    (arguments_len i (xs ++ c ∷ r)) (1 + arguments_len i (xs ++ c ∷ r)) (length xs)
    (omega arith) (marked_looks w i mark xs c d r s f) (omega arith)

-- ---- the output of commands with a pipe

-- The options end at or after the argument that ends them.
options_far : (u : List ℕ) (i : ℕ) (o : Option ℕ)
    → i + unwrap_or o (arguments_len 0 (drop i u)) ≤ options_end u i o
options_far u i None = omega arith
options_far u i (Some n) = omega arith

-- The end of the options, and the start and the end of the output, are the same in both texts.
options_same : {tests : Tests} {pairs : PairTests} → AsksPsql tests → (k : ℕ) (u v : List ℕ) (i : ℕ)
    → Alike tests pairs k u v → options_end u i (marked_len_at u i) ≤ k
    → options_end v i (marked_len_at v i) ≡ options_end u i (marked_len_at u i)
options_same z k u v i a h =
    let e : marked_len_at v i ≡ marked_len_at u i =
    seen (marked_len 0 None)
    (λ w. unwrap_or (marked_len 0 None w) (arguments_len 0 w)) (marked_looks z 0 None) k u v i a
    (omega (arith, options_far u i (marked_len_at u i))) in
    ap (options_end v i) e ∙ by (marked_len_at u i) h
  where
    by : (o : Option ℕ) → options_end u i o ≤ k → options_end v i o ≡ options_end u i o
    by None h = args_same z k u v i a h
    by (Some n) h = run_same is_blank z.blank k u v (i + n) a h

output_start_same : {tests : Tests} {pairs : PairTests}
    → AsksPsql tests → (b : Bool) (k : ℕ) (u v : List ℕ) (i : ℕ) → Alike tests pairs k u v
    → output_start b u i ≤ k → output_start b v i ≡ output_start b u i
output_start_same z b k u v i a h =
    pick (λ n. n) (b && eqb (get_or u i 0) 40)
    (b && eqb (get_or v i 0) 40) (options_end u i (marked_len_at u i)) i
    (options_end v i (marked_len_at v i)) i k
    (ap (λ e. b && e) (test (λ c. eqb c 40) (z.other 40 refl) k u v i a
    (omega (arith, output_start_on b u i)))) (λ t e. options_same z k u v i a e) (λ t e. refl) h

output_end_same : {tests : Tests} {pairs : PairTests}
    → AsksPsql tests → (k : ℕ) (u v : List ℕ) (p : ℕ) → Alike tests pairs k u v → output_end u p ≤ k
    → output_end v p ≡ output_end u p
output_end_same z k u v p a h =
    pick (λ n. n) (eqb (get_or u p 0) 124) (eqb (get_or v p 0) 124) (line_end u p)
    (arguments_end u p) (line_end v p) (arguments_end v p) k
    (test (λ c. eqb c 124) (z.other 124 refl) k u v p a (omega (arith, output_end_on u p)))
    (λ t e. run_same is_not_line_end z.not_line_end k u v p a e) (λ t e. args_same z k u v p a e) h

-- ---- commands

-- The index at which the output begins, of a command whose word is w and ends at index i.
abbrev output_at : List ℕ → ℕ → List ℕ → ℕ
output_at w i u = output_start (is_among option_words w) u (run_end is_blank u i)

-- The index at which such a command ends.
abbrev end_at : List ℕ → ℕ → List ℕ → ℕ
end_at w i u =
    cond (takes_line w) (line_end u i) (cond (is_among pipe_words w)
    (output_end u (output_at w i u)) (arguments_end u i))

-- A command ends at or after its word.
end_far : (w : List ℕ) (i : ℕ) (u : List ℕ) → i ≤ end_at w i u
end_far w i u = by (takes_line w) (is_among pipe_words w)
  where
    by : (b d : Bool)
        → i ≤ cond b (line_end u i) (cond d (output_end u (output_at w i u)) (arguments_end u i))
    by true d = omega arith
    by false true =
        omega (
          arith,
          output_end_on u (output_at w i u),
          output_start_on (is_among option_words w) u (run_end is_blank u i),
        )
    by false false = omega arith

-- The end of the output, and that of the command, are the same in both texts.
output_same : {tests : Tests} {pairs : PairTests}
    → AsksPsql tests → (w : List ℕ) (k : ℕ) (u v : List ℕ) (i : ℕ) → Alike tests pairs k u v
    → output_end u (output_at w i u) ≤ k → output_end v (output_at w i v)
    ≡ output_end u (output_at w i u)
output_same z w k u v i a h =
    let b = is_among option_words w in
    let blanks = run_end is_blank u i in
    let p = output_at w i u in
    let start : p ≤ k = omega (arith, output_end_on u p) in
    let same : run_end is_blank v i ≡ blanks =
    run_same is_blank z.blank k u v i a (omega (arith, output_start_on b u blanks)) in
    ap (λ j. output_end v (output_start b v j)) same
    ∙ ap (output_end v) (output_start_same z b k u v blanks a start)
    ∙ output_end_same z k u v p a h

end_same : {tests : Tests} {pairs : PairTests} → AsksPsql tests
    → (w : List ℕ) (k : ℕ) (u v : List ℕ) (i : ℕ) → Alike tests pairs k u v → end_at w i u ≤ k
    → end_at w i v ≡ end_at w i u
end_same z w k u v i a h =
    branch (λ n. n) (takes_line w) (line_end u i) _ (line_end v i) _ k
    (λ t e. run_same is_not_line_end z.not_line_end k u v i a e)
    (λ t. branch (λ n. n) (is_among pipe_words w) _ (arguments_end u i) _ (arguments_end v i) k
    (λ s e. output_same z w k u v i a e) (λ s e. args_same z k u v i a e)) h

-- A psql command is the same in both texts.
pub psql_same : {tests : Tests} {pairs : PairTests} → AsksPsql tests → (k : ℕ) (u v : List ℕ)
    → Alike tests pairs k u v → (psql u).end ≤ k → psql v ≡ psql u
psql_same z k u v a h =
    pick end _ _ (lexeme_until (kinds.PsqlCommand false) 2) _
    (lexeme_until (kinds.PsqlCommand false) 2) _ k (second 92 refl) (λ t e. refl)
    (λ t. pick end _ _ (lexeme_until kinds.Semi 2) _ (lexeme_until kinds.Semi 2) _ k
    (second 59 refl) (λ t e. refl)
    (λ t. pick end _ _ (lexeme_until kinds.Colon 2) _ (lexeme_until kinds.Colon 2) _ k
    (second 58 refl) (λ t e. refl) (λ t e. command e))) h
  where
    end : Lexeme → ℕ
    end x = x.end

    second : (c : ℕ) → is_line_end c ≡ false → eqb (get_or v 1 0) c ≡ eqb (get_or u 1 0) c
    second c e = test (λ d. eqb d c) (z.other c e) k u v 1 a (omega (arith, psql_on u))

    command : command_end u ≤ k
        → lexeme_until (kinds.PsqlCommand (is_among query_ending_words (command_word v)))
        (command_end v)
        ≡ lexeme_until (kinds.PsqlCommand (is_among query_ending_words (command_word u)))
        (command_end u)
    command h =
        let w = word_end u in
        let within : w ≤ k = omega (arith, end_far (command_word u) w u) in
        let ends : word_end v ≡ w = run_same is_command_char z.command_word k u v 1 a within in
        let word_is : command_word v ≡ command_word u = ap (λ n. drop 1 (take n v)) ends
        ∙ ap (drop 1) (take_same k u v w a within) in
        let all : command_end v ≡ command_end u = ap (λ x. end_at x (word_end v) v) word_is
        ∙ ap (λ n. end_at (command_word u) n v) ends ∙ end_same z (command_word u) k u v w a h
        in
        ap (λ x. lexeme_until (kinds.PsqlCommand (is_among query_ending_words x)) (command_end v))
        word_is ∙ ap (lexeme_until (kinds.PsqlCommand
        (is_among query_ending_words (command_word u)))) all
