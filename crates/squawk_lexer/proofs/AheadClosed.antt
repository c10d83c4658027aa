-- Quoted texts, block comments and dollar-quoted strings are decided by the characters up to their
-- end, and by tests of the next.
use Rattle.std.proofs.Common.{◌≡◌, ℕ, zero, suc, ◌+◌, ◌<◌, ◌≤◌, Bool, true, false, List, [], ◌∷◌, ◌++◌, length, get_or, take, drop, length-drop, length-append, Option, None, Some, option_map, unwrap_or, is_some, nat_eq, refl, sym, ap, ◌∙◌, ◌&&◌, eqb, cond, arith}
use Rattle.std.proofs.lemmas.List.{take-append-le}
use Rattle.std.proofs.lemmas.Bool.{and_parts, false≢true}
use Rattle.std.proofs.lemmas.Bool.Decides.{nat_tests}
use Rattle.std.specs.List.{prefix_len, starts_with}
use Rattle.std.specs.Cmp.Lexicographic.{pointwise}
use Rattle.squawk_lexer.specs.declared.token.LiteralKind.TheVariants.{DollarQuotedString}
use Rattle.squawk_lexer.specs.Kind.{Lexeme, literal_until}
use Rattle.squawk_lexer.specs.Classes.{is_digit, is_ident_start, is_ident_cont, is_tag_cont}
use Rattle.squawk_lexer.specs.Runs.{run_end, junk_end}
use Rattle.squawk_lexer.specs.Quoted.{quoted_len, end_or_text_end, quoted_end}
use Rattle.squawk_lexer.specs.Comment.{comment_len, opens_comment, closes_comment, comment_end}
use Rattle.squawk_lexer.specs.Numbers.{parameter}
use Rattle.squawk_lexer.specs.Dollar.{tag_end, is_dollar_quote_start, delimiter, find_end, delimiter_end, dollar_string, dollar}
use Rattle.squawk_lexer.proofs.TokenLaws.{junk_on}
use Rattle.squawk_lexer.proofs.DollarLaws as dollars
use Rattle.squawk_lexer.proofs.Steps.{drop_read, within_read, junk_past}
use Rattle.squawk_lexer.proofs.Ahead.{Tests, PairTests, Looks, branch, pick, Alike, take_same, test, seen}
use Rattle.squawk_lexer.proofs.AheadRuns.{Asks, run_same, parameter_same}

-- ---- ends that are found or not

-- A length found j characters later is within n + j only where the length itself is within n.
pub shorter : (o : Option ℕ) (j len total n : ℕ) → total ≡ len + j
    → unwrap_or (option_map (λ m. m + j) o) total ≤ n + j → unwrap_or o len ≤ n
shorter None j len total n e h = omega arith
shorter (Some m) j len total n e h = omega arith

-- Two lengths found j characters later are equal where the lengths are.
pub later : (o p : Option ℕ) (j len total n : ℕ) → total ≡ len + j → (unwrap_or o len ≤ n → p ≡ o)
    → unwrap_or (option_map (λ m. m + j) o) total ≤ n + j
    → option_map (λ m. m + j) p ≡ option_map (λ m. m + j) o
later o p j len total n e same h = ap (option_map (λ m. m + j)) (same (shorter o j len total n e h))

-- A length found j characters later is at least j,
pub far : (o : Option ℕ) (j len total : ℕ) → total ≡ len + j
    → j ≤ unwrap_or (option_map (λ m. m + j) o) total
far None j len total e = omega arith
far (Some m) j len total e = omega arith

-- and at least n + j where the length itself is at least n.
pub farther : (o : Option ℕ) (j len total n : ℕ) → total ≡ len + j → n ≤ unwrap_or o len
    → n + j ≤ unwrap_or (option_map (λ m. m + j) o) total
farther None j len total n e h = omega arith
farther (Some m) j len total n e h = omega arith

-- Of two lengths, the chosen one is at least n where both are.
pub either_far : (b : Bool) (x y : Option ℕ) (len n : ℕ) → n ≤ unwrap_or x len → n ≤ unwrap_or y len
    → n ≤ unwrap_or (cond b x y) len
either_far true x y len n p q = p
either_far false x y len n p q = q

-- ---- quoted texts

-- The rest of a quoted text reads at least one character.
quoted_far : (escapes : Bool) (q c : ℕ) (cs : List ℕ)
    → 1 ≤ unwrap_or (quoted_len escapes q (c ∷ cs)) (length (c ∷ cs))
quoted_far escapes q c [] = either_far (eqb c q) (Some 1) None 1 1 (omega arith) (omega arith)
quoted_far escapes q c (d ∷ cs) =
    let two : 1 ≤ unwrap_or
    (option_map (λ m. m + 2) (quoted_len escapes q cs)) (length (c ∷ d ∷ cs)) =
    omega (
      arith,
      far (quoted_len escapes q cs) 2 (length cs) (length (c ∷ d ∷ cs)) (omega arith),
    ) in
    either_far (eqb c q) _ _ _ 1 (either_far (eqb d q) _ (Some 1) _ 1 two (omega arith))
    (either_far (escapes && eqb c 92) _ _ _ 1 two
    (far (quoted_len escapes q (d ∷ cs)) 1 (length (d ∷ cs)) (length (c ∷ d ∷ cs))
    (omega arith)))

-- The length of a quoted text is decided by its characters and by the test of the next for the
-- quote.
quoted_looks : {tests : Tests} {pairs : PairTests} (escapes : Bool) (q : ℕ) → tests (λ c. eqb c q)
    → Looks tests pairs (quoted_len escapes q) (λ v. unwrap_or (quoted_len escapes q v) (length v))
quoted_looks escapes q t [] c d r s f h = absurd (omega (arith, quoted_far escapes q c r))
quoted_looks escapes q t (x ∷ []) c d r s f h =
    let m = λ (o : Option ℕ). unwrap_or o (length (x ∷ c ∷ r)) in
    let two = far (quoted_len escapes q r) 2 (length r) (length (x ∷ c ∷ r)) (omega arith) in
    let one = farther (quoted_len escapes q (c ∷ r)) 1 (length (c ∷ r)) (length (x ∷ c ∷ r)) 1
    (omega arith) (quoted_far escapes q c r) in
    branch m (eqb x q) _ _ _ _ 1
    (λ e. pick m (eqb c q) (eqb d q) _ (Some 1) _ (Some 1) 1 (f.one (λ c. eqb c q) t)
    (λ e k. absurd (omega (arith, two))) (λ e k. refl))
    (λ e. branch m (escapes && eqb x 92) _ _ _ _ 1 (λ e k. absurd (omega (arith, two)))
    (λ e k. absurd (omega (arith, one)))) h
quoted_looks escapes q t (x ∷ y ∷ xs) c d r s f h =
    let m = λ (o : Option ℕ). unwrap_or o (length (x ∷ y ∷ xs ++ c ∷ r)) in
    let n = length (x ∷ y ∷ xs) in
    let two = λ (k : unwrap_or (option_map
    (λ n. n + 2) (quoted_len escapes q (xs ++ c ∷ r))) (length (x ∷ y ∷ xs ++ c ∷ r)) ≤ n).
    later (quoted_len escapes q (xs ++ c ∷ r)) (quoted_len escapes q (xs ++ d ∷ s)) 2
    (length (xs ++ c ∷ r)) (length (x ∷ y ∷ xs ++ c ∷ r)) (length xs) (omega arith)
    (quoted_looks escapes q t xs c d r s f) (omega arith) in
    let one = λ (k : unwrap_or (option_map
    (λ n. n + 1) (quoted_len escapes q (y ∷ xs ++ c ∷ r))) (length (x ∷ y ∷ xs ++ c ∷ r)) ≤ n).
    later (quoted_len escapes q (y ∷ xs ++ c ∷ r)) (quoted_len escapes q (y ∷ xs ++ d ∷ s)) 1
    (length (y ∷ xs ++ c ∷ r)) (length (x ∷ y ∷ xs ++ c ∷ r)) (length (y ∷ xs)) (omega arith)
    (quoted_looks escapes q t (y ∷ xs) c d r s f) (omega arith) in
    branch m (eqb x q) _ _ _ _ n (λ e. branch m (eqb y q) _ (Some 1) _ (Some 1) n
    (λ e k. two k) (λ e k. refl))
    (λ e. branch m (escapes && eqb x 92) _ _ _ _ n (λ e k. two k) (λ e k. one k)) h

-- ---- block comments

-- The rest of a comment reads at least one character of one,
comment_far : (inner c : ℕ) (cs : List ℕ)
    → 1 ≤ unwrap_or (comment_len inner (c ∷ cs)) (length (c ∷ cs))
comment_far inner c [] = omega arith
comment_far zero c (d ∷ cs) =
    either_far (opens_comment c d) _ _ _ 1
    (omega (arith, far (comment_len 1 cs) 2 (length cs) (length (c ∷ d ∷ cs)) (omega arith)))
    (either_far (closes_comment c d) (Some 2) _ _ 1 (omega arith)
    (far (comment_len 0 (d ∷ cs)) 1 (length (d ∷ cs)) (length (c ∷ d ∷ cs)) (omega arith)))
comment_far (suc n) c (d ∷ cs) =
    either_far (opens_comment c d) _ _ _ 1
    (omega (
      arith,
      far (comment_len (suc (suc n)) cs) 2 (length cs) (length (c ∷ d ∷ cs)) (omega arith),
    ))
    (either_far (closes_comment c d) _ _ _ 1
    (omega (arith, far (comment_len n cs) 2 (length cs) (length (c ∷ d ∷ cs)) (omega arith)))
    (far (comment_len (suc n) (d ∷ cs)) 1 (length (d ∷ cs)) (length (c ∷ d ∷ cs))
    (omega arith)))

-- and at least two of two.
comment_farther : (inner x c : ℕ) (cs : List ℕ)
    → 2 ≤ unwrap_or (comment_len inner (x ∷ c ∷ cs)) (length (x ∷ c ∷ cs))
comment_farther zero x c cs =
    let total = length (x ∷ c ∷ cs) in
    either_far (opens_comment x c) _ _ _ 2 (far (comment_len 1 cs) 2 (length cs) total
    (omega arith))
    (either_far (closes_comment x c) (Some 2) _ _ 2 (omega arith)
    (farther (comment_len 0 (c ∷ cs)) 1 (length (c ∷ cs)) total 1 (omega arith)
    (comment_far 0 c cs)))
comment_farther (suc n) x c cs =
    let total = length (x ∷ c ∷ cs) in
    either_far (opens_comment x c) _ _ _ 2 (far (comment_len (suc (suc n)) cs) 2 (length cs) total
    (omega arith))
    (either_far (closes_comment x c) _ _ _ 2 (far (comment_len n cs) 2 (length cs) total
    (omega arith)) (farther (comment_len (suc n) (c ∷ cs)) 1 (length (c ∷ cs)) total 1
    (omega arith) (comment_far (suc n) c cs)))

-- The length of a block comment is decided by its characters.
comment_looks : (inner : ℕ) (xs : List ℕ) (c d : ℕ) (r s : List ℕ)
    → unwrap_or (comment_len inner (xs ++ c ∷ r)) (length (xs ++ c ∷ r)) ≤ length xs
    → comment_len inner (xs ++ d ∷ s) ≡ comment_len inner (xs ++ c ∷ r)
comment_looks inner [] c d r s h = absurd (omega (arith, comment_far inner c r))
comment_looks inner (x ∷ []) c d r s h = absurd (omega (arith, comment_farther inner x c r))
comment_looks zero (x ∷ y ∷ xs) c d r s h =
    let m = λ (o : Option ℕ). unwrap_or o (length (x ∷ y ∷ xs ++ c ∷ r)) in
    let n = length (x ∷ y ∷ xs) in
    branch m (opens_comment x y) _ _ _ _ n
    (λ t k. later (comment_len 1 (xs ++ c ∷ r)) (comment_len 1 (xs ++ d ∷ s)) 2
    (length (xs ++ c ∷ r)) (length (x ∷ y ∷ xs ++ c ∷ r)) (length xs) (omega arith)
    (comment_looks 1 xs c d r s) (omega arith))
    (λ t. branch m (closes_comment x y) (Some 2) _ (Some 2) _ n (λ t k. refl)
    (λ t k. later (comment_len 0 (y ∷ xs ++ c ∷ r)) (comment_len 0 (y ∷ xs ++ d ∷ s)) 1
    (length (y ∷ xs ++ c ∷ r)) (length (x ∷ y ∷ xs ++ c ∷ r)) (length (y ∷ xs)) (omega arith)
    (comment_looks 0 (y ∷ xs) c d r s) (omega arith))) h
comment_looks (suc i) (x ∷ y ∷ xs) c d r s h =
    let m = λ (o : Option ℕ). unwrap_or o (length (x ∷ y ∷ xs ++ c ∷ r)) in
    let n = length (x ∷ y ∷ xs) in
    branch m (opens_comment x y) _ _ _ _ n
    (λ t k. later (comment_len (suc (suc i)) (xs ++ c ∷ r)) (comment_len (suc (suc i))
    (xs ++ d ∷ s)) 2 (length (xs ++ c ∷ r)) (length (x ∷ y ∷ xs ++ c ∷ r)) (length xs) (omega arith)
    (comment_looks (suc (suc i)) xs c d r s) (omega arith))
    (λ t. branch m (closes_comment x y) _ _ _ _ n
    (λ t k. later (comment_len i (xs ++ c ∷ r)) (comment_len i (xs ++ d ∷ s)) 2
    (length (xs ++ c ∷ r)) (length (x ∷ y ∷ xs ++ c ∷ r)) (length xs) (omega arith)
    (comment_looks i xs c d r s) (omega arith))
    (λ t k. later (comment_len (suc i) (y ∷ xs ++ c ∷ r)) (comment_len (suc i) (y ∷ xs ++ d ∷ s)) 1
    (length (y ∷ xs ++ c ∷ r)) (length (x ∷ y ∷ xs ++ c ∷ r)) (length (y ∷ xs)) (omega arith)
    (comment_looks (suc i) (y ∷ xs) c d r s) (omega arith))) h

-- ---- from lists to indexes

-- What is found from index i on, and the index at which it ends, are the same in both texts. An
-- end at k or before it was found, since the text is longer.
pub found_same : {tests : Tests} {pairs : PairTests} (g : List ℕ → Option ℕ)
    → Looks tests pairs g (λ v. unwrap_or (g v) (length v)) → (k : ℕ) (u v : List ℕ) (i : ℕ)
    → Alike tests pairs k u v → end_or_text_end u i (g (drop i u)) ≤ k
    → (g (drop i v) ≡ g (drop i u))
    × (end_or_text_end v i (g (drop i v)) ≡ end_or_text_end u i (g (drop i u)))
found_same g looks k u v i a h = by (seen g (λ w. unwrap_or (g w) (length w)) looks k u v i a h)
  where
    within : k < length u
    within = a.left

    end : (o : Option ℕ) → end_or_text_end u i o ≤ k → end_or_text_end v i o ≡ end_or_text_end u i o
    end None h = absurd (omega (arith, length-drop i u))
    end (Some n) h = refl

    by : g (drop i v) ≡ g (drop i u) → (g (drop i v) ≡ g (drop i u))
        × (end_or_text_end v i (g (drop i v)) ≡ end_or_text_end u i (g (drop i u)))
    by e = (e, ap (end_or_text_end v i) e ∙ end (g (drop i u)) h)

-- So for a quoted text,
pub quoted_same : {tests : Tests} {pairs : PairTests} (escapes : Bool) (q : ℕ) → tests (λ c. eqb c q)
    → (k : ℕ) (u v : List ℕ) (i : ℕ) → Alike tests pairs k u v → quoted_end escapes q u i ≤ k
    → (quoted_len escapes q (drop i v) ≡ quoted_len escapes q (drop i u))
    × (quoted_end escapes q v i ≡ quoted_end escapes q u i)
quoted_same escapes q t k u v i a h =
    found_same (quoted_len escapes q) (quoted_looks escapes q t) k u v i a h

-- and for a block comment.
pub comment_same : {tests : Tests} {pairs : PairTests} (inner k : ℕ) (u v : List ℕ) (i : ℕ)
    → Alike tests pairs k u v → comment_end inner u i ≤ k
    → (comment_len inner (drop i v) ≡ comment_len inner (drop i u))
    × (comment_end inner v i ≡ comment_end inner u i)
comment_same inner k u v i a h = found_same (comment_len inner)
    (λ xs c d r s f. comment_looks inner xs c d r s) k u v i a h

-- ---- dollar-quoted strings

-- Whether a text begins with d is decided by as many characters as d has.
starts_same : (d xs r s : List ℕ) → length d ≤ length xs
    → starts_with nat_eq (xs ++ s) d ≡ starts_with nat_eq (xs ++ r) d
starts_same d xs r s h = ap (pointwise nat_eq d) (take-append-le (length d) xs s h
    ∙ sym (take-append-le (length d) xs r h))

-- A delimiter that is found is no longer than the text up to its end.
find_short : (d v : List ℕ) (n : ℕ) → unwrap_or (find_end d v) (length v) ≤ n → n < length v
    → length d ≤ n
find_short d v n h within = by (find_end d v) refl h
  where
    by : (o : Option ℕ) → find_end d v ≡ o → unwrap_or o (length v) ≤ n → length d ≤ n
    by None e h = absurd (omega arith)
    by (Some m) e h = omega (arith, (dollars.found d v m e).0)

-- The first occurrence of a delimiter is decided by the characters up to its end.
find_looks : (w xs : List ℕ) (c d : ℕ) (r s : List ℕ)
    → unwrap_or (find_end w (xs ++ c ∷ r)) (length (xs ++ c ∷ r)) ≤ length xs
    → find_end w (xs ++ d ∷ s) ≡ find_end w (xs ++ c ∷ r)
find_looks w [] c d r s h =
    let m = λ (o : Option ℕ). unwrap_or o (length (c ∷ r)) in
    let short : length w ≤ 0 = find_short w (c ∷ r) 0 h (omega arith) in
    pick m (starts_with nat_eq (c ∷ r) w) (starts_with nat_eq (d ∷ s) w) (Some (length w)) _
    (Some (length w)) _ 0 (starts_same w [] (c ∷ r) (d ∷ s) short) (λ t k. refl)
    (λ t k. absurd (omega (arith, far (find_end w r) 1 (length r) (length (c ∷ r)) (omega arith))))
    h
find_looks w (x ∷ xs) c d r s h =
    let m = λ (o : Option ℕ). unwrap_or o (length (x ∷ xs ++ c ∷ r)) in
    let short : length w ≤ length (x ∷ xs) =
    find_short w (x ∷ xs ++ c ∷ r) (length (x ∷ xs)) h (omega (arith, length-append xs (c ∷ r)))
    in
    pick m (starts_with nat_eq (x ∷ xs ++ c ∷ r) w) (starts_with nat_eq (x ∷ xs ++ d ∷ s) w)
    (Some (length w)) _ (Some (length w)) _ (length (x ∷ xs)) (starts_same w (x ∷ xs) (c ∷ r)
    (d ∷ s) short) (λ t k. refl)
    (λ t k. later (find_end w (xs ++ c ∷ r)) (find_end w (xs ++ d ∷ s)) 1 (length (xs ++ c ∷ r))
    (length (x ∷ xs ++ c ∷ r)) (length xs) (omega arith) (find_looks w xs c d r s)
    (omega arith)) h

-- A run of a smaller class is not longer.
fewer : (p q : ℕ → Bool) → ((c : ℕ) → p c ≡ true → q c ≡ true) → (v : List ℕ)
    → prefix_len p v ≤ prefix_len q v
fewer p q only [] = omega arith
fewer p q only (c ∷ cs) = by (p c) (q c) refl refl (fewer p q only cs)
  where
    by : (b d : Bool) → p c ≡ b → q c ≡ d → prefix_len p cs ≤ prefix_len q cs
        → cond b (1 + prefix_len p cs) 0 ≤ cond d (1 + prefix_len q cs) 0
    by true true e f h = omega arith
    by true false e f h = absurd (false≢true (sym f ∙ only c e))
    by false d e f h = omega arith

-- A tag ends within the junk that it is part of where no `$` follows it.
tag_in_junk : (u : List ℕ) → tag_end u ≤ junk_end u (run_end is_digit u 1)
tag_in_junk u = by (is_ident_start (get_or u 1 0)) refl
  where
    tag_cont : (c : ℕ) → is_tag_cont c ≡ true → is_ident_cont c ≡ true
    tag_cont c t = (and_parts _ _ t).0

    no_digit : is_ident_start (get_or u 1 0) ≡ true → run_end is_digit u 1 ≡ 1
    no_digit t =
        let some : 0 < get_or u 1 0 = grind (arith, nat_tests) in
        let digit : is_digit (get_or u 1 0) ≡ false = grind (arith, nat_tests) in
        rw (drop_read u 1 (within_read u 1 some), digit) refl

    by : (b : Bool) → is_ident_start (get_or u 1 0) ≡ b
        → cond b (run_end is_tag_cont u 1) 1 ≤ junk_end u (run_end is_digit u 1)
    by true t =
        let all : junk_end u 1 ≡ run_end is_ident_cont u 1 = (junk_past u 1 t).0 in
        let more : prefix_len is_tag_cont (drop 1 u) ≤ prefix_len is_ident_cont (drop 1 u) =
        fewer is_tag_cont is_ident_cont tag_cont (drop 1 u) in
        rw (no_digit t, all) (omega arith)
    by false t = omega (arith, junk_on u (run_end is_digit u 1))

-- The end of a tag is the same in both texts, by tests of the character there.
tag_same : {tests : Tests} {pairs : PairTests} → Asks tests pairs → (k : ℕ) (u v : List ℕ)
    → Alike tests pairs k u v → 1 ≤ k → tag_end u ≤ k → tag_end v ≡ tag_end u
tag_same w k u v a some h =
    pick (λ n. n) (is_ident_start (get_or u 1 0)) (is_ident_start (get_or v 1 0))
    (run_end is_tag_cont u 1) 1 (run_end is_tag_cont v 1) 1 k
    (test is_ident_start w.id_start k u v 1 a some)
    (λ t e. run_same is_tag_cont w.tag_cont k u v 1 a e) (λ t e. refl) h

-- A tag ends within its token.
tag_in : (u : List ℕ) → tag_end u ≤ (dollar u).end
tag_in u = by (is_dollar_quote_start u)
  where
    by : (b : Bool) → tag_end u ≤ (cond b (dollar_string u) (parameter u)).end
    by true = omega arith
    by false = tag_in_junk u

-- A dollar-quoted string is the same in both texts.
string_same : {tests : Tests} {pairs : PairTests} (k : ℕ) (u v : List ℕ) → Alike tests pairs k u v
    → tag_end v ≡ tag_end u → (dollar_string u).end ≤ k → dollar_string v ≡ dollar_string u
string_same k u v a e h =
    let i = tag_end u + 1 in
    let d = delimiter u in
    let same : delimiter v ≡ d = ap (λ n. take (n + 1) v) e ∙ take_same k u v i a (omega arith) in
    let (found, end) = found_same (find_end d) (λ xs c e r s f. find_looks d xs c e r s) k u v i a h
    in
    let closes_comment : delimiter_end v ≡ delimiter_end u =
    ap (λ n. find_end (delimiter v) (drop (n + 1) v)) e ∙ ap (λ w. find_end w (drop i v)) same
    ∙ found in
    let stops : end_or_text_end v (tag_end v + 1) (delimiter_end v)
    ≡ end_or_text_end u i (delimiter_end u) =
    ap (λ n. end_or_text_end v (n + 1) (delimiter_end v)) e
    ∙ ap (end_or_text_end v i) (closes_comment ∙ sym found) ∙ end in
    ap (λ o. literal_until (DollarQuotedString (is_some o))
    (end_or_text_end v (tag_end v + 1) (delimiter_end v))) closes_comment
    ∙ ap (literal_until (DollarQuotedString (is_some (delimiter_end u)))) stops

-- So is every token that begins with `$`.
pub dollar_same : {tests : Tests} {pairs : PairTests} → Asks tests pairs → (k : ℕ) (u v : List ℕ)
    → Alike tests pairs k u v → 1 ≤ k → (dollar u).end ≤ k → dollar v ≡ dollar u
dollar_same w k u v a some h =
    let within : tag_end u ≤ k = omega (arith, tag_in u) in
    let e : tag_end v ≡ tag_end u = tag_same w k u v a some within in
    let test : is_dollar_quote_start v ≡ is_dollar_quote_start u = ap (λ n. eqb (get_or v n 0) 36) e
    ∙ test (λ c. eqb c 36) w.dollar k u v (tag_end u) a within in
    pick (λ (x : Lexeme). x.end) (is_dollar_quote_start u) (is_dollar_quote_start v)
    (dollar_string u) (parameter u) (dollar_string v) (parameter v) k test
    (λ t j. string_same k u v a e j) (λ t j. parameter_same w k u v a j) h
