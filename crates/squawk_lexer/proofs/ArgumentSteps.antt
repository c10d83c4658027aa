-- Steps of the functions that read the arguments of a psql command, over bytes.
use Rattle.std.proofs.Common.{◌≡◌, ℕ, zero, suc, ◌+◌, ◌<◌, ◌≤◌, Bool, true, false, List, [], ◌∷◌, length, get_or, drop, Option, None, Some, refl, sym, ap, ap₂, ◌∙◌, eqb, arith, unwrap_or, is_some, option_map, cond}
use Rattle.std.proofs.lemmas.Bool.Decides.{nat_tests}
use Rattle.std.proofs.lemmas.List.{drop-drop}
use Rattle.squawk_lexer.specs.PsqlQuotes.{quote_end, mark_after_quote}
use Rattle.squawk_lexer.specs.Classes.{is_blank}
use Rattle.squawk_lexer.proofs.PsqlArgumentLaws.{rest_in}
use Rattle.squawk_lexer.specs.PsqlParts.{is_psql_quote, quote_len, ends_arguments, part_rest, arguments_len, arguments_end, mark_after, is_parenthesis, marked_len}
use Rattle.squawk_lexer.proofs.Steps.{drop_read, drop_past}

-- The characters inside a part are only skipped.
args_inside : (k : ℕ) (cs : List ℕ) → k ≤ length cs
    → arguments_len k cs ≡ k + arguments_len 0 (drop k cs)
args_inside zero cs h = omega arith
args_inside (suc k) [] h = absurd (omega arith)
args_inside (suc k) (c ∷ cs) h = omega (arith, args_inside k cs (omega arith))

-- The end of the arguments: from a part, at a byte that ends them, and at the end of the text.
args_part : (u : List ℕ) (i : ℕ) → i < length u → ends_arguments (get_or u i 0) ≡ false
    → arguments_end u i
    ≡ arguments_end u (i + 1 + part_rest (get_or u i 0) (drop (i + 1) u))
args_part u i h more =
    let left = drop (i + 1) u in
    let p = part_rest (get_or u i 0) left in
    let inside : arguments_len p left ≡ p + arguments_len 0 (drop p left) =
    args_inside p left (rest_in (get_or u i 0) left) in
    let there : drop p left ≡ drop (i + 1 + p) u = drop-drop p (i + 1) u in
    let rest = rw there at inside in
    rw (drop_read u i h, more) (omega arith)

args_stop : (u : List ℕ) (i : ℕ) → i < length u → ends_arguments (get_or u i 0) ≡ true
    → arguments_end u i ≡ i
args_stop u i h ends = rw (drop_read u i h, ends) (omega arith)

args_none : (u : List ℕ) (i : ℕ) → length u ≤ i → arguments_end u i ≡ i
args_none u i h = rw (drop_past u i h) (omega arith)

-- A single byte is skipped.
pub args_single : (u : List ℕ) (i : ℕ) → i < length u → is_psql_quote (get_or u i 0) ≡ false
    → ends_arguments (get_or u i 0) ≡ false → arguments_end u i ≡ arguments_end u (i + 1)
args_single u i h no_quote more =
    let c = get_or u i 0 in
    args_part u i h more
    ∙ ap (λ b. arguments_end u (i + 1 + cond b (quote_len c (drop (i + 1) u)) 0)) no_quote
    ∙ ap (arguments_end u) (omega arith)

-- A quote does not end the arguments, and is no blank.
quote_goes_on : (c : ℕ) → is_psql_quote c ≡ true → (ends_arguments c ≡ false)
    × (is_blank c ≡ false)
quote_goes_on c h = (grind (arith, nat_tests), grind (arith, nat_tests))

-- A quote is skipped.
pub args_quote : (u : List ℕ) (i : ℕ) → i < length u → is_psql_quote (get_or u i 0) ≡ true
    → arguments_end u i ≡ arguments_end u (quote_end (get_or u i 0) u (i + 1))
args_quote u i h quote =
    let c = get_or u i 0 in
    args_part u i h (quote_goes_on c quote).0
    ∙ ap (λ b. arguments_end u (i + 1 + cond b (quote_len c (drop (i + 1) u)) 0)) quote

-- A blank is not a quote, and does not end the arguments.
pub blank_is_plain : (c : ℕ) → is_blank c ≡ true → is_psql_quote c ≡ false
blank_is_plain c e = grind (arith, nat_tests)

pub blank_goes_on : (c : ℕ) → is_blank c ≡ true → ends_arguments c ≡ false
blank_goes_on c e = grind (arith, nat_tests)

-- ---- the first argument whose mark is `)`

-- The index at which the first marked argument ends, from index i on.
abbrev pub marked_end : Option ℕ → List ℕ → ℕ → Option ℕ
marked_end mark u i = option_map (λ n. i + n) (marked_len 0 mark (drop i u))

-- Lengths that are found further on.
map_on : (o : Option ℕ) (k : ℕ) → option_map (λ n. n + 1) (option_map (λ n. k + n) o)
    ≡ option_map (λ n. suc k + n) o
map_on None k = refl
map_on (Some m) k = ap Some (omega arith)

map_zero : (o : Option ℕ) → o ≡ option_map (λ n. 0 + n) o
map_zero None = refl
map_zero (Some m) = ap Some (omega arith)

map_past : (o : Option ℕ) (i k : ℕ)
    → option_map (λ n. i + n) (option_map (λ n. n + 1) (option_map (λ n. k + n) o))
    ≡ option_map (λ n. i + 1 + k + n) o
map_past None i k = refl
map_past (Some m) i k = ap Some (omega arith)

-- The bytes inside a part are only skipped.
marked_inside : (k : ℕ) (mark : Option ℕ) (cs : List ℕ) → k ≤ length cs
    → marked_len k mark cs ≡ option_map (λ n. k + n) (marked_len 0 mark (drop k cs))
marked_inside zero mark cs h = map_zero (marked_len 0 mark cs)
marked_inside (suc k) mark [] h = absurd (omega arith)
marked_inside (suc k) mark (c ∷ cs) h =
    ap (option_map (λ n. n + 1)) (marked_inside k mark cs (omega arith))
    ∙ map_on (marked_len 0 mark (drop k cs)) k

-- The end of the first marked argument, from a part of an argument.
marked_part : (mark : Option ℕ) (u : List ℕ) (i : ℕ) → i < length u
    → ends_arguments (get_or u i 0) ≡ false → is_blank (get_or u i 0) ≡ false → marked_end mark u i
    ≡ marked_end (mark_after mark (get_or u i 0) (drop (i + 1) u)) u
    (i + 1 + part_rest (get_or u i 0) (drop (i + 1) u))
marked_part mark u i h more no_blank =
    let left = drop (i + 1) u in
    let p = part_rest (get_or u i 0) left in
    let m = mark_after mark (get_or u i 0) left in
    let inside = marked_inside p m left (rest_in (get_or u i 0) left) in
    let there : drop p left ≡ drop (i + 1 + p) u = drop-drop p (i + 1) u in
    let rest = rw there at inside in
    rw (drop_read u i h, more, no_blank)
    (ap (λ o. option_map (λ n. i + n) (option_map (λ n. n + 1) o)) rest
    ∙ map_past (marked_len 0 m (drop (i + 1 + p) u)) i p)

-- After a quote.
pub marked_quote : (mark : Option ℕ) (u : List ℕ) (i : ℕ) → i < length u
    → is_psql_quote (get_or u i 0) ≡ true → marked_end mark u i
    ≡ marked_end (mark_after_quote mark (get_or u i 0) u (i + 1)) u
    (quote_end (get_or u i 0) u (i + 1))
marked_quote mark u i h quote =
    let c = get_or u i 0 in
    let (more, no_blank) = quote_goes_on c quote in
    marked_part mark u i h more no_blank
    ∙ ap (λ b. marked_end (mark_after mark c (drop (i + 1) u)) u (i + 1
    + cond b (quote_len c (drop (i + 1) u)) 0)) quote

-- A single byte is the mark after it.
pub marked_single : (mark : Option ℕ) (u : List ℕ) (i : ℕ) → i < length u
    → is_psql_quote (get_or u i 0) ≡ false → ends_arguments (get_or u i 0) ≡ false
    → is_blank (get_or u i 0) ≡ false
    → marked_end mark u i ≡ marked_end (Some (get_or u i 0)) u (i + 1)
marked_single mark u i h no_quote more no_blank =
    marked_part mark u i h more no_blank
    ∙ ap₂ (λ m k. marked_end m u k) (own (get_or u i 0) no_quote)
    (ap (λ b. i + 1 + cond b (quote_len (get_or u i 0) (drop (i + 1) u)) 0) no_quote ∙ omega arith)
  where
    no_mark : (c : ℕ) → is_psql_quote c ≡ false → (eqb c 39 ≡ false) × (eqb c 96 ≡ false)
    no_mark c e = (grind (arith, nat_tests), grind (arith, nat_tests))

    own : (c : ℕ) → is_psql_quote c ≡ false → mark_after mark c (drop (i + 1) u) ≡ Some c
    own c e = let (a, b) = no_mark c e in rw (a, b) refl

-- A blank ends an argument: one with another mark, and one with that mark.
pub marked_blank : (mark : Option ℕ) (u : List ℕ) (i : ℕ) → i < length u
    → is_blank (get_or u i 0) ≡ true → is_parenthesis mark ≡ false
    → marked_end mark u i ≡ marked_end None u (i + 1)
marked_blank mark u i h blank other =
    rw (drop_read u i h, blank_goes_on (get_or u i 0) blank, blank, other)
    (past (marked_len 0 None (drop (i + 1) u)))
  where
    past : (o : Option ℕ) → option_map (λ n. i + n) (option_map (λ n. n + 1) o)
        ≡ option_map (λ n. i + 1 + n) o
    past None = refl
    past (Some m) = ap Some (omega arith)

pub marked_found : (mark : Option ℕ) (u : List ℕ) (i : ℕ) → i < length u
    → is_blank (get_or u i 0) ≡ true → is_parenthesis mark ≡ true → marked_end mark u i ≡ Some i
marked_found mark u i h blank found =
    rw (drop_read u i h, blank_goes_on (get_or u i 0) blank, blank, found) (ap Some (omega arith))

-- Where the arguments end, the last one may have the mark.
marked_here : (b : Bool) (i : ℕ) → option_map (λ n. i + n) (cond b (Some 0) None)
    ≡ cond b (Some i) None
marked_here true i = ap Some (omega arith)
marked_here false i = refl

pub marked_stop : (mark : Option ℕ) (u : List ℕ) (i : ℕ) → i < length u
    → ends_arguments (get_or u i 0) ≡ true
    → (marked_end mark u i ≡ cond (is_parenthesis mark) (Some i) None) × (arguments_end u i ≡ i)
marked_stop mark u i h ends =
    ((rw (drop_read u i h, ends) (marked_here (is_parenthesis mark) i)), args_stop u i h ends)

pub marked_none : (mark : Option ℕ) (u : List ℕ) (i : ℕ) → length u ≤ i
    → (marked_end mark u i ≡ cond (is_parenthesis mark) (Some i) None) × (arguments_end u i ≡ i)
marked_none mark u i h =
    ((rw (drop_past u i h) (marked_here (is_parenthesis mark) i)), args_none u i h)

-- The options of the whole text, by what was found.
options_by : (u : List ℕ) (o : Option ℕ) → marked_end None u 0 ≡ o
    → (unwrap_or (marked_len 0 None u) (arguments_len 0 u) ≡ unwrap_or o (arguments_end u 0))
    × (is_some (marked_len 0 None u) ≡ is_some o)
options_by u o e = by (marked_len 0 None u) e
  where
    by : (m : Option ℕ) → option_map (λ n. 0 + n) m ≡ o
        → (unwrap_or m (arguments_len 0 u) ≡ unwrap_or o (arguments_end u 0))
        × (is_some m ≡ is_some o)
    by None e = rw (← e) (omega arith, refl)
    by (Some n) e = rw (← e) (omega arith, refl)

-- Where the loop ends, at index i.
pub options_last : (mark : Option ℕ) (u : List ℕ) (i : ℕ) → arguments_end u i ≡ arguments_end u 0
    → marked_end mark u i ≡ marked_end None u 0
    → (marked_end mark u i ≡ cond (is_parenthesis mark) (Some i) None) × (arguments_end u i ≡ i)
    → (i ≡ unwrap_or (marked_len 0 None u) (arguments_len 0 u))
    × (is_parenthesis mark ≡ is_some (marked_len 0 None u))
options_last mark u i ends marks (last, stop) = by (is_parenthesis mark) (sym marks ∙ last)
  where
    by : (b : Bool) → marked_end None u 0 ≡ cond b (Some i) None
        → (i ≡ unwrap_or (marked_len 0 None u) (arguments_len 0 u))
        × (b ≡ is_some (marked_len 0 None u))
    by true e = let m = options_by u (Some i) e in (sym m.0, sym m.1)
    by false e = let m = options_by u None e in (sym (m.0 ∙ sym ends ∙ stop), sym m.1)

-- Where the loop returns at a blank, at index i.
pub options_found : (mark : Option ℕ) (u : List ℕ) (i : ℕ)
    → marked_end mark u i ≡ marked_end None u 0 → marked_end mark u i ≡ Some i
    → (i ≡ unwrap_or (marked_len 0 None u) (arguments_len 0 u))
    × (true ≡ is_some (marked_len 0 None u))
options_found mark u i marks e =
    let m = options_by u (Some i) (sym marks ∙ e) in (sym m.0, sym m.1)
