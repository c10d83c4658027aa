-- Laws of runs, of the list of tokens, and of delimiters.
use Rattle.std.proofs.Common.{◌≡◌, ℕ, zero, suc, ◌+◌, ◌-◌, ◌<◌, ◌≤◌, Bool, false, List, [], ◌∷◌, length, get_or, drop, take, refl, sym, ap, ◌∙◌, inl, inr, ◌⊎◌, arith}
use Rattle.std.proofs.lemmas.Bool.{cases_lt, false≢true}
use Rattle.std.proofs.lemmas.List.{drop-drop, length-drop, get_or-drop}
use Rattle.std.proofs.lemmas.List.Sums.{prefix_len-le-length, prefix_len_passes, prefix_len_stops, sum_by-append, sum_by-cons}
use Rattle.std.proofs.Math.Seq.{take-add}
use Rattle.std.specs.Char.{len_utf8}
use Rattle.std.specs.List.{prefix_len, sum_by}
use Rattle.squawk_lexer.specs.declared.token.Token.{Token}
use Rattle.squawk_lexer.specs.declared.token.Strings.{Strings}
use Rattle.squawk_lexer.specs.Text.{utf8_len}
use Rattle.squawk_lexer.specs.Runs.{run_end}
use Rattle.squawk_lexer.specs.Token.{lexeme_at, token_at}
use Rattle.squawk_lexer.specs.Cut.{tokens_from}
use Rattle.squawk_lexer.specs.Laws.{IsRun, RunsAreLongest, RunsAreUnique, TokensProgress, chars_of_tokens, LengthsAddUp, TokensRestart, FirstOccurrenceIsFound, NoOccurrenceIsMissed}
use Rattle.squawk_lexer.proofs.TokenLaws.{lexeme_at_some}
use Rattle.squawk_lexer.proofs.CutLaws.{tokens_first}
use Rattle.squawk_lexer.proofs.DollarLaws as dollar

-- ---- runs

-- `run_end` is the end of a longest run.
pub runs_are_longest : RunsAreLongest
runs_are_longest class u i h = record {
  on = omega arith;
  within = within;
  all = λ k low high. sym (ap class (at (k - i) k (omega arith)))
      ∙ prefix_len_passes class (drop i u) (k - i) 0 (omega arith);
  stops = λ less. sym (ap class (at (prefix_len class (drop i u)) (run_end class u i) refl))
      ∙ prefix_len_stops class (drop i u) 0 (omega (arith, length-drop i u));
}
  where
    within : run_end class u i ≤ length u
    within = omega (arith, prefix_len-le-length class (drop i u), length-drop i u)

    at : (n k : ℕ) → i + n ≡ k → get_or (drop i u) n 0 ≡ get_or u k 0
    at n k e = get_or-drop i u n 0 ∙ ap (λ m. get_or u m 0) e

-- Two longest runs from the same index do not end at different ones.
not_before : (class : ℕ → Bool) (u : List ℕ) (i j k : ℕ) → IsRun class u i j → IsRun class u i k
    → j < k → ⊥
not_before class u i j k a b h =
    let on : i ≤ j = a.on in
    let within : k ≤ length u = b.within in
    false≢true (sym (a.stops (omega arith)) ∙ b.all j on h)

-- No other index is the end of a longest run.
pub runs_are_one : RunsAreUnique
runs_are_one class u i j a = by (cases_lt j (run_end class u i)) (cases_lt (run_end class u i) j)
  where
    b : IsRun class u i (run_end class u i)
    b = let on : i ≤ j = a.on in let within : j ≤ length u = a.within in
        runs_are_longest class u i (omega arith)

    by : (j < run_end class u i) ⊎ (run_end class u i ≤ j) → (run_end class u i < j)
        ⊎ (j ≤ run_end class u i) → j ≡ run_end class u i
    by (inl h) k = absurd (not_before class u i j (run_end class u i) a b h)
    by (inr h) (inl k) = absurd (not_before class u i (run_end class u i) j b a k)
    by (inr h) (inr k) = omega arith

-- ---- tokens

-- A token has at least one character.
pub tokens_progress : TokensProgress
tokens_progress strings at_start u some = lexeme_at_some strings at_start u some

-- The tokens after the first n + 1, from the law for n tokens of the rest.
restart : (strings : Strings) (at_start : Bool) (n : ℕ) (u : List ℕ)
    → ((v : List ℕ) → drop n (tokens_from strings 0 false v)
    ≡ tokens_from strings 0 false (drop (chars_of_tokens strings false n v) v))
    → drop (suc n) (tokens_from strings 0 at_start u)
    ≡ tokens_from strings 0 false (drop (chars_of_tokens strings at_start (suc n) u) u)
restart strings at_start n [] more = refl
restart strings at_start n (c ∷ cs) more =
    let u = c ∷ cs in
    let e = (lexeme_at strings at_start u).end in
    ap (drop (suc n)) (tokens_first strings at_start u (omega arith))
    ∙ more (drop e u)
    ∙ ap (tokens_from strings 0 false) (drop-drop (chars_of_tokens strings false n (drop e u)) e u)

-- The tokens after the first n, by induction on n, where the text does not begin here.
restart_on : (strings : Strings) (n : ℕ) (v : List ℕ) → drop n (tokens_from strings 0 false v)
    ≡ tokens_from strings 0 false (drop (chars_of_tokens strings false n v) v)
restart_on strings zero [] = refl
restart_on strings zero (c ∷ cs) = refl
restart_on strings (suc n) v = restart strings false n v (restart_on strings n)

-- The tokens after the first n.
pub tokens_restart : TokensRestart
tokens_restart strings at_start zero u some = absurd (omega arith)
tokens_restart strings at_start (suc n) u some = restart strings at_start n u (restart_on strings n)

-- The first n tokens have the bytes of their characters.
pub lengths_add_up : LengthsAddUp
lengths_add_up strings at_start zero [] = refl
lengths_add_up strings at_start zero (c ∷ cs) = refl
lengths_add_up strings at_start (suc n) [] = refl
lengths_add_up strings at_start (suc n) (c ∷ cs) =
    let u = c ∷ cs in
    let e = (lexeme_at strings at_start u).end in
    let rest = tokens_from strings 0 false (drop e u) in
    let first : utf8_len (take (e + chars_of_tokens strings false n (drop e u)) u)
    ≡ utf8_len (take e u) + utf8_len (take (chars_of_tokens strings false n (drop e u))
    (drop e u)) =
    ap utf8_len (take-add e (chars_of_tokens strings false n (drop e u)) u)
    ∙ sum_by-append len_utf8 (take e u) _ in
    first
    ∙ ap (λ m. utf8_len (take e u) + m) (lengths_add_up strings false n (drop e u))
    ∙ sym (ap (λ ts. sum_by (λ (t : Token). t.len) (take (suc n) ts))
    (tokens_first strings at_start u (omega arith))
    ∙ sum_by-cons (λ (t : Token). t.len) (token_at strings at_start u) (take n rest))

-- ---- dollar-quoted strings

-- The two laws of the first occurrence.
pub found_is_first : FirstOccurrenceIsFound
found_is_first d v n e =
    let (within, is) = dollar.found d v n e in
    (n - length d, omega arith, is)

pub none_is_nowhere : NoOccurrenceIsMissed
none_is_nowhere d v e = dollar.nowhere d v e
