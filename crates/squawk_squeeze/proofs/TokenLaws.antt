-- The tokens with their texts are those of the lexer, and runs of trivia become one character.
use Rattle.std.proofs.Common.{◌≡◌, ℕ, zero, suc, ◌-◌, Bool, true, false, List, [], ◌∷◌, ◌++◌, drop, take, Some, None, refl, sym, ap, ◌∙◌, ◌&&◌, ◌||◌, arith}
use Rattle.std.proofs.lemmas.Bool.{false≢true}
use Rattle.std.proofs.lemmas.List.{take-append-drop}
use Rattle.std.proofs.lemmas.List.Folds.{list_any-append}
use Rattle.std.specs.List.{list_any}
use Rattle.squawk_lexer.specs.declared.token.Strings.{Strings}
use Rattle.squawk_lexer.specs.Classes.{is_line_end}
use Rattle.squawk_lexer.specs.Cut.{is_trivia, tokens_from}
use Rattle.squawk_lexer.specs.Token.{lexeme_at, token_at}
use Rattle.squawk_lexer.specs.Laws.{TokensProgress}
use Rattle.squawk_squeeze.specs.Squeezed.{TextToken, text_tokens_from, text_of, squeeze_tokens, separator_token}
use Rattle.squawk_squeeze.specs.Laws.{lengths_of, AreLexerTokens, TextsAddUp, are_trivia, begins_with_trivia, RunsBecomeOneCharacter}
use Rattle.squawk_squeeze.proofs.TokenLists.{drop_end}

-- the tokens of a text whose first `inside` characters belong to a token before it
tokens_agree : (strings : Strings) (inside : ℕ) (s : Bool) (u : List ℕ)
    → lengths_of (text_tokens_from strings inside s u) ≡ tokens_from strings inside s u
tokens_agree strings zero s [] = refl
tokens_agree strings (suc n) s [] = refl
tokens_agree strings zero s (c ∷ cs) =
    ap (λ ts. token_at strings s (c ∷ cs) ∷ ts)
    (tokens_agree strings ((lexeme_at strings s (c ∷ cs)).end - 1) false cs)
tokens_agree strings (suc n) s (c ∷ cs) = tokens_agree strings n s cs

pub are_lexer_tokens : AreLexerTokens
are_lexer_tokens strings text = tokens_agree strings 0 true text

-- the texts of the tokens, without those `inside` characters, add up to the text
texts_from : TokensProgress → (strings : Strings) (inside : ℕ) (s : Bool) (u : List ℕ)
    → text_of (text_tokens_from strings inside s u) ≡ drop inside u
texts_from some strings zero s [] = refl
texts_from some strings (suc n) s [] = refl
texts_from some strings zero s (c ∷ cs) =
    let n = (lexeme_at strings s (c ∷ cs)).end in
    ap (λ w. take n (c ∷ cs) ++ w) (texts_from some strings (n - 1) false cs
    ∙ drop_end n c cs (some strings s (c ∷ cs) (omega arith)))
    ∙ take-append-drop n (c ∷ cs)
texts_from some strings (suc n) s (c ∷ cs) = texts_from some strings n s cs

pub texts_add_up : TokensProgress → TextsAddUp
texts_add_up some strings text = texts_from some strings 0 true text

-- ---- runs of trivia

or_false : (b : Bool) → (b || false) ≡ b
or_false true = refl
or_false false = refl

or_assoc : (a b c : Bool) → ((a || b) || c) ≡ (a || (b || c))
or_assoc true b c = refl
or_assoc false b c = refl

both_true : (a b : Bool) → (a && b) ≡ true → (a ≡ true) × (b ≡ true)
both_true true b h = (refl, h)
both_true false b h = absurd (false≢true h)

-- the separator of a run stands before the tokens after it
run_ends : (b : Bool) (rest : List TextToken) → begins_with_trivia rest ≡ false
    → squeeze_tokens (Some b) rest ≡ separator_token b ∷ squeeze_tokens None rest
run_ends b [] h = refl
run_ends b (t ∷ ts) h = rw h refl

-- a run goes on over more trivia; `b` says whether it has a line end so far
run_goes_on : (b : Bool) (run rest : List TextToken) → are_trivia run ≡ true
    → begins_with_trivia rest ≡ false
    → squeeze_tokens (Some b) (run ++ rest)
    ≡ separator_token (b || list_any is_line_end (text_of run)) ∷ squeeze_tokens None rest
run_goes_on b [] rest all h = run_ends b rest h
    ∙ ap (λ e. separator_token e ∷ squeeze_tokens None rest) (sym (or_false b))
run_goes_on b (t ∷ ts) rest all h =
    let both = both_true (is_trivia t.kind) (are_trivia ts) all in
    let ends = list_any is_line_end t.text in
    rw (both.0) (run_goes_on (b || ends) ts rest both.1 h
    ∙ ap (λ e. separator_token e ∷ squeeze_tokens None rest)
    (or_assoc b ends (list_any is_line_end (text_of ts))
    ∙ ap (λ e. b || e) (sym (list_any-append is_line_end t.text (text_of ts)))))

pub runs_become_one_character : RunsBecomeOneCharacter
runs_become_one_character [] rest some all h = absurd (omega arith)
runs_become_one_character (t ∷ ts) rest some all h =
    let both = both_true (is_trivia t.kind) (are_trivia ts) all in
    rw (both.0) (run_goes_on (list_any is_line_end t.text) ts rest both.1 h
    ∙ ap (λ e. separator_token e ∷ squeeze_tokens None rest)
    (sym (list_any-append is_line_end t.text (text_of ts))))
