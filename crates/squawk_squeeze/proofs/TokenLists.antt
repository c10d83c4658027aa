-- Lists of tokens with their texts: how the first token of a text begins the list, and what
-- squeezing does to lists.
use Rattle.std.proofs.Common.{◌≡◌, ℕ, zero, suc, ◌-◌, ◌<◌, ◌≤◌, Bool, true, false, List, [], ◌∷◌, length, take, drop, Some, None, refl, ap, ◌∙◌, cond, arith}
use Rattle.squawk_lexer.specs.declared.token.Strings.{Strings}
use Rattle.squawk_lexer.specs.Kind.{Lexeme}
use Rattle.squawk_lexer.specs.Token.{lexeme_at}
use Rattle.squawk_lexer.specs.Cut.{is_trivia}
use Rattle.squawk_lexer.specs.Laws.{TokensProgress}
use Rattle.squawk_squeeze.specs.Squeezed.{TextToken, text_token, text_tokens_from, without_trivia, TriviaRun, extend_run, separator, prepend_separator, squeeze_tokens}

-- ---- the first token of a text

text_tokens_inside : (strings : Strings) (n : ℕ) (u : List ℕ)
    → text_tokens_from strings n false u ≡ text_tokens_from strings 0 false (drop n u)
text_tokens_inside strings zero [] = refl
text_tokens_inside strings (suc n) [] = refl
text_tokens_inside strings zero (c ∷ cs) = refl
text_tokens_inside strings (suc n) (c ∷ cs) = text_tokens_inside strings n cs

pub drop_end : (n c : ℕ) (cs : List ℕ) → 0 < n → drop (n - 1) cs ≡ drop n (c ∷ cs)
drop_end zero c cs h = absurd (omega arith)
drop_end (suc n) c cs h = ap (λ m. drop m cs) (omega arith)

-- the first token of a text, with its text
abbrev pub first_text_token : Lexeme → List ℕ → TextToken
first_text_token x u = text_token x.kind (take x.end u)

pub text_tokens_first : TokensProgress → (strings : Strings) (s : Bool) (u : List ℕ) → 1 ≤ length u
    → text_tokens_from strings 0 s u ≡ first_text_token (lexeme_at strings s u) u
    ∷ text_tokens_from strings 0 false (drop (lexeme_at strings s u).end u)
text_tokens_first more strings s [] h = absurd (omega arith)
text_tokens_first more strings s (c ∷ cs) h =
    ap (λ ps. first_text_token (lexeme_at strings s (c ∷ cs)) (c ∷ cs)
    ∷ ps) (text_tokens_inside strings ((lexeme_at strings s (c ∷ cs)).end - 1) cs
    ∙ ap (text_tokens_from strings 0 false) (drop_end (lexeme_at strings s (c ∷ cs)).end c cs
    (more strings s (c ∷ cs) h)))

-- ---- lists of tokens

-- separators are trivia, so squeezing keeps all other tokens
without_trivia_separator : (run : TriviaRun) (ps : List TextToken)
    → without_trivia (prepend_separator run ps) ≡ without_trivia ps
without_trivia_separator None ps = refl
without_trivia_separator (Some b) ps = refl

pub without_trivia_same : (run : TriviaRun) (ps : List TextToken)
    → without_trivia (squeeze_tokens run ps) ≡ without_trivia ps
without_trivia_same run [] = without_trivia_separator run []
without_trivia_same run (p ∷ ps) =
    by (is_trivia p.kind) refl (without_trivia_same (extend_run run p.text) ps)
    (without_trivia_same None ps)
  where
    by : (b : Bool) → is_trivia p.kind ≡ b
        → without_trivia (squeeze_tokens (extend_run run p.text) ps) ≡ without_trivia ps
        → without_trivia (squeeze_tokens None ps) ≡ without_trivia ps
        → without_trivia (cond b (squeeze_tokens (extend_run run p.text) ps)
        (prepend_separator run (p ∷ squeeze_tokens None ps)))
        ≡ cond b (without_trivia ps) (p ∷ without_trivia ps)
    by true t more next = more
    by false t more next = without_trivia_separator run (p ∷ squeeze_tokens None ps)
        ∙ rw t (ap (λ qs. p ∷ qs) next)

-- a separator is a run of one token, which becomes itself
extend_by_separator : (b : Bool) → extend_run None (separator b ∷ []) ≡ Some b
extend_by_separator true = refl
extend_by_separator false = refl

-- no separator follows a separator, so squeezing the tokens again changes nothing
pub squeeze_tokens_twice : (run : TriviaRun) (ps : List TextToken)
    → squeeze_tokens None (squeeze_tokens run ps) ≡ squeeze_tokens run ps
squeeze_tokens_twice None [] = refl
squeeze_tokens_twice (Some b) [] = ap (λ o. prepend_separator o []) (extend_by_separator b)
squeeze_tokens_twice run (p ∷ ps) =
    by (is_trivia p.kind) refl (squeeze_tokens_twice (extend_run run p.text) ps)
    (squeeze_tokens_twice None ps)
  where
    next : (o : TriviaRun) → is_trivia p.kind ≡ false → squeeze_tokens None (squeeze_tokens None ps)
        ≡ squeeze_tokens None ps
        → squeeze_tokens o (p ∷ squeeze_tokens None ps)
        ≡ prepend_separator o (p ∷ squeeze_tokens None ps)
    next o t e = rw t (ap (λ qs. prepend_separator o (p ∷ qs)) e)

    to_gap : (o : TriviaRun) → is_trivia p.kind ≡ false
        → squeeze_tokens None (squeeze_tokens None ps)
        ≡ squeeze_tokens None ps
        → squeeze_tokens None (prepend_separator o (p ∷ squeeze_tokens None ps))
        ≡ prepend_separator o (p ∷ squeeze_tokens None ps)
    to_gap None t e = next None t e
    to_gap (Some b) t e =
        ap (λ o. squeeze_tokens o (p ∷ squeeze_tokens None ps)) (extend_by_separator b)
        ∙ next (Some b) t e

    by : (b : Bool) → is_trivia p.kind ≡ b
        → squeeze_tokens None (squeeze_tokens (extend_run run p.text) ps)
        ≡ squeeze_tokens (extend_run run p.text) ps
        → squeeze_tokens None (squeeze_tokens None ps) ≡ squeeze_tokens None ps
        → squeeze_tokens None (cond b (squeeze_tokens (extend_run run p.text) ps)
        (prepend_separator run (p ∷ squeeze_tokens None ps)))
        ≡ cond b (squeeze_tokens (extend_run run p.text) ps)
        (prepend_separator run (p ∷ squeeze_tokens None ps))
    by true t more e = more
    by false t more e = to_gap run t e
