-- Squeezing keeps every token but trivia, and squeezing twice is squeezing once.
use Rattle.std.proofs.Common.{◌≡◌, ℕ, zero, suc, ◌+◌, ◌<◌, ◌≤◌, Bool, true, false, List, [], ◌∷◌, ◌++◌, length, get_or, take, drop, Some, None, length-drop, length-append, append_assoc, refl, sym, ap, subst, ◌∙◌, inl, inr, ◌⊎◌, ◌&&◌, ◌||◌, cond, arith}
use Rattle.std.proofs.lemmas.Bool.{cases_lt, false≢true}
use Rattle.std.proofs.lemmas.Bool.Decides.{nat_tests}
use Rattle.std.proofs.lemmas.List.{take-append-drop, take-append-le, take-take, drop-drop, get_or-drop, length-take-le}
use Rattle.std.proofs.Math.Seq.{take-append_seam, drop-append_seam, take-add}
use Rattle.std.specs.List.{list_any, prefix_len}
use Rattle.squawk_lexer.specs.declared.token.TokenKind.TheVariants as kinds
use Rattle.squawk_lexer.specs.declared.token.Strings.{Strings}
use Rattle.squawk_lexer.specs.Kind.{Lexeme, lexeme_until}
use Rattle.squawk_lexer.specs.Classes.{is_whitespace, is_line_end}
use Rattle.squawk_lexer.specs.Token.{token_form, lexeme_at}
use Rattle.squawk_lexer.specs.Cut.{is_trivia}
use Rattle.squawk_lexer.specs.Laws.{TokensProgress, TokensWithin}
use Rattle.squawk_lexer.specs.LookAhead.{Agrees, LexemesLookAhead}
use Rattle.squawk_lexer.specs.Gaps.{begins_gap, GapsAreSeen, IsGap, TokensStay, TokensStayBefore}
use Rattle.squawk_squeeze.specs.Squeezed.{TextToken, text_token, text_tokens_from, text_tokens, without_trivia, extend_run, separator, prepend_separator, squeeze_tokens, text_of, squeezed_text}
use Rattle.squawk_squeeze.proofs.TokenLists.{first_text_token, text_tokens_first, without_trivia_same, squeeze_tokens_twice}

-- the laws of the lexer that the proof uses
pub record LexerLaws : Type 0 where
  pub some : TokensProgress
  pub within : TokensWithin
  pub looks : LexemesLookAhead
  pub seen : GapsAreSeen
  pub stay : TokensStay
  pub stay_before : TokensStayBefore

pub lexer_laws : TokensProgress → TokensWithin → LexemesLookAhead → GapsAreSeen → TokensStay
    → TokensStayBefore → LexerLaws
lexer_laws some within looks seen stay stay_before = record {
  some = some;
  within = within;
  looks = looks;
  seen = seen;
  stay = stay;
  stay_before = stay_before;
}

-- ---- separators

separator_is_gap : (b : Bool) → IsGap (separator b)
separator_is_gap true = inr refl
separator_is_gap false = inl refl

-- the text begins with a separator, which is LF if `ends` is true
record BeginsWithSeparator (ends : Bool) (w : List ℕ) : Type 0 where
  char : Bool
  rest : List ℕ
  is : w ≡ separator char ∷ rest
  keeps : ends ≡ true → char ≡ true

weaken : (a b : Bool) (w : List ℕ) → (a ≡ true → b ≡ true) → BeginsWithSeparator b w
    → BeginsWithSeparator a w
weaken a b w h g = record { char = g.char; rest = g.rest; is = g.is; keeps = λ e. g.keeps (h e) }

or_true : (a b : Bool) → a ≡ true → (a || b) ≡ true
or_true a b e = rw e refl

run_begins_with_separator : (b : Bool) (ps : List TextToken)
    → BeginsWithSeparator b (text_of (squeeze_tokens (Some b) ps))
run_begins_with_separator b [] = record { char = b; rest = []; is = refl; keeps = λ e. e }
run_begins_with_separator b (p ∷ ps) =
    by (is_trivia p.kind) refl (run_begins_with_separator (b || list_any is_line_end p.text) ps)
  where
    more : Bool
    more = b || list_any is_line_end p.text

    by : (c : Bool) → is_trivia p.kind ≡ c
        → BeginsWithSeparator more (text_of (squeeze_tokens (Some more) ps))
        → BeginsWithSeparator b (text_of (cond c (squeeze_tokens (Some more) ps)
        (prepend_separator (Some b) (p ∷ squeeze_tokens None ps))))
    by true t g =
        weaken b more (text_of (squeeze_tokens (Some more) ps))
        (or_true b (list_any is_line_end p.text)) g
    by false t g = record {
      char = b;
      rest = text_of (p ∷ squeeze_tokens None ps);
      is =
          refl;
      keeps = λ e. e;
    }

-- ---- how a squeezed text begins

-- the squeezed text of u, where a token that is no trivia precedes u
abbrev squeezed_tail : Strings → List ℕ → List ℕ
squeezed_tail strings u = text_of (squeeze_tokens None (text_tokens_from strings 0 false u))

squeezed_tail_empty : (strings : Strings) (u : List ℕ) → length u ≡ 0 → squeezed_tail strings u ≡ u
squeezed_tail_empty strings [] h = refl
squeezed_tail_empty strings (c ∷ cs) h = absurd (omega arith)

abbrev is_trivia_lexeme : Lexeme → Bool
is_trivia_lexeme x = is_trivia x.kind

-- its first token is that of the text, or the text begins with trivia and it with a separator
abbrev Head : Strings → List ℕ → Type 0
Head strings u =
    ((is_trivia_lexeme (lexeme_at strings false u) ≡ false)
    × (squeezed_tail strings u ≡ take (lexeme_at strings false u).end u
    ++ squeezed_tail strings (drop (lexeme_at strings false u).end u)))
    ⊎ ((is_trivia_lexeme (lexeme_at strings false u) ≡ true)
    × BeginsWithSeparator (is_line_end (get_or u 0 0)) (squeezed_tail strings u))

first_in : (u : List ℕ) (k : ℕ) → 1 ≤ k → is_line_end (get_or u 0 0) ≡ true
    → list_any is_line_end (take k u) ≡ true
first_in [] k h t = absurd (false≢true t)
first_in (c ∷ cs) zero h t = absurd (omega arith)
first_in (c ∷ cs) (suc k) h t = rw t refl

first_token_or_separator : LexerLaws → (strings : Strings) (u : List ℕ) → 1 ≤ length u
    → Head strings u
first_token_or_separator laws strings u some = by (is_trivia_lexeme x) refl
  where
    x : Lexeme
    x = lexeme_at strings false u

    rest : List TextToken
    rest = text_tokens_from strings 0 false (drop x.end u)

    first : text_tokens_from strings 0 false u ≡ first_text_token x u ∷ rest
    first = text_tokens_first laws.some strings false u some

    by : (b : Bool) → is_trivia_lexeme x ≡ b → Head strings u
    by true t =
        let b = list_any is_line_end (take x.end u) in
        let is : squeezed_tail strings u ≡ text_of (squeeze_tokens (Some b) rest) =
        ap (λ ps. text_of (squeeze_tokens None ps)) first ∙ rw t refl in
        inr (
          t,
          subst (BeginsWithSeparator (is_line_end (get_or u 0 0))) (sym is)
              (weaken (is_line_end (get_or u 0 0)) b _
              (first_in u x.end (laws.some strings false u some))
              (run_begins_with_separator b rest)),
        )
    by false t = inl (t, ap (λ ps. text_of (squeeze_tokens None ps)) first ∙ rw t refl)

-- ---- a token other than trivia stays

append_next : (k n : ℕ) (u x w : List ℕ) → w ≡ take n (drop k u) ++ x → take k u ++ w
    ≡ take (k + n) u ++ x
append_next k n u x w e =
    ap (λ y. take k u ++ y) e ∙ sym (append_assoc (take k u) (take n (drop k u)) x)
    ∙ ap (λ y. y ++ x) (sym (take-add k n u))

agrees_on : (k m : ℕ) (u x : List ℕ) → k + 2 ≤ m → m ≤ length u → Agrees (k + 2) u (take m u ++ x)
agrees_on k m u x h within =
    let len : length (take m u) ≡ m = length-take-le m u within in
    record {
      within = omega arith;
      same = take-append-le (k + 2) (take m u) x (omega (arith, len)) ∙ take-take (k + 2) m u h;
    }

token_stays : LexerLaws → (strings : Strings) (s : Bool) (u : List ℕ) → 1 ≤ length u
    → is_trivia_lexeme (lexeme_at strings s u) ≡ false
    → lexeme_at strings s (take (lexeme_at strings s u).end u
    ++ squeezed_tail strings (drop (lexeme_at strings s u).end u)) ≡ lexeme_at strings s u
token_stays laws strings s u some t = by (cases_lt 0 (length u1))
  where
    k : ℕ
    k = (lexeme_at strings s u).end

    u1 : List ℕ
    u1 = drop k u

    w : List ℕ
    w = squeezed_tail strings u1

    inside : k ≤ length u
    inside = laws.within strings s u some

    len : length u ≡ k + length u1
    len = omega (arith, length-drop k u, inside)

    -- the text after the token stays as it is
    whole : w ≡ u1 → lexeme_at strings s (take k u ++ w) ≡ lexeme_at strings s u
    whole e = ap (λ y. lexeme_at strings s (take k u ++ y)) e
        ∙ ap (lexeme_at strings s) (take-append-drop k u)

    -- at least two characters after the token stay
    looks : (n : ℕ) (x : List ℕ) → 2 ≤ n → n ≤ length u1 → w ≡ take n u1 ++ x
        → lexeme_at strings s (take k u ++ w) ≡ lexeme_at strings s u
    looks n x two h e = ap (lexeme_at strings s) (append_next k n u x w e)
        ∙ laws.looks strings s u (take (k + n) u
        ++ x) (agrees_on k (k + n) u x (omega arith) (omega (arith, len)))

    -- one character after the token stays
    next : 1 ≤ length u1 → w ≡ take 1 u1 ++ squeezed_tail strings (drop 1 u1)
        → lexeme_at strings s (take k u ++ w) ≡ lexeme_at strings s u
    next h e = to (cases_lt 0 (length u2))
      where
        u2 : List ℕ
        u2 = drop 1 u1

        long : length u1 ≡ 1 + length u2
        long = omega (arith, length-drop 1 u1)

        of : Head strings u2 → 1 ≤ length u2 → lexeme_at strings s (take k u ++ w)
            ≡ lexeme_at strings s u
        of (inl (plain, is)) more =
            let n = (lexeme_at strings false u2).end in
            let on : 1 ≤ n = laws.some strings false u2 more in
            let less : n ≤ length u2 = laws.within strings false u2 more in
            looks (1 + n) (squeezed_tail strings (drop n u2)) (omega arith) (omega (arith, long))
            (e ∙ append_next 1 n u1 (squeezed_tail strings (drop n u2)) (squeezed_tail strings u2)
            is)
        of (inr (gapped, g)) more =
            let here : begins_gap (drop (k + 1) u) ≡ true = ap begins_gap (sym (drop-drop 1 k u))
            ∙ sym (laws.seen strings u2) ∙ gapped in
            ap (lexeme_at strings s) (append_next k 1 u (separator g.char ∷ g.rest) w (e
            ∙ ap (λ y. take 1 u1 ++ y) g.is))
            ∙ laws.stay_before strings s u (separator g.char) g.rest here (separator_is_gap g.char)

        to : (0 < length u2) ⊎ (length u2 ≤ 0)
            → lexeme_at strings s (take k u ++ w) ≡ lexeme_at strings s u
        to (inl more) = of (first_token_or_separator laws strings u2 more) more
        to (inr none) = whole
            (e ∙ ap (λ y. take 1 u1 ++ y) (squeezed_tail_empty strings u2 (omega arith))
            ∙ take-append-drop 1 u1)

    of : 1 ≤ length u1 → Head strings u1 → lexeme_at strings s (take k u ++ w)
        ≡ lexeme_at strings s u
    of more (inl (plain, is)) = split (cases_lt 1 (lexeme_at strings false u1).end)
      where
        n : ℕ
        n = (lexeme_at strings false u1).end

        split : (1 < n) ⊎ (n ≤ 1) → lexeme_at strings s (take k u ++ w) ≡ lexeme_at strings s u
        split (inl long) =
            looks n (squeezed_tail strings (drop n u1)) long (laws.within strings false u1 more) is
        split (inr short) =
            let on : 1 ≤ n = laws.some strings false u1 more in
            let one : n ≡ 1 = omega arith in
            next more (is ∙ ap (λ m. take m u1 ++ squeezed_tail strings (drop m u1)) one)
    of more (inr (gapped, g)) =
        let at : get_or u1 0 0 ≡ get_or u k 0 = get_or-drop k u 0 0
        ∙ ap (λ n. get_or u n 0) (omega arith) in
        ap (λ y. lexeme_at strings s (take k u ++ y)) g.is
        ∙ laws.stay strings s u (separator g.char) g.rest t (sym (laws.seen strings u1)
        ∙ gapped) (separator_is_gap g.char)
        (λ e. ap separator (g.keeps (ap is_line_end at ∙ e)))

    by : (0 < length u1) ⊎ (length u1 ≤ 0) → lexeme_at strings s (take k u ++ w)
        ≡ lexeme_at strings s u
    by (inl more) = of more (first_token_or_separator laws strings u1 more)
    by (inr none) = whole (squeezed_tail_empty strings u1 (omega arith))

-- ---- the tokens of a squeezed text

and_false : (b : Bool) → (b && false) ≡ false
and_false true = refl
and_false false = refl

take_first : (k c : ℕ) (cs w : List ℕ) → 1 ≤ k → get_or (take k (c ∷ cs) ++ w) 0 0 ≡ c
take_first zero c cs w h = absurd (omega arith)
take_first (suc k) c cs w h = refl

-- a separator before a text that does not begin with white space is a token
prefix_none : (class : ℕ → Bool) (w : List ℕ) → class (get_or w 0 0) ≡ false
    → prefix_len class w ≡ 0
prefix_none class [] h = refl
prefix_none class (c ∷ cs) h = rw h refl

separator_lexeme : (strings : Strings) (s : Bool) (b : Bool) (w : List ℕ)
    → is_whitespace (get_or w 0 0) ≡ false → lexeme_at strings s (separator b ∷ w)
    ≡ lexeme_until kinds.Whitespace 1
unfolding token_form
separator_lexeme strings s true w h =
    rw (and_false s) (ap (λ n. lexeme_until kinds.Whitespace (0 + (1 + n)))
    (prefix_none is_whitespace w h))
separator_lexeme strings s false w h =
    rw (and_false s) (ap (λ n. lexeme_until kinds.Whitespace (0 + (1 + n)))
    (prefix_none is_whitespace w h))

separator_first : LexerLaws → (strings : Strings) (s : Bool) (b : Bool) (w : List ℕ)
    → is_whitespace (get_or w 0 0) ≡ false
    → text_tokens_from strings 0 s (separator b ∷ w)
    ≡ text_token kinds.Whitespace (separator b ∷ []) ∷ text_tokens_from strings 0 false w
separator_first laws strings s b w h =
    text_tokens_first laws.some strings s (separator b ∷ w) (omega arith)
    ∙ ap (λ x. first_text_token x (separator b ∷ w)
    ∷ text_tokens_from strings 0 false (drop x.end (separator b ∷ w)))
    (separator_lexeme strings s b w h)

-- the tokens of the text of `ps` are `ps` again
abbrev Relexes : Strings → Bool → List TextToken → Type 0
Relexes strings s ps = text_tokens_from strings 0 s (text_of ps) ≡ ps

-- squeezed tokens are lexed as themselves: those of a text, and those after a run of trivia
record IsStable (strings : Strings) (n : ℕ) : Type 0 where
  alone : (s : Bool) (u : List ℕ) → length u ≤ n
      → Relexes strings s (squeeze_tokens None (text_tokens_from strings 0 s u))
  after : (b s : Bool) (u : List ℕ) → length u ≤ n
      → Relexes strings s (squeeze_tokens (Some b) (text_tokens_from strings 0 false u))

after_none : LexerLaws → (strings : Strings) (b s : Bool) (u : List ℕ) → length u ≡ 0
    → Relexes strings s (squeeze_tokens (Some b) (text_tokens_from strings 0 false u))
after_none laws strings b s [] h = separator_first laws strings s b [] refl
after_none laws strings b s (c ∷ cs) h = absurd (omega arith)

stable_alone : LexerLaws → (strings : Strings) (n : ℕ) → IsStable strings n
    → (s : Bool) (u : List ℕ) → length u ≤ suc n
    → Relexes strings s (squeeze_tokens None (text_tokens_from strings 0 s u))
stable_alone laws strings n less s [] h = refl
stable_alone laws strings n less s (c ∷ cs) h =
    subst (λ ps. Relexes strings s (squeeze_tokens None ps)) (sym first)
    (by (is_trivia_lexeme x) refl)
  where
    u : List ℕ
    u = c ∷ cs

    some : 1 ≤ length u
    some = omega arith

    x : Lexeme
    x = lexeme_at strings s u

    k : ℕ
    k = x.end

    u1 : List ℕ
    u1 = drop k u

    rest : List TextToken
    rest = text_tokens_from strings 0 false u1

    first : text_tokens_from strings 0 s u ≡ first_text_token x u ∷ rest
    first = text_tokens_first laws.some strings s u some

    on : 1 ≤ k
    on = laws.some strings s u some

    inside : k ≤ length u
    inside = laws.within strings s u some

    shorter : length u1 ≤ n
    shorter = omega (arith, length-drop k u, on, h)

    len : length (take k u) ≡ k
    len = length-take-le k u inside

    by : (b : Bool) → is_trivia_lexeme x ≡ b
        → Relexes strings s (cond b (squeeze_tokens (extend_run None (take k u)) rest)
        (first_text_token x u
        ∷ squeeze_tokens None rest))
    by true t = less.after (list_any is_line_end (take k u)) s u1 shorter
    by false t =
        let w = squeezed_tail strings u1 in
        let v = take k u ++ w in
        let same : lexeme_at strings s v ≡ x = token_stays laws strings s u some t in
        let front : take k v ≡ take k u = ap (λ m. take m v) (sym len)
        ∙ take-append_seam (take k u) w in
        let back : drop k v ≡ w = ap (λ m. drop m v) (sym len) ∙ drop-append_seam (take k u) w in
        text_tokens_first laws.some strings s v (omega (arith, length-append (take k u) w, len, on))
        ∙ ap (λ y. first_text_token y v ∷ text_tokens_from strings 0 false (drop y.end v)) same
        ∙ ap (λ y. text_token x.kind y ∷ text_tokens_from strings 0 false (drop k v)) front
        ∙ ap (λ y. first_text_token x u ∷ text_tokens_from strings 0 false y) back
        ∙ ap (λ ps. first_text_token x u ∷ ps) (less.alone false u1 shorter)

stable_after : LexerLaws → (strings : Strings) (n : ℕ) → IsStable strings n
    → (b s : Bool) (u : List ℕ) → length u ≤ suc n
    → Relexes strings s (squeeze_tokens (Some b) (text_tokens_from strings 0 false u))
stable_after laws strings n less b s [] h = after_none laws strings b s [] refl
stable_after laws strings n less b s (c ∷ cs) h =
    subst (λ ps. Relexes strings s (squeeze_tokens (Some b) ps)) (sym first)
    (by (is_trivia_lexeme x) refl)
  where
    u : List ℕ
    u = c ∷ cs

    some : 1 ≤ length u
    some = omega arith

    x : Lexeme
    x = lexeme_at strings false u

    k : ℕ
    k = x.end

    u1 : List ℕ
    u1 = drop k u

    rest : List TextToken
    rest = text_tokens_from strings 0 false u1

    first : text_tokens_from strings 0 false u ≡ first_text_token x u ∷ rest
    first = text_tokens_first laws.some strings false u some

    on : 1 ≤ k
    on = laws.some strings false u some

    shorter : length u1 ≤ n
    shorter = omega (arith, length-drop k u, on, h)

    more : Bool
    more = b || list_any is_line_end (take k u)

    by : (d : Bool) → is_trivia_lexeme x ≡ d
        → Relexes strings s (cond d (squeeze_tokens (Some more) rest)
        (prepend_separator (Some b) (first_text_token x u
        ∷ squeeze_tokens None rest)))
    by true t = less.after more s u1 shorter
    by false t =
        let qs = first_text_token x u ∷ squeeze_tokens None rest in
        let alone : Relexes strings false qs =
        subst (Relexes strings false) (ap (squeeze_tokens None) first
        ∙ rw t refl) (stable_alone laws strings n less false u h) in
        let plain : begins_gap u ≡ false = sym (laws.seen strings u) ∙ t in
        let white : is_whitespace c ≡ false = grind (arith, nat_tests) in
        let at : get_or (text_of qs) 0 0 ≡ c =
        take_first k c cs (text_of (squeeze_tokens None rest)) on in
        separator_first laws strings s b (text_of qs) (ap is_whitespace at ∙ white)
        ∙ ap (λ ps. text_token kinds.Whitespace (separator b ∷ []) ∷ ps) alone

stable : LexerLaws → (strings : Strings) (n : ℕ) → IsStable strings n
stable laws strings zero = record {
  alone = λ s u h. none s u (omega arith);
  after = λ b s u h. after_none laws strings b s u (omega arith);
}
  where
    none : (s : Bool) (u : List ℕ) → length u ≡ 0
        → Relexes strings s (squeeze_tokens None (text_tokens_from strings 0 s u))
    none s [] h = refl
    none s (c ∷ cs) h = absurd (omega arith)
stable laws strings (suc n) = record {
  alone =
      stable_alone laws strings n (stable laws strings n);
  after =
      stable_after laws strings n (stable laws strings n);
}

-- the tokens of the squeezed text are the squeezed tokens
pub squeezed_tokens : LexerLaws → (strings : Strings) (text : List ℕ)
    → text_tokens strings (squeezed_text strings text)
    ≡ squeeze_tokens None (text_tokens strings text)
squeezed_tokens laws strings text =
    (stable laws strings (length text)).alone true text (omega arith)

-- the tokens of the squeezed text are those of the text but for trivia
pub keeps_tokens : LexerLaws → (strings : Strings) (text : List ℕ)
    → without_trivia (text_tokens strings (squeezed_text strings text))
    ≡ without_trivia (text_tokens strings text)
keeps_tokens laws strings text = ap without_trivia (squeezed_tokens laws strings text)
    ∙ without_trivia_same None (text_tokens strings text)

-- squeezing twice is squeezing once
pub squeeze_idempotent : LexerLaws → (strings : Strings) (text : List ℕ)
    → squeezed_text strings (squeezed_text strings text) ≡ squeezed_text strings text
squeeze_idempotent laws strings text =
    ap (λ ps. text_of (squeeze_tokens None ps)) (squeezed_tokens laws strings text)
    ∙ ap text_of (squeeze_tokens_twice None (text_tokens strings text))
