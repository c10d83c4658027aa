-- The squeezed text in bytes: one step of a loop over tokens, and what holds of a result.
use Rattle.std.proofs.Common.{◌≡◌, ℕ, zero, suc, ◌+◌, ◌-◌, ◌<◌, ◌≤◌, Bool, true, false, List, [], ◌∷◌, ◌++◌, length, take, drop, Some, None, length-drop, length-append, append_assoc, refl, sym, ap, ◌∙◌, cond, arith, IsUtf8}
use Rattle.std.proofs.lemmas.Str.{len_utf8_bounds, chars-nil, chars_from_encodes, encodes-chars, encodes-append, IsUtf8-drop, length-encode}
use Rattle.std.proofs.lemmas.List.{take-append-drop, drop-drop}
use Rattle.std.proofs.lemmas.List.Sums.{sum_by-cons, sum_by-append}
use Rattle.std.proofs.Math.Seq.{take-append_seam, drop-append_seam}
use Rattle.std.proofs.lemmas.Bool.Decides.{nat_tests}
use Rattle.std.specs.Bool.{◌==◌}
use Rattle.std.specs.Prelude.{⊤}
use Rattle.squawk_lexer.specs.Laws.{TokensProgress}
use Rattle.std.specs.Char.{len_utf8, encode_utf8}
use Rattle.std.specs.Str.{chars, encode_utf8_all, IsCharBoundary}
use Rattle.std.specs.String.{string_bytes}
use Rattle.squawk_lexer.specs.declared.token.Token.{Token}
use Rattle.squawk_lexer.specs.declared.token.Strings.{Strings}
use Rattle.squawk_lexer.specs.declared.token.TokenKind.{TokenKind}
use Rattle.squawk_lexer.specs.Text.{utf8_len}
use Rattle.squawk_lexer.specs.Token.{lexeme_at, token_at}
use Rattle.squawk_lexer.specs.Cut.{is_trivia}
use Rattle.squawk_squeeze.specs.declared.text.Squeezer.{Squeezer}
use Rattle.squawk_squeeze.specs.Squeezed.{TextToken, text_token, text_tokens_from, TriviaRun, extend_run, prepend_separator, squeeze_tokens, text_of, text_tokens_at, separator_bytes, output_with_rest, IsPushed, squeezed_text, without_trivia, text_tokens, IsSqueezed, KeepsTokens, IsUnchangedBySqueezing}
use Rattle.squawk_squeeze.proofs.TokenLaws.{texts_add_up}
use Rattle.squawk_squeeze.proofs.TokenLists.{text_tokens_first}
use Rattle.squawk_squeeze.proofs.SqueezeLaws.{LexerLaws, keeps_tokens, squeeze_idempotent}

pub chars_none : (bs : List ℕ) → length bs ≡ 0 → chars bs ≡ []
chars_none [] h = chars-nil
chars_none (b ∷ bs) h = absurd (omega arith)

length_encodes : (cs : List ℕ) → length (encode_utf8_all cs) ≡ utf8_len cs
length_encodes [] = refl
length_encodes (c ∷ cs) = length-append (encode_utf8 c) (encode_utf8_all cs)
    ∙ omega (arith, length-encode c, length_encodes cs, sum_by-cons len_utf8 c cs)

-- the bytes of the first k characters, and those of the other characters
part_bytes : (bs : List ℕ) (k : ℕ) → IsUtf8 bs
    → take (utf8_len (take k (chars bs))) bs ≡ encode_utf8_all (take k (chars bs))
part_bytes bs k utf8 =
    let front = take k (chars bs) in
    let both : bs ≡ encode_utf8_all front ++ encode_utf8_all (drop k (chars bs)) =
    sym (encodes-chars bs utf8) ∙ ap encode_utf8_all (sym (take-append-drop k (chars bs)))
    ∙ encodes-append front (drop k (chars bs)) in
    ap (take (utf8_len front)) both
    ∙ ap (λ n. take n (encode_utf8_all front ++ encode_utf8_all (drop k (chars bs))))
    (sym (length_encodes front))
    ∙ take-append_seam (encode_utf8_all front) (encode_utf8_all (drop k (chars bs)))

rest_bytes : (bs : List ℕ) (k : ℕ) → IsUtf8 bs
    → drop (utf8_len (take k (chars bs))) bs ≡ encode_utf8_all (drop k (chars bs))
rest_bytes bs k utf8 =
    let front = take k (chars bs) in
    let both : bs ≡ encode_utf8_all front ++ encode_utf8_all (drop k (chars bs)) =
    sym (encodes-chars bs utf8) ∙ ap encode_utf8_all (sym (take-append-drop k (chars bs)))
    ∙ encodes-append front (drop k (chars bs)) in
    ap (drop (utf8_len front)) both
    ∙ ap (λ n. drop n (encode_utf8_all front ++ encode_utf8_all (drop k (chars bs))))
    (sym (length_encodes front))
    ∙ drop-append_seam (encode_utf8_all front) (encode_utf8_all (drop k (chars bs)))

-- ---- one step of the loop, over one token

-- the characters of the token, and those after it
drop_on : (n at : ℕ) (text : List ℕ) → drop n (drop at text) ≡ drop (at + n) text
drop_on n at text = drop-drop n at text ∙ ap (λ m. drop m text) (omega arith)

some_chars : (bs : List ℕ) → IsUtf8 bs → 0 < length bs → 1 ≤ length (chars bs)
some_chars bs utf8 h = by (chars bs) (encodes-chars bs utf8)
  where
    by : (cs : List ℕ) → encode_utf8_all cs ≡ bs → 1 ≤ length cs
    by [] e = absurd (let none : length bs ≡ 0 = ap length (sym e) in omega arith)
    by (c ∷ cs) e = omega arith

pub step : TokensProgress → (strings : Strings) (text : List ℕ) (at : ℕ) (t : Token) (part : List ℕ)
    → IsUtf8 text → IsCharBoundary text at → at < length text
    → IsCharBoundary text (at + t.len) → 0 < t.len
    → t ≡ token_at strings (at == 0) (chars (drop at text)) → part ≡ take t.len (drop at text)
    → IsUtf8 part
    → text_tokens_at strings text at
    ≡ text_token t.kind (chars part) ∷ text_tokens_at strings text (at + t.len)
step some strings text at t part utf8 here within there long is e part_utf8 =
    let bs = drop at text in
    let u = chars bs in
    let s = at == 0 in
    let k = (lexeme_at strings s u).end in
    let bs_utf8 : IsUtf8 bs = IsUtf8-drop text at utf8 here in
    let len : t.len ≡ utf8_len (take k u) = ap (λ (x : Token). x.len) is in
    let kind : t.kind ≡ (lexeme_at strings s u).kind = ap (λ (x : Token). x.kind) is in
    let front : take k u ≡ chars part =
    chars_from_encodes (take k u) part part_utf8 (sym (e ∙ ap (λ n. take n bs) len
    ∙ part_bytes bs k bs_utf8)) in
    let rest_is : encode_utf8_all (drop k u) ≡ drop (at + t.len) text =
    sym (sym (drop_on t.len at text) ∙ ap (λ n. drop n bs) len ∙ rest_bytes bs k bs_utf8) in
    let rest : drop k u ≡ chars (drop (at + t.len) text) =
    chars_from_encodes (drop k u) (drop (at + t.len) text)
    (IsUtf8-drop text (at + t.len) utf8 there) rest_is in
    let more : (at + t.len == 0) ≡ false = grind (arith, nat_tests) in
    let full : 1 ≤ length u = some_chars bs bs_utf8 (omega (arith, length-drop at text)) in
    text_tokens_first some strings s u full
    ∙ ap (λ y. text_token (lexeme_at strings s u).kind y
    ∷ text_tokens_from strings 0 false (drop k u)) front
    ∙ ap (λ y. text_token y (chars part) ∷ text_tokens_from strings 0 false (drop k u))
    (sym kind)
    ∙ ap (λ y. text_token t.kind (chars part) ∷ text_tokens_from strings 0 false y) rest
    ∙ ap (λ b. text_token t.kind (chars part)
    ∷ text_tokens_from strings 0 b (chars (drop (at + t.len) text))) (sym more)

-- at the end of the text there is no token
tokens_end : (strings : Strings) (text : List ℕ) (at : ℕ) → length text ≤ at
    → text_tokens_at strings text at ≡ []
tokens_end strings text at h = ap (text_tokens_from strings 0 (at == 0))
    (chars_none (drop at text) (omega (arith, length-drop at text)))

-- ---- one more token

-- the separator of a run, and then tokens
separator_spelling : (run : TriviaRun) (p : TextToken) (ps : List TextToken)
    → encode_utf8_all (text_of (prepend_separator run (p ∷ ps)))
    ≡ separator_bytes run ++ (encode_utf8_all p.text ++ encode_utf8_all (text_of ps))
unfolding encode_utf8
separator_spelling None p ps = encodes-append p.text (text_of ps)
separator_spelling (Some true) p ps = ap (λ w. 10 ∷ w) (encodes-append p.text (text_of ps))
separator_spelling (Some false) p ps = ap (λ w. 32 ∷ w) (encodes-append p.text (text_of ps))

-- output that grew by a separator and a token, before what follows them
put_kept : (new mid out sep part rest whole : List ℕ) → new ≡ mid ++ part → mid ≡ out ++ sep
    → whole ≡ sep ++ (part ++ rest) → new ++ rest ≡ out ++ whole
put_kept new mid out sep part rest whole e f g =
    ap (λ w. w ++ rest) (e ∙ ap (λ w. w ++ part) f) ∙ append_assoc (out ++ sep) part rest
    ∙ append_assoc out sep (part ++ rest) ∙ ap (λ w. out ++ w) (sym g)

-- any other token follows the separator of the run
pub push_other : (new mid out : List ℕ) (run : TriviaRun) (part : List ℕ) (kind : TokenKind)
    (ts : List TextToken) → IsUtf8 part → new ≡ mid ++ part → mid ≡ out ++ separator_bytes run
    → is_trivia kind ≡ false
    → new ++ encode_utf8_all (text_of (squeeze_tokens None ts))
    ≡ out ++ encode_utf8_all (text_of (squeeze_tokens run (text_token kind (chars part) ∷ ts)))
push_other new mid out run part kind ts utf8 e f h =
    let rest = squeeze_tokens None ts in
    put_kept new mid out (separator_bytes run) part (encode_utf8_all (text_of rest)) _ e f
    (rw h (separator_spelling run (text_token kind (chars part)) rest
    ∙ ap (λ w. separator_bytes run ++ (w ++ encode_utf8_all (text_of rest)))
    (encodes-chars part utf8)))

-- after the last token, the separator of the run is left
pub push_last : (new out : List ℕ) (run : TriviaRun) → new ≡ out ++ separator_bytes run
    → new ≡ out ++ encode_utf8_all (text_of (squeeze_tokens run []))
unfolding encode_utf8
push_last new out None e = e
push_last new out (Some true) e = e
push_last new out (Some false) e = e

-- before the first token
pub no_tokens : (s : Squeezer) (ts : List TextToken) → string_bytes s.out ≡ [] → s.run ≡ None
    → output_with_rest s ts ≡ encode_utf8_all (text_of (squeeze_tokens None ts))
no_tokens s ts e f =
    ap (λ w. w ++ encode_utf8_all (text_of (squeeze_tokens s.run ts))) e
    ∙ ap (λ run. encode_utf8_all (text_of (squeeze_tokens run ts))) f

-- a token joins what was squeezed before
pub pushed : (trivia : Bool) (part : List ℕ) (old new : Squeezer) (kind : TokenKind)
    (us ts : List TextToken) (whole : List ℕ) → IsPushed trivia (chars part) old new
    → is_trivia kind ≡ trivia → us ≡ text_token kind (chars part) ∷ ts
    → output_with_rest old us ≡ whole → output_with_rest new ts ≡ whole
pushed trivia part old new kind us ts whole is h e inv =
    is kind ts h ∙ ap (output_with_rest old) (sym e) ∙ inv

-- the output of all tokens
pub output_is : (s : Squeezer) (strings : Strings) (text : List ℕ) (at : ℕ) (out whole : List ℕ)
    → out ≡ output_with_rest s [] → length text ≤ at
    → output_with_rest s (text_tokens_at strings text at) ≡ whole → out ≡ whole
output_is s strings text at out whole e h inv =
    e ∙ ap (output_with_rest s) (sym (tokens_end strings text at h)) ∙ inv

-- ---- what holds of a result

-- a result that is the squeezed text has the tokens of the text, trivia left out
pub result_keeps_tokens : LexerLaws → (strings : Strings) (text out : List ℕ) → IsUtf8 out
    → IsSqueezed strings text out → KeepsTokens strings text out
result_keeps_tokens laws strings text out utf8 is =
    ap (λ u. without_trivia (text_tokens strings u))
    (sym (chars_from_encodes (squeezed_text strings (chars text)) out utf8 (sym is)))
    ∙ keeps_tokens laws strings (chars text)

-- a result that is the squeezed text is squeezed
pub result_is_unchanged : LexerLaws → (strings : Strings) (text out : List ℕ) → IsUtf8 out
    → IsSqueezed strings text out → IsUnchangedBySqueezing strings out
result_is_unchanged laws strings text out utf8 is =
    let same : squeezed_text strings (chars text) ≡ chars out =
    chars_from_encodes (squeezed_text strings (chars text)) out utf8 (sym is) in
    ap (squeezed_text strings) (sym same) ∙ squeeze_idempotent laws strings (chars text) ∙ same

-- ---- the squeezed text is no longer than the text

-- each token has a character
abbrev AreFull : List TextToken → Type 0
AreFull [] = ⊤
AreFull (t ∷ ts) = (1 ≤ utf8_len t.text) × AreFull ts

-- so it has a byte
some_bytes : (n c : ℕ) (cs : List ℕ) → 1 ≤ n → 1 ≤ utf8_len (take n (c ∷ cs))
some_bytes zero c cs h = absurd (omega arith)
some_bytes (suc n) c cs h =
    omega (arith, sum_by-cons len_utf8 c (take n cs), (len_utf8_bounds c).0)

are_full : TokensProgress → (strings : Strings) (inside : ℕ) (s : Bool) (u : List ℕ)
    → AreFull (text_tokens_from strings inside s u)
are_full some strings zero s [] = tt
are_full some strings (suc n) s [] = tt
are_full some strings zero s (c ∷ cs) =
    let n = (lexeme_at strings s (c ∷ cs)).end in
    let own = some_bytes n c cs (some strings s (c ∷ cs) (omega arith)) in
    (own, are_full some strings (n - 1) false cs)
are_full some strings (suc n) s (c ∷ cs) = are_full some strings n s cs

-- lengths of two texts, and of a text after the separator of a run
utf8_append : (u v : List ℕ) → utf8_len (u ++ v) ≡ utf8_len u + utf8_len v
utf8_append u v = sum_by-append len_utf8 u v

-- the number of bytes that a run becomes
abbrev separator_len : TriviaRun → ℕ
separator_len None = 0
separator_len (Some b) = 1

run_len : (run : TriviaRun) → separator_len run ≤ 1
run_len None = omega arith
run_len (Some b) = omega arith

prepend_len : (run : TriviaRun) (ts : List TextToken)
    → utf8_len (text_of (prepend_separator run ts)) ≡ separator_len run + utf8_len (text_of ts)
prepend_len None ts = omega arith
prepend_len (Some true) ts = omega (arith, sum_by-cons len_utf8 10 (text_of ts))
prepend_len (Some false) ts = omega (arith, sum_by-cons len_utf8 32 (text_of ts))

-- a run becomes at most as many bytes as it had
squeezed_len : (run : TriviaRun) (ts : List TextToken) → AreFull ts
    → utf8_len (text_of (squeeze_tokens run ts)) ≤ separator_len run + utf8_len (text_of ts)
squeezed_len run [] full = omega (arith, prepend_len run [])
squeezed_len run (t ∷ ts) full =
    by (is_trivia t.kind) (squeezed_len (extend_run run t.text) ts full.1)
    (squeezed_len None ts full.1)
  where
    by : (b : Bool)
        → utf8_len (text_of (squeeze_tokens (extend_run run t.text) ts))
        ≤ separator_len (extend_run run t.text) + utf8_len (text_of ts)
        → utf8_len (text_of (squeeze_tokens None ts)) ≤ separator_len None + utf8_len (text_of ts)
        → utf8_len (text_of (cond b (squeeze_tokens (extend_run run t.text) ts)
        (prepend_separator run (t ∷ squeeze_tokens None ts))))
        ≤ separator_len run + utf8_len (t.text ++ text_of ts)
    by true more next = omega (
      arith,
      more,
      full.0,
      run_len (extend_run run t.text),
      utf8_append t.text (text_of ts),
    )
    by false more next = omega (
      arith,
      next,
      prepend_len run (t ∷ squeeze_tokens None ts),
      utf8_append t.text (text_of (squeeze_tokens None ts)),
      utf8_append t.text (text_of ts),
    )

-- the squeezed text is no longer than the text
pub squeezed_is_no_longer : TokensProgress → (strings : Strings) (text : List ℕ)
    → utf8_len (squeezed_text strings text) ≤ utf8_len text
squeezed_is_no_longer some strings text =
    let ts = text_tokens strings text in
    let all : utf8_len (text_of ts) ≡ utf8_len text = ap utf8_len (texts_add_up some strings text)
    in
    omega (arith, squeezed_len None ts (are_full some strings 0 true text), all)

-- nor is a result that is the squeezed text
pub result_is_no_longer : TokensProgress → (strings : Strings) (text out : List ℕ) → IsUtf8 text
    → IsSqueezed strings text out → length out ≤ length text
result_is_no_longer some strings text out utf8 is =
    omega (
      arith,
      ap length is,
      length_encodes (squeezed_text strings (chars text)),
      squeezed_is_no_longer some strings (chars text),
      length_encodes (chars text),
      ap length (encodes-chars text utf8),
    )
