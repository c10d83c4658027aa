-- The tokens of every text cover it from its start to its end.
use Rattle.std.proofs.Common.{◌≡◌, ℕ, zero, suc, ◌+◌, ◌-◌, ◌<◌, ◌≤◌, Bool, false, List, [], ◌∷◌, ◌++◌, length, drop, take, refl, sym, ap, subst, ◌∙◌, inl, inr, ◌⊎◌, arith, IsUtf8}
use Rattle.std.proofs.lemmas.Bool.{cases_lt}
use Rattle.std.proofs.lemmas.List.{drop-drop, take-append-drop, length-drop}
use Rattle.std.proofs.lemmas.Str.{encodes-append, encodes-chars, scalars-chars, is_utf8-from_IsUtf8, IsCharBoundary-at_seam, IsCharBoundary-from_rest, chars_from_encodes}
use Rattle.std.proofs.Math.Seq.{drop-append_seam}
use Rattle.std.specs.Str.{chars, encode_utf8_all, IsCharBoundary}
use Rattle.squawk_lexer.specs.declared.token.Token.{Token}
use Rattle.squawk_lexer.specs.declared.token.Strings.{Strings}
use Rattle.squawk_lexer.specs.Text.{utf8_len}
use Rattle.squawk_lexer.specs.Token.{lexeme_at, token_at}
use Rattle.squawk_lexer.specs.Cut.{tokens_from, Tiles}
use Rattle.squawk_lexer.proofs.CursorRest.{length_encodes, length_bytes, bytes_none}
use Rattle.squawk_lexer.proofs.ByteRuns.{scalars_drop}
use Rattle.squawk_lexer.proofs.TokenLaws.{lexeme_at_some, token_positive, token_never_eof}

-- No token begins inside another.
tokens_inside : (strings : Strings) (n : ℕ) (u : List ℕ)
    → tokens_from strings n false u ≡ tokens_from strings 0 false (drop n u)
tokens_inside strings zero [] = refl
tokens_inside strings (suc n) [] = refl
tokens_inside strings zero (c ∷ cs) = refl
tokens_inside strings (suc n) (c ∷ cs) = tokens_inside strings n cs

-- Dropping n - 1 characters after the first is dropping n.
drop_end : (n c : ℕ) (cs : List ℕ) → 0 < n → drop (n - 1) cs ≡ drop n (c ∷ cs)
drop_end zero c cs h = absurd (omega arith)
drop_end (suc n) c cs h = ap (λ m. drop m cs) (omega arith)

-- The tokens of a text are the first one and those of the rest.
pub tokens_first : (strings : Strings) (s : Bool) (u : List ℕ) → 0 < length u
    → tokens_from strings 0 s u
    ≡ token_at strings s u ∷ tokens_from strings 0 false (drop (lexeme_at strings s u).end u)
tokens_first strings s [] h = absurd (omega arith)
tokens_first strings s (c ∷ cs) h =
    ap (λ ts. token_at strings s (c ∷ cs) ∷ ts)
    (tokens_inside strings ((lexeme_at strings s (c ∷ cs)).end - 1) cs
    ∙ ap (tokens_from strings 0 false) (drop_end (lexeme_at strings s (c ∷ cs)).end c cs
    (lexeme_at_some strings s (c ∷ cs) h)))

-- An empty text has none.
pub tokens_none : (strings : Strings) (s : Bool) (u : List ℕ) → length u ≡ 0
    → tokens_from strings 0 s u ≡ []
tokens_none strings s [] h = refl
tokens_none strings s (c ∷ cs) h = absurd (omega arith)

-- ---- the tokens of a text are no more than its characters

-- By induction on the text.
pub tokens_few : (strings : Strings) (n : ℕ) (s : Bool) (u : List ℕ)
    → length (tokens_from strings n s u) ≤ length u
tokens_few strings n s [] = omega arith
tokens_few strings zero s (c ∷ cs) =
    omega (arith, tokens_few strings ((lexeme_at strings s (c ∷ cs)).end - 1) false cs)
tokens_few strings (suc n) s (c ∷ cs) = omega (arith, tokens_few strings n s cs)

-- ---- the tokens of a text tile it

-- The bytes after the first n characters begin at a character boundary, and have the other
-- characters.
pub record IsCut (bs : List ℕ) (n : ℕ) : Type 0 where
  pub utf8 : IsUtf8 (drop (utf8_len (take n (chars bs))) bs)
  pub rest : chars (drop (utf8_len (take n (chars bs))) bs) ≡ drop n (chars bs)
  pub boundary : IsCharBoundary bs (utf8_len (take n (chars bs)))

-- A text may be cut after any number of characters.
pub cut_after : (bs : List ℕ) (n : ℕ) → IsUtf8 bs → IsCut bs n
cut_after bs n utf8 =
    let prefix = take n (chars bs) in
    let suffix = drop n (chars bs) in
    let both : bs ≡ encode_utf8_all prefix ++ encode_utf8_all suffix = sym (encodes-chars bs utf8)
    ∙ ap encode_utf8_all (sym (take-append-drop n (chars bs))) ∙ encodes-append prefix suffix in
    let len : length (encode_utf8_all prefix) ≡ utf8_len prefix = length_encodes prefix in
    let back_utf8 : IsUtf8 (encode_utf8_all suffix) =
    (suffix, (scalars_drop n (chars bs) (scalars-chars bs utf8), refl)) in
    let same : drop (utf8_len prefix) bs ≡ encode_utf8_all suffix =
    ap (λ m. drop m bs) (sym len) ∙ ap (drop (length (encode_utf8_all prefix))) both
    ∙ drop-append_seam (encode_utf8_all prefix) (encode_utf8_all suffix) in
    let rest_utf8 : IsUtf8 (drop (utf8_len prefix) bs) = subst IsUtf8 (sym same) back_utf8 in
    record {
      utf8 = rest_utf8;
      rest = sym (chars_from_encodes suffix (drop (utf8_len prefix) bs) rest_utf8 (sym same));
      boundary = subst (IsCharBoundary bs) len
          (IsCharBoundary-at_seam bs (encode_utf8_all prefix) (encode_utf8_all suffix) both back_utf8);
    }

-- A token that begins at a character boundary ends at one.
pub token_boundary : (strings : Strings) (s : Bool) (text : List ℕ) (at : ℕ) → at ≤ length text
    → IsUtf8 (drop at text)
    → IsCharBoundary text (at + (token_at strings s (chars (drop at text))).len)
token_boundary strings s text at within utf8 =
    IsCharBoundary-from_rest text at _ within
    (cut_after (drop at text) (lexeme_at strings s (chars (drop at text))).end utf8).boundary

-- The characters after such a token.
after_token : (strings : Strings) (s : Bool) (text : List ℕ) (at : ℕ) → IsUtf8 (drop at text)
    → chars (drop (at + (token_at strings s (chars (drop at text))).len) text)
    ≡ drop (lexeme_at strings s (chars (drop at text))).end (chars (drop at text))
after_token strings s text at utf8 =
    ap chars (sym (drop-drop (token_at strings s (chars (drop at text))).len at text))
    ∙ (cut_after (drop at text) (lexeme_at strings s (chars (drop at text))).end utf8).rest

-- The tokens from an offset on are the one there, and those from its end on.
pub token_then : (strings : Strings) (s : Bool) (text : List ℕ) (at : ℕ) → IsUtf8 (drop at text)
    → 0 < length (chars (drop at text))
    → tokens_from strings 0 s (chars (drop at text))
    ≡ token_at strings s (chars (drop at text))
    ∷ tokens_from strings 0 false
    (chars (drop (at + (token_at strings s (chars (drop at text))).len) text))
token_then strings s text at utf8 some =
    rw (after_token strings s text at utf8) (tokens_first strings s (chars (drop at text)) some)

-- There are no tokens at the end of the text.
tiles_end : (strings : Strings) (s : Bool) (text : List ℕ) (at : ℕ) → at ≤ length text
    → IsUtf8 (drop at text) → length (chars (drop at text)) ≡ 0
    → Tiles text at (tokens_from strings 0 s (chars (drop at text)))
tiles_end strings s text at within utf8 none =
    let bytes_none : utf8_len (chars (drop at text)) ≡ 0 = bytes_none (chars (drop at text)) none in
    let len = length_bytes (drop at text) (is_utf8-from_IsUtf8 (drop at text) utf8) in
    rw (tokens_none strings s (chars (drop at text)) none)
    (omega (arith, len, length-drop at text, within))

-- The tokens from an offset on cover what is left, where that has at most n characters.
abbrev Tiled : ℕ → Strings → List ℕ → ℕ → Bool → Type 0
Tiled n strings text at s =
    at ≤ length text → IsUtf8 (drop at text) → length (chars (drop at text)) ≤ n
    → Tiles text at (tokens_from strings 0 s (chars (drop at text)))

-- By induction on n.
tiles : (n : ℕ) (strings : Strings) (text : List ℕ) (at : ℕ) (s : Bool) → Tiled n strings text at s
tiles zero strings text at s within utf8 h = tiles_end strings s text at within utf8 (omega arith)
tiles (suc n) strings text at s within utf8 h =
    by (λ next. tiles n strings text next false) (cases_lt 0 (length (chars (drop at text))))
  where
    token : Token
    token = token_at strings s (chars (drop at text))

    boundary : IsCharBoundary text (at + token.len)
    boundary = token_boundary strings s text at within utf8

    -- the rest is a text
    utf8_after : IsUtf8 (drop (at + token.len) text)
    utf8_after =
        subst IsUtf8 (drop-drop token.len at text)
        (cut_after (drop at text) (lexeme_at strings s (chars (drop at text))).end utf8).utf8

    rest : chars (drop (at + token.len) text)
        ≡ drop (lexeme_at strings s (chars (drop at text))).end (chars (drop at text))
    rest = after_token strings s text at utf8

    by : ((next : ℕ) → Tiled n strings text next false) → (0 < length (chars (drop at text)))
        ⊎ (length (chars (drop at text)) ≤ 0)
        → Tiles text at (tokens_from strings 0 s (chars (drop at text)))
    by behind (inr none) = tiles_end strings s text at within utf8 (omega arith)
    by behind (inl some) =
        let less : length (chars (drop (at + token.len) text)) ≤ n =
        omega (
          arith,
          ap length rest,
          length-drop (lexeme_at strings s (chars (drop at text))).end (chars (drop at text)),
          lexeme_at_some strings s (chars (drop at text)) some,
          h,
        ) in
        let more = behind (at + token.len) boundary.0 utf8_after less in
        rw (tokens_first strings s (chars (drop at text)) some) (
          token_positive strings s (chars (drop at text)) some,
          token_never_eof strings s (chars (drop at text)),
          boundary,
          rw rest at more,
        )

-- The tokens of a text cover it.
pub tokens_tile : (strings : Strings) (s : Bool) (text : List ℕ) → IsUtf8 text
    → Tiles text 0 (tokens_from strings 0 s (chars text))
tokens_tile strings s text utf8 =
    tiles (length (chars text)) strings text 0 s (omega arith) utf8 (omega arith)
