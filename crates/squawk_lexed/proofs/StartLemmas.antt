-- Each token of a lexed text is the one that the lexer cuts where it starts.
use Rattle.std.proofs.Common.{◌≡◌, ◌⊎◌, inl, inr, ℕ, zero, suc, ◌+◌, ◌<◌, ◌≤◌, ◌==◌, false, List, [], ◌∷◌, length, take, drop, get_or, length-drop, refl, sym, ap, subst, ◌∙◌, arith, IsUtf8}
use Rattle.std.proofs.lemmas.Bool.{cases_lt}
use Rattle.std.proofs.lemmas.Bool.Decides.{nat_tests}
use Rattle.std.proofs.lemmas.List.{drop-drop}
use Rattle.std.proofs.lemmas.Str.{chars-nil, IsUtf8-drop, IsCharBoundary-start, IsCharBoundary-from_rest}
use Rattle.std.specs.List.{slice_range}
use Rattle.std.specs.Str.{chars, IsCharBoundary}
use Rattle.squawk_lexer.specs.Cut.{tokens_from}
use Rattle.squawk_lexer.specs.LookAhead.{TextsProgress, TextsRestart}
use Rattle.squawk_lexer.specs.declared.token.Strings.{Strings}
use Rattle.squawk_lexer.specs.declared.token.Token.{Token}
use Rattle.squawk_lexed.specs.Faults.{faults}
use Rattle.squawk_lexed.specs.Leaf.{leaf_kind}
use Rattle.squawk_lexed.specs.LexedLaws.{token_cut_at, IsTokenAt, TokensAreCutAtTheirStarts}
use Rattle.squawk_lexed.specs.LexedText.{lexed_tokens, lexed_text, token_start, total_len}
use Rattle.squawk_lexed.specs.LexedToken.{LexedToken}
use Rattle.squawk_lexed.specs.Stored.{kinds_of, faults_at}

-- the tokens of a text from a byte on
abbrev lexed_tokens_at : Strings → List ℕ → ℕ → List LexedToken
lexed_tokens_at strings text at =
    lexed_tokens text at (tokens_from strings 0 (at == 0) (chars (drop at text)))

-- a token of the lexer that begins at a byte of a text
abbrev lexed : List ℕ → ℕ → Token → LexedToken
lexed text at t = record {
  kind = leaf_kind t.kind (slice_range text at (at + t.len));
  len = t.len;
  faults = faults t;
}

-- the first of these tokens is the one that is cut there, and the others are those after it
record Begins (strings : Strings) (text : List ℕ) (at : ℕ) (t : Token) : Type 0 where
  boundary : IsCharBoundary text (at + t.len)
  tokens : lexed_tokens_at strings text at
      ≡ lexed text at t ∷ lexed_tokens_at strings text (at + t.len)

not_at_start : (at n : ℕ) → 1 ≤ n → false ≡ (at + n == 0)
not_at_start at n h = sym (let e : (at + n == 0) ≡ false = grind (arith, nat_tests) in e)

begins : TextsProgress → TextsRestart → (strings : Strings) (text : List ℕ) (at : ℕ)
    → IsUtf8 text → IsCharBoundary text at → at < length text
    → Begins strings text at (token_cut_at strings text at)
begins progress restart strings text at utf8 here some =
    let rest = drop at text in
    let t = token_cut_at strings text at in
    let rest_utf8 = IsUtf8-drop text at utf8 here in
    let more : 1 ≤ length rest = omega (arith, length-drop at text) in
    let both = progress strings (at == 0) rest rest_utf8 more in
    let after : drop t.len rest ≡ drop (at + t.len) text = drop-drop t.len at text in
    record {
      boundary = IsCharBoundary-from_rest text at t.len here.0 both.1;
      tokens = ap (lexed_tokens text at) (restart strings (at == 0) rest rest_utf8 more)
          ∙ ap (λ u. lexed text at t
          ∷ lexed_tokens text (at + t.len) (tokens_from strings 0 false (chars u))) after
          ∙ ap (λ start. lexed text at t ∷ lexed_tokens text (at + t.len)
          (tokens_from strings 0 start (chars (drop (at + t.len) text))))
          (not_at_start at t.len both.0);
    }

-- where a text ends there is no token
none_at_end : (strings : Strings) (text : List ℕ) (at : ℕ) → length text ≤ at
    → length (lexed_tokens_at strings text at) ≡ 0
none_at_end strings text at h = by (drop at text) (omega (arith, length-drop at text))
  where
    by : (rest : List ℕ) → length rest ≡ 0
        → length (lexed_tokens text at (tokens_from strings 0 (at == 0) (chars rest))) ≡ 0
    by [] e = ap (λ cs. length (lexed_tokens text at (tokens_from strings 0 (at == 0) cs)))
        chars-nil
    by (b ∷ bs) e = absurd (omega arith)

some_left : (strings : Strings) (text : List ℕ) (at i : ℕ)
    → i < length (lexed_tokens_at strings text at) → at < length text
some_left strings text at i h = by (cases_lt at (length text))
  where
    by : (at < length text) ⊎ (length text ≤ at) → at < length text
    by (inl some) = some
    by (inr none) = absurd (omega (arith, h, none_at_end strings text at none))

-- a token is the one at index i of tokens, the first of which begins at a byte of the text; it
-- begins at byte `from`
record IsTokenFrom (text : List ℕ) (at : ℕ) (ts : List LexedToken) (i from : ℕ) (t : Token)
    : Type 0 where
  boundary : IsCharBoundary text from
  kind : get_or (kinds_of ts) i 0 ≡ leaf_kind t.kind (slice_range text from (from + t.len))
  end : at + total_len (take (suc i) ts) ≡ from + t.len
  faults_are : faults_at ts i ≡ faults t

first_token : (text : List ℕ) (at : ℕ) (t : Token) (us : List LexedToken)
    → IsCharBoundary text at → IsTokenFrom text at (lexed text at t ∷ us) 0 at t
first_token text at t us here =
    record { boundary = here; kind = refl; end = omega arith; faults_are = refl }

later_token : (text : List ℕ) (at : ℕ) (u : LexedToken) (us : List LexedToken) (i from : ℕ)
    (t : Token) → IsTokenFrom text (at + u.len) us i from t
    → IsTokenFrom text at (u ∷ us) (suc i) from t
later_token text at u us i from t is = record {
  boundary = is.boundary;
  kind = is.kind;
  end = omega (arith, is.end);
  faults_are = is.faults_are;
}

cut_from : TextsProgress → TextsRestart → (strings : Strings) (text : List ℕ) (i at from : ℕ)
    → IsUtf8 text → IsCharBoundary text at → i < length (lexed_tokens_at strings text at)
    → from ≡ at + total_len (take i (lexed_tokens_at strings text at))
    → IsTokenFrom text at (lexed_tokens_at strings text at) i from (token_cut_at strings text from)
cut_from progress restart strings text zero at from utf8 here h e =
    let t = token_cut_at strings text at in
    let s = begins progress restart strings text at utf8 here
    (some_left strings text at 0 h) in
    let same : at ≡ from = omega (arith, e) in
    subst (λ j. IsTokenFrom text at (lexed_tokens_at strings text at) 0 j
    (token_cut_at strings text j)) same
    (subst (λ ts. IsTokenFrom text at ts 0 at t) (sym s.tokens)
    (first_token text at t (lexed_tokens_at strings text (at + t.len)) here))
cut_from progress restart strings text (suc i) at from utf8 here h e =
    let t = token_cut_at strings text at in
    let s = begins progress restart strings text at utf8 here
    (some_left strings text at (suc i) h) in
    let us = lexed_tokens_at strings text (at + t.len) in
    let size : length (lexed_tokens_at strings text at) ≡ suc (length us) = ap length s.tokens in
    let start : total_len (take (suc i) (lexed_tokens_at strings text at))
    ≡ t.len + total_len (take i us) = ap (λ ts. total_len (take (suc i) ts)) s.tokens in
    subst (λ ts. IsTokenFrom text at ts (suc i) from (token_cut_at strings text from))
    (sym s.tokens)
    (later_token text at (lexed text at t) us i from (token_cut_at strings text from)
    (cut_from progress restart strings text i (at + t.len) from utf8 s.boundary
    (omega (arith, h, size)) (omega (arith, e, start))))

next_index : (i : ℕ) → suc i ≡ i + 1
next_index i = omega arith

-- the same of all tokens of a text
of_text : (text : List ℕ) (ts : List LexedToken) (i : ℕ) (t : Token)
    → IsTokenFrom text 0 ts i (token_start ts i) t
    → IsTokenAt (record { text = text; tokens = ts }) i t
of_text text ts i t is =
    let past : total_len (take (suc i) ts) ≡ token_start ts i + t.len = omega (arith, is.end) in
    let end : token_start ts (i + 1) ≡ token_start ts i + t.len =
    ap (λ n. total_len (take n ts)) (sym (next_index i)) ∙ past in
    record {
      boundary = is.boundary;
      kind = is.kind ∙ ap (λ n. leaf_kind t.kind (slice_range text (token_start ts i) n)) (sym end);
      end = end;
      faults_are = is.faults_are;
    }

pub cut_at_their_starts : TextsProgress → TextsRestart → TokensAreCutAtTheirStarts
cut_at_their_starts progress restart strings text i utf8 h =
    let ts = (lexed_text strings text).tokens in
    of_text text ts i (token_cut_at strings text (token_start ts i))
    (cut_from progress restart strings text i 0 (token_start ts i) utf8
    (IsCharBoundary-start text utf8) h (omega arith))
