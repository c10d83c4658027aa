-- The tokens of a text: the first one, then those of the rest.
use Rattle.std.proofs.Common.{◌≡◌, ℕ, zero, suc, ◌+◌, ◌-◌, ◌<◌, ◌≤◌, Bool, false, List, [], ◌∷◌, length, take, drop, eqb, refl, sym, ap, subst, ◌∙◌, arith, IsUtf8}
use Rattle.std.proofs.lemmas.Bool.Decides.{nat_tests}
use Rattle.std.proofs.lemmas.List.{drop-drop}
use Rattle.std.proofs.lemmas.Str.{chars-nil, IsUtf8-drop, IsCharBoundary-start, IsCharBoundary-from_rest}
use Rattle.std.specs.List.{slice_range}
use Rattle.std.specs.Str.{chars, IsCharBoundary}
use Rattle.squawk_lexed.specs.Faults.{faults}
use Rattle.squawk_lexed.specs.Leaf.{leaf_kind}
use Rattle.squawk_lexed.specs.LexedText.{lexed_tokens, total_len}
use Rattle.squawk_lexed.specs.LexedToken.{LexedToken}
use Rattle.squawk_lexer.specs.Cut.{tokens_from}
use Rattle.squawk_lexer.specs.LookAhead.{TextsProgress, TextsRestart, IsFirstTokenAt}
use Rattle.squawk_lexer.specs.Token.{token_at}
use Rattle.squawk_lexer.specs.declared.token.Strings.{Strings}
use Rattle.squawk_lexer.specs.declared.token.Token.{Token}
use Rattle.squawk_split.specs.Pieces.{tokens_of}

-- a token of the lexer with its text, as a parser reads it
abbrev pub lexed : Token → List ℕ → LexedToken
lexed t own = record { kind = leaf_kind t.kind own; len = t.len; faults = faults t }

pub tokens_none : (strings : Strings) (at_start : Bool) → tokens_of strings at_start [] ≡ []
tokens_none strings at_start =
    ap (λ cs. lexed_tokens [] 0 (tokens_from strings 0 at_start cs)) chars-nil

-- the tokens of a text that begins at an offset of another
pub shift_tokens : (text : List ℕ) (k at : ℕ) (ts : List Token)
    → lexed_tokens (drop k text) at ts ≡ lexed_tokens text (k + at) ts
shift_tokens text k at [] = refl
shift_tokens text k at (t ∷ ts) =
    let part : slice_range (drop k text) at (at + t.len)
    ≡ slice_range text (k + at) (k + at + t.len) =
    ap (take (at + t.len - at)) (drop-drop at k text)
    ∙ ap (λ n. take n (drop (k + at) text))
    (let e : at + t.len - at ≡ k + at + t.len - (k + at) = omega arith in e) in
    ap (λ own. lexed t own ∷ lexed_tokens (drop k text) (at + t.len) ts) part
    ∙ ap (λ us. lexed t (slice_range text (k + at) (k + at + t.len)) ∷ us)
    (shift_tokens text k (at + t.len) ts
    ∙ ap (λ n. lexed_tokens text n ts)
    (let e : k + (at + t.len) ≡ k + at + t.len = omega arith in e))

first_lexed : (text : List ℕ) (t : Token) (ts : List Token)
    → lexed_tokens text 0 (t ∷ ts)
    ≡ lexed t (take t.len text) ∷ lexed_tokens (drop t.len text) 0 ts
first_lexed text t ts =
    ap (λ n. lexed t (take n text) ∷ lexed_tokens text (0 + t.len) ts)
    (let e : 0 + t.len - 0 ≡ t.len = omega arith in e)
    ∙ ap (λ us. lexed t (take t.len text) ∷ us)
    (ap (λ n. lexed_tokens text n ts) (let e : 0 + t.len ≡ t.len + 0 = omega arith in e)
    ∙ sym (shift_tokens text t.len 0 ts))

-- this token begins the text, and ends at a character boundary
pub record Begins (strings : Strings) (at_start : Bool) (text : List ℕ) : Type 0 where
  pub first : LexedToken
  pub some : 0 < first.len
  pub boundary : IsCharBoundary text first.len
  pub tokens : tokens_of strings at_start text
      ≡ first ∷ tokens_of strings false (drop first.len text)

pub begins : TextsProgress → TextsRestart → (strings : Strings) (at_start : Bool) (text : List ℕ)
    → IsUtf8 text → 0 < length text → Begins strings at_start text
begins progress restart strings at_start text utf8 some =
    let t = token_at strings at_start (chars text) in
    let more : 1 ≤ length text = omega arith in
    let both = progress strings at_start text utf8 more in
    record {
      first = lexed t (take t.len text);
      some = let e : 1 ≤ t.len = both.0 in omega arith;
      boundary = both.1;
      tokens = ap (lexed_tokens text 0) (restart strings at_start text utf8 more)
          ∙ first_lexed text t (tokens_from strings 0 false (chars (drop t.len text)));
    }

-- the token that was cut at an offset, with its kind
pub cut_first : (strings : Strings) (text : List ℕ) (at : ℕ) (t : Token) (own : List ℕ) (kind : ℕ)
    → IsFirstTokenAt strings text at t → own ≡ slice_range text at (at + t.len)
    → kind ≡ leaf_kind t.kind own
    → tokens_of strings (eqb at 0) (drop at text)
    ≡ record { kind = kind; len = t.len; faults = faults t }
    ∷ tokens_of strings false (drop (at + t.len) text)
cut_first strings text at t own kind first own_is kind_is =
    let rest = drop at text in
    let part : take t.len rest ≡ own =
    ap (λ n. take n rest) (let e : t.len ≡ at + t.len - at = omega arith in e) ∙ sym own_is in
    ap (lexed_tokens rest 0) first
    ∙ first_lexed rest t (tokens_from strings 0 false (chars (drop (at + t.len) text)))
    ∙ ap (λ u. lexed t (take t.len rest)
    ∷ lexed_tokens u 0 (tokens_from strings 0 false (chars (drop (at + t.len) text))))
    (drop-drop t.len at text)
    ∙ ap (λ u. lexed t u ∷ tokens_of strings false (drop (at + t.len) text)) part
    ∙ ap (λ (k : ℕ). record { kind = k; len = t.len; faults = faults t }
    ∷ tokens_of strings false (drop (at + t.len) text)) (sym kind_is)

pub not_at_start : (at : ℕ) → 0 < at → eqb at 0 ≡ false
not_at_start at h = grind (arith, nat_tests)

-- ---- after several tokens

-- whether a text begins with what follows n of its tokens
abbrev pub is_start_after : ℕ → Bool → Bool
is_start_after zero at_start = at_start
is_start_after (suc n) at_start = false

inside : (n : ℕ) → is_start_after n false ≡ false
inside zero = refl
inside (suc n) = refl

-- these tokens of a text: n of them end at a character boundary, and the others are those of the
-- rest
pub record After (strings : Strings) (at_start : Bool) (n : ℕ) (text : List ℕ)
    (ts : List LexedToken) : Type 0 where
  pub boundary : IsCharBoundary text (total_len (take n ts))
  pub rest : drop n ts
      ≡ tokens_of strings (is_start_after n at_start) (drop (total_len (take n ts)) text)

pub after : TextsProgress → TextsRestart → (strings : Strings) (at_start : Bool) (n : ℕ)
    (text : List ℕ) → IsUtf8 text → After strings at_start n text (tokens_of strings at_start text)
after progress restart strings at_start zero text utf8 =
    record { boundary = IsCharBoundary-start text utf8; rest = refl }
after progress restart strings at_start (suc n) [] utf8 =
    subst (After strings at_start (suc n) []) (sym (tokens_none strings at_start)) (record {
      boundary = IsCharBoundary-start [] utf8;
      rest = sym (tokens_none strings false);
    })
after progress restart strings at_start (suc n) (b ∷ bs) utf8 =
    let text = b ∷ bs in
    let s = begins progress restart strings at_start text utf8 (omega arith) in
    let rest = drop s.first.len text in
    let us = tokens_of strings false rest in
    let next = after progress restart strings false n rest
    (IsUtf8-drop text s.first.len utf8 s.boundary) in
    subst (After strings at_start (suc n) text) (sym s.tokens) (record {
      boundary = IsCharBoundary-from_rest text s.first.len (total_len (take n us)) s.boundary.0
          next.boundary;
      rest = next.rest
          ∙ ap (tokens_of strings (is_start_after n false))
          (drop-drop (total_len (take n us)) s.first.len text)
          ∙ ap (λ start. tokens_of strings start
          (drop (s.first.len + total_len (take n us)) text)) (inside n);
    })
