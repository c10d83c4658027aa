-- A token is decided by its own characters and the two after it. The tokens after a token, and
-- those after a semicolon, do not depend on what comes before.
use Rattle.std.specs.Prelude.{◌≡◌, ℕ, ◌+◌, ◌≤◌, ◌==◌, Bool, false, List, [], ◌∷◌, ◌++◌, length, take, drop}
use Rattle.std.specs.List.{sum_by}
use Rattle.std.specs.Str.{chars, IsUtf8, IsCharBoundary}
use Rattle.squawk_lexer.specs.declared.token.Token.{Token}
use Rattle.squawk_lexer.specs.declared.token.TokenKind.TheVariants.{Semi}
use Rattle.squawk_lexer.specs.declared.token.Strings.{Strings}
use Rattle.squawk_lexer.specs.Token.{lexeme_at, token_at}
use Rattle.squawk_lexer.specs.Cut.{tokens_from, tokens}

-- u has at least n characters, and v begins with the same n.
pub record Agrees (n : ℕ) (u v : List ℕ) : Type 0 where
  pub within : n ≤ length u
  pub same : take n v ≡ take n u

-- Where two characters follow the first token of u, every text that begins with its characters and
-- these two has the same first token: the same kind with its flags, and the same end.
abbrev pub LexemesLookAhead : Type 0
LexemesLookAhead =
    (strings : Strings) (at_start : Bool) (u v : List ℕ)
    → Agrees ((lexeme_at strings at_start u).end + 2) u v
    → lexeme_at strings at_start v ≡ lexeme_at strings at_start u

-- The same as `LexemesLookAhead`, of the token with its length in bytes.
abbrev pub TokensLookAhead : Type 0
TokensLookAhead =
    (strings : Strings) (at_start : Bool) (u v : List ℕ)
    → Agrees ((lexeme_at strings at_start u).end + 2) u v
    → token_at strings at_start v ≡ token_at strings at_start u

-- The last token is a semicolon: `;`, or `\;` in psql.
abbrev pub EndsWithSemi : List Token → Type 0
EndsWithSemi [] = ⊥
EndsWithSemi (t ∷ []) = t.kind ≡ Semi
EndsWithSemi (t ∷ next ∷ ts) = EndsWithSemi (next ∷ ts)

-- Where the last token of a is a semicolon, the tokens of a and b together are those of a, then
-- those of b by itself, where a leading byte order mark is not white space.
abbrev pub StatementsStandAlone : Type 0
StatementsStandAlone =
    (strings : Strings) (at_start : Bool) (a b : List ℕ)
    → EndsWithSemi (tokens_from strings 0 at_start a)
    → tokens_from strings 0 at_start (a ++ b)
    ≡ tokens_from strings 0 at_start a ++ tokens_from strings 0 false b

-- ---- texts as bytes in UTF-8

-- Every text that begins with the bytes of the token t (`own`) and the two characters after it, as
-- `text` does, has t as its first token.
abbrev pub IsDecided : Strings → Bool → List ℕ → Token → Type 0
IsDecided strings at_start text t =
    (own two rest other : List ℕ) → text ≡ own ++ (two ++ rest) → length own ≡ t.len
    → IsUtf8 own → IsUtf8 two → 2 ≤ length (chars two)
    → token_at strings at_start (chars (own ++ (two ++ other))) ≡ t

-- The first token of every text is decided so.
abbrev pub TextsLookAhead : Type 0
TextsLookAhead = (strings : Strings) (at_start : Bool) (text : List ℕ)
    → IsDecided strings at_start text (token_at strings at_start (chars text))

-- The first token of a text has at least one byte, and ends on a character boundary.
abbrev pub TextsProgress : Type 0
TextsProgress =
    (strings : Strings) (at_start : Bool) (text : List ℕ) → IsUtf8 text → 1 ≤ length text
    → (1 ≤ (token_at strings at_start (chars text)).len)
    × IsCharBoundary text (token_at strings at_start (chars text)).len

-- The tokens of the text are t, then those of the rest by itself, where a leading byte order mark
-- is not white space.
abbrev pub IsFirstToken : Strings → Bool → List ℕ → Token → Type 0
IsFirstToken strings at_start text t =
    tokens_from strings 0 at_start (chars text)
    ≡ t ∷ tokens_from strings 0 false (chars (drop t.len text))

-- The tokens of a text are its first token, then those of the rest.
abbrev pub TextsRestart : Type 0
TextsRestart = (strings : Strings) (at_start : Bool) (text : List ℕ) → IsUtf8 text
    → 1 ≤ length text → IsFirstToken strings at_start text (token_at strings at_start (chars text))

-- The tokens of the text from offset `at` on are t, then those of the rest by itself. A byte order
-- mark is white space only at offset 0.
abbrev pub IsFirstTokenAt : Strings → List ℕ → ℕ → Token → Type 0
IsFirstTokenAt strings text at t =
    tokens_from strings 0 (at == 0) (chars (drop at text))
    ≡ t ∷ tokens_from strings 0 false (chars (drop (at + t.len) text))

-- Where n tokens end at offset `at`, the tokens after them are those of the text from `at` on by
-- itself, where a leading byte order mark is not white space.
abbrev pub RestartsAt : Strings → List ℕ → ℕ → Type 0
RestartsAt strings text at =
    (n : ℕ) → 1 ≤ n → at ≡ sum_by (λ (t : Token). t.len) (take n (tokens strings (chars text)))
    → drop n (tokens strings (chars text)) ≡ tokens_from strings 0 false (chars (drop at text))

-- Where the last token of the text before offset `at` is a semicolon, the tokens of the whole text
-- are those of that part, then those of the text from `at` on by itself, where a leading byte order
-- mark is not white space.
abbrev pub SplitsAt : Strings → List ℕ → ℕ → Type 0
SplitsAt strings text at =
    EndsWithSemi (tokens strings (chars (take at text)))
    → tokens strings (chars text)
    ≡ tokens strings (chars (take at text)) ++ tokens_from strings 0 false (chars (drop at text))
