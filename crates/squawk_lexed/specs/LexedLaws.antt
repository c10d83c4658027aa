-- What each token of a lexed text is.
use Rattle.std.specs.Prelude.{◌≡◌, ℕ, ◌+◌, ◌<◌, ◌==◌, List, length, drop, slice_index}
use Rattle.std.specs.Str.{chars, IsUtf8, IsCharBoundary}
use Rattle.squawk_lexer.specs.declared.token.Token.{Token}
use Rattle.squawk_lexer.specs.declared.token.Strings.{Strings}
use Rattle.squawk_lexer.specs.Token.{token_at}
use Rattle.squawk_lexed.specs.Faults.{faults}
use Rattle.squawk_lexed.specs.Leaf.{leaf_kind}
use Rattle.squawk_lexed.specs.LexedText.{LexedText, lexed_text, token_start, token_text}
use Rattle.squawk_lexed.specs.Stored.{kinds_of, faults_at}

-- the token that the lexer cuts at this byte of a text
abbrev pub token_cut_at : Strings → List ℕ → ℕ → Token
token_cut_at strings text at = token_at strings (at == 0) (chars (drop at text))

-- a token is the one at index i: it begins at a character boundary, its leaf has the kind of its
-- text, it ends where the token at the next index begins, and its faults are found there
pub record IsTokenAt (l : LexedText) (i : ℕ) (t : Token) : Type 0 where
  pub boundary : IsCharBoundary l.text (token_start l.tokens i)
  pub kind : slice_index (kinds_of l.tokens) i ≡ leaf_kind t.kind (token_text l i)
  pub end : token_start l.tokens (i + 1) ≡ token_start l.tokens i + t.len
  pub faults_are : faults_at l.tokens i ≡ faults t

-- each token of a text is the one that the lexer cuts where it starts
abbrev pub TokensAreCutAtTheirStarts : Type 0
TokensAreCutAtTheirStarts =
    (strings : Strings) (text : List ℕ) (i : ℕ) → IsUtf8 text
    → i < length (lexed_text strings text).tokens
    → IsTokenAt (lexed_text strings text) i
    (token_cut_at strings text (token_start (lexed_text strings text).tokens i))
