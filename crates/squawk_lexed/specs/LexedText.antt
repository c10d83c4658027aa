-- A text with its tokens, as a parser reads them.
use Rattle.std.specs.Prelude.{⊤, ℕ, ◌+◌, ◌&&◌, Bool, true, nat_lt, IsTrue, List, [], ◌∷◌, take, slice_range}
use Rattle.std.specs.Str.{chars, IsCharBoundary}
use Rattle.squawk_lexer.specs.declared.token.Token.{Token}
use Rattle.squawk_lexer.specs.declared.token.Strings.{Strings}
use Rattle.squawk_lexer.specs.Cut.{tokens}
use Rattle.squawk_lexer.specs.Flags.{AreCut}
use Rattle.squawk_lexed.specs.LexedToken.{LexedToken}
use Rattle.squawk_lexed.specs.Leaf.{leaf_kind}
use Rattle.squawk_lexed.specs.Faults.{faults, faults_within}

-- tokens of a text, the first of which begins at this byte, with their leaf kinds and faults
abbrev pub lexed_tokens : List ℕ → ℕ → List Token → List LexedToken
lexed_tokens text at [] = []
lexed_tokens text at (t ∷ ts) =
    record {
      kind = leaf_kind t.kind (slice_range text at (at + t.len));
      len = t.len;
      faults = faults t;
    } ∷ lexed_tokens text (at + t.len) ts

-- a text, as bytes, and its tokens
pub record LexedText : Type 0 where
  pub text : List ℕ
  pub tokens : List LexedToken

-- a text with the tokens that the lexer cuts, under a reading of its plain strings
abbrev pub lexed_text : Strings → List ℕ → LexedText
lexed_text strings text = record {
  text = text;
  tokens = lexed_tokens text 0 (tokens strings (chars text));
}

-- the number of bytes of these tokens
abbrev pub total_len : List LexedToken → ℕ
total_len [] = 0
total_len (t ∷ ts) = t.len + total_len ts

-- the byte offset at which the token at index i starts
abbrev pub token_start : List LexedToken → ℕ → ℕ
token_start ts i = total_len (take i ts)

-- the text of the token at index i
abbrev pub token_text : LexedText → ℕ → List ℕ
token_text l i = slice_range l.text (token_start l.tokens i) (token_start l.tokens (i + 1))

-- whether each token has at least one byte, and its faults lie in it
abbrev pub are_sound : List LexedToken → Bool
are_sound [] = true
are_sound (t ∷ ts) = nat_lt 0 t.len && (faults_within t.len t.faults && are_sound ts)

-- the number of bytes of tokens that the lexer cut
abbrev pub tokens_len : List Token → ℕ
tokens_len [] = 0
tokens_len (t ∷ ts) = t.len + tokens_len ts

-- each of these tokens, the first of which begins at this byte of the text, ends at a character
-- boundary, and so none of them extends past the end
abbrev pub EndAtBoundaries : List ℕ → ℕ → List Token → Type 0
EndAtBoundaries text at [] = ⊤
EndAtBoundaries text at (t ∷ ts) = IsCharBoundary text (at + t.len)
    × EndAtBoundaries text (at + t.len) ts

-- the slice of a text that these tokens cover, the first of which begins at this byte, with the
-- tokens
abbrev pub lexed_part : List ℕ → ℕ → List Token → LexedText
lexed_part text at ts = record {
  text = slice_range text at (at + tokens_len ts);
  tokens = lexed_tokens text at ts;
}

-- tokens that the lexer cut are sound, wherever they stand in whatever text
abbrev pub CutTokensAreSound : Type 0
CutTokensAreSound = (text : List ℕ) (at : ℕ) (ts : List Token) → AreCut ts
    → IsTrue (are_sound (lexed_tokens text at ts))
