-- A token of a text that is read at an offset.
use Rattle.std.specs.Prelude.{◌≡◌, ℕ, ◌+◌, ◌^◌, ◌<◌, ◌≤◌, ◌==◌, false, List, ◌∷◌, length, drop}
use Rattle.std.specs.Str.{IsCharBoundary}
use Rattle.squawk_lexed.specs.LexedText.{LexedText, lexed_text, total_len}
use Rattle.squawk_lexed.specs.LexedToken.{LexedToken}
use Rattle.squawk_lexer.specs.declared.token.Strings.{Strings}
use Rattle.squawk_split.specs.Pieces.{tokens_of}
use Rattle.squawk_split.specs.declared.reader.KindAndEnd.{KindAndEnd}

-- a text, and how its plain strings are read
pub record TextReading : Type 0 where
  pub text : List ℕ
  pub strings : Strings

-- the list has the tokens of the text, and an index into it lies within
pub record IsListed (strings : Strings) (text : List ℕ) (index : ℕ) (lexed : LexedText)
    : Type 0 where
  pub lexed_is : lexed ≡ lexed_text strings text
  pub whole : total_len lexed.tokens ≡ length text
  pub few : length lexed.tokens < 2 ^ 64
  pub within : index ≤ length lexed.tokens

-- the first token of the text from an offset on has this kind and ends there, and the others are
-- those of the rest
pub record IsTokenReadAt (strings : Strings) (text : List ℕ) (at : ℕ) (token : KindAndEnd)
    : Type 0 where
  pub first : LexedToken
  pub kind_is : token.kind ≡ first.kind
  pub end_is : token.end ≡ at + first.len
  pub tokens : tokens_of strings (at == 0) (drop at text)
      ≡ first ∷ tokens_of strings false (drop token.end text)
  pub progress : at < token.end
  pub ends_between : IsCharBoundary text token.end
