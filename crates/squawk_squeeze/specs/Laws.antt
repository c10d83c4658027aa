-- Laws of the definitions of squeezing, in the words of the subject.
use Rattle.std.specs.Prelude.{◌≡◌, ◌<◌, ◌≤◌, ℕ, Bool, true, false, ◌&&◌, List, [], ◌∷◌, ◌++◌, length, None}
use Rattle.std.specs.List.{list_any}
use Rattle.squawk_lexer.specs.declared.token.Token.{Token}
use Rattle.squawk_lexer.specs.declared.token.Strings.{Strings}
use Rattle.squawk_lexer.specs.Classes.{is_line_end}
use Rattle.squawk_lexer.specs.Cut.{is_trivia, tokens}
use Rattle.squawk_lexer.specs.Text.{utf8_len}
use Rattle.squawk_squeeze.specs.Squeezed.{TextToken, text_tokens, text_of, without_trivia, squeeze_tokens, squeezed_text, separator_token}

-- the tokens as the lexer returns them: kinds, and lengths in bytes
abbrev pub lengths_of : List TextToken → List Token
lengths_of [] = []
lengths_of (t ∷ ts) = record { kind = t.kind; len = utf8_len t.text } ∷ lengths_of ts

-- the tokens with their texts are the tokens of the lexer
abbrev pub AreLexerTokens : Type 0
AreLexerTokens = (strings : Strings) (text : List ℕ)
    → lengths_of (text_tokens strings text) ≡ tokens strings text

-- no character is lost between them
abbrev pub TextsAddUp : Type 0
TextsAddUp = (strings : Strings) (text : List ℕ) → text_of (text_tokens strings text) ≡ text

-- whether all the tokens are trivia
abbrev pub are_trivia : List TextToken → Bool
are_trivia [] = true
are_trivia (t ∷ ts) = is_trivia t.kind && are_trivia ts

-- whether the first token is trivia
abbrev pub begins_with_trivia : List TextToken → Bool
begins_with_trivia [] = false
begins_with_trivia (t ∷ ts) = is_trivia t.kind

-- a run of trivia that none precedes or follows becomes one character: LF if its text has a line
-- end, or else a space
abbrev pub RunsBecomeOneCharacter : Type 0
RunsBecomeOneCharacter =
    (run rest : List TextToken) → 0 < length run → are_trivia run ≡ true
    → begins_with_trivia rest ≡ false
    → squeeze_tokens None (run ++ rest)
    ≡ separator_token (list_any is_line_end (text_of run)) ∷ squeeze_tokens None rest

-- any other token is kept as it is
abbrev pub OtherTokensAreKept : Type 0
OtherTokensAreKept = (t : TextToken) (rest : List TextToken) → is_trivia t.kind ≡ false
    → squeeze_tokens None (t ∷ rest) ≡ t ∷ squeeze_tokens None rest

-- the squeezed text has the tokens of the text, with their kinds and texts, but for trivia
abbrev pub SqueezingKeepsTokens : Type 0
SqueezingKeepsTokens = (strings : Strings) (text : List ℕ)
    → without_trivia (text_tokens strings (squeezed_text strings text))
    ≡ without_trivia (text_tokens strings text)

-- squeezing twice is squeezing once
abbrev pub SqueezingTwiceIsOnce : Type 0
SqueezingTwiceIsOnce = (strings : Strings) (text : List ℕ)
    → squeezed_text strings (squeezed_text strings text) ≡ squeezed_text strings text

-- the squeezed text has no more bytes than the text
abbrev pub SqueezedIsNoLonger : Type 0
SqueezedIsNoLonger = (strings : Strings) (text : List ℕ)
    → utf8_len (squeezed_text strings text) ≤ utf8_len text
