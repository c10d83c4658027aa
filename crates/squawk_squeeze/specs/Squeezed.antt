-- The text in which one character stands for each run of trivia. Texts are lists of characters.
use Rattle.std.specs.Prelude.{◌≡◌, ℕ, zero, suc, ◌-◌, Bool, true, false, ◌||◌, List, [], ◌∷◌, ◌++◌, ◌==◌, take, drop, Option, Some, None, String, Result, IfOk, if◌then◌else◌}
use Rattle.std.specs.List.{list_any}
use Rattle.std.specs.Str.{chars, encode_utf8_all}
use Rattle.std.specs.String.{string_bytes}
use Rattle.std.specs.declared.alloc.Global.{Global}
use Rattle.squawk_events.specs.declared.error.FrontError.{FrontError}
use Rattle.squawk_lexed.specs.LexedText.{LexedText, lexed_text}
use Rattle.squawk_lexer.specs.declared.token.TokenKind.{TokenKind}
use Rattle.squawk_lexer.specs.declared.token.TokenKind.TheVariants.{Whitespace}
use Rattle.squawk_lexer.specs.declared.token.Strings.{Strings}
use Rattle.squawk_lexer.specs.Classes.{is_line_end, line_feed, space}
use Rattle.squawk_lexer.specs.Token.{lexeme_at}
use Rattle.squawk_lexer.specs.Cut.{is_trivia}
use Rattle.squawk_squeeze.specs.declared.text.Squeezer.{Squeezer}

-- ---- tokens with their texts

-- a token's kind and its text
pub record TextToken : Type 0 where
  pub kind : TokenKind
  pub text : List ℕ

abbrev pub text_token : TokenKind → List ℕ → TextToken
text_token kind text = record { kind = kind; text = text }

-- A token begins at each character that is not inside one; the first `inside` characters are.
-- `at_start` says that the whole text begins here.
abbrev pub text_tokens_from : Strings → ℕ → Bool → List ℕ → List TextToken
text_tokens_from strings inside at_start [] = []
text_tokens_from strings zero at_start (c ∷ cs) =
    text_token (lexeme_at strings at_start (c ∷ cs)).kind
    (take (lexeme_at strings at_start (c ∷ cs)).end (c ∷ cs))
    ∷ text_tokens_from strings ((lexeme_at strings at_start (c ∷ cs)).end - 1) false cs
text_tokens_from strings (suc inside) at_start (c ∷ cs) =
    text_tokens_from strings inside at_start cs

-- the tokens of a text, with their texts
abbrev pub text_tokens : Strings → List ℕ → List TextToken
text_tokens strings text = text_tokens_from strings 0 true text

-- the text of a list of tokens
abbrev pub text_of : List TextToken → List ℕ
text_of [] = []
text_of (t ∷ ts) = t.text ++ text_of ts

-- the tokens other than white space and comments
abbrev pub without_trivia : List TextToken → List TextToken
without_trivia [] = []
without_trivia (t ∷ ts) = if is_trivia t.kind then without_trivia ts else t ∷ without_trivia ts

-- ---- runs of trivia

-- the trivia directly before a token: none, or whether its text has a line end (LF or CR)
abbrev pub TriviaRun : Type 0
TriviaRun = Option Bool

-- the run after one more token of trivia, which has this text
abbrev pub extend_run : TriviaRun → List ℕ → TriviaRun
extend_run None text = Some (list_any is_line_end text)
extend_run (Some line_end) text = Some (line_end || list_any is_line_end text)

-- the character that a run becomes: LF if it has a line end, or else a space
abbrev pub separator : Bool → ℕ
separator line_end = if line_end then line_feed else space

abbrev pub separator_token : Bool → TextToken
separator_token line_end = text_token Whitespace (separator line_end ∷ [])

abbrev pub prepend_separator : TriviaRun → List TextToken → List TextToken
prepend_separator None ts = ts
prepend_separator (Some line_end) ts = separator_token line_end ∷ ts

-- each longest run of trivia becomes one token of one character; `run` precedes the tokens
abbrev pub squeeze_tokens : TriviaRun → List TextToken → List TextToken
squeeze_tokens run [] = prepend_separator run []
squeeze_tokens run (t ∷ ts) =
    if is_trivia t.kind then squeeze_tokens (extend_run run t.text) ts
    else prepend_separator run (t ∷ squeeze_tokens None ts)

-- the text in which one character stands for each longest run of trivia
abbrev pub squeezed_text : Strings → List ℕ → List ℕ
squeezed_text strings text = text_of (squeeze_tokens None (text_tokens strings text))

-- ---- what `squeeze` returns, in bytes

-- `out` is the squeezed text of `text`
abbrev pub IsSqueezed : Strings → List ℕ → List ℕ → Type 0
IsSqueezed strings text out = out ≡ encode_utf8_all (squeezed_text strings (chars text))

-- the tokens of `out`, trivia left out, have the kinds and texts of those of `text`
abbrev pub KeepsTokens : Strings → List ℕ → List ℕ → Type 0
KeepsTokens strings text out =
    without_trivia (text_tokens strings (chars out))
    ≡ without_trivia (text_tokens strings (chars text))

-- nothing is left to squeeze in `out`
abbrev pub IsUnchangedBySqueezing : Strings → List ℕ → Type 0
IsUnchangedBySqueezing strings out = squeezed_text strings (chars out) ≡ chars out

-- ---- what `squeeze_lexed` returns

-- If there is a result, its bytes have this property, for each reading of strings and each text
-- whose tokens these are.
abbrev pub OfItsText : LexedText → Result (String Global) FrontError
    → (Strings → List ℕ → List ℕ → Type 0) → Type 0
OfItsText lexed result Property =
    (strings : Strings) (text : List ℕ) → lexed ≡ lexed_text strings text
    → IfOk result (λ out. Property strings text (string_bytes out))

-- ---- for private functions

-- the tokens of a text from byte `at` on
abbrev pub text_tokens_at : Strings → List ℕ → ℕ → List TextToken
text_tokens_at strings text at = text_tokens_from strings 0 (at == 0) (chars (drop at text))

-- the bytes that a run becomes
abbrev pub separator_bytes : TriviaRun → List ℕ
separator_bytes None = []
separator_bytes (Some line_end) = separator line_end ∷ []

-- the output where these tokens follow those so far
abbrev pub output_with_rest : Squeezer → List TextToken → List ℕ
output_with_rest s ts = string_bytes s.out ++ encode_utf8_all (text_of (squeeze_tokens s.run ts))

-- a token that is trivia or not, with this text, joined those so far, whatever tokens follow
abbrev pub IsPushed : Bool → List ℕ → Squeezer → Squeezer → Type 0
IsPushed trivia text old new = (kind : TokenKind) (ts : List TextToken) → is_trivia kind ≡ trivia
    → output_with_rest new ts ≡ output_with_rest old (text_token kind text ∷ ts)
