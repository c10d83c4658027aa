-- A gap is the white space and the comments between two tokens. Which gap follows a token does not
-- change the token.
use Rattle.std.specs.Prelude.{◌≡◌, ℕ, ◌+◌, Bool, true, false, ◌&&◌, ◌||◌, ◌==◌, List, ◌∷◌, ◌++◌, take, drop, slice_index, ◌⊎◌}
use Rattle.squawk_lexer.specs.declared.token.Strings.{Strings}
use Rattle.squawk_lexer.specs.Classes.{is_whitespace, is_line_end, line_feed, space, minus, slash, asterisk}
use Rattle.squawk_lexer.specs.Token.{lexeme_at}
use Rattle.squawk_lexer.specs.Cut.{is_trivia}

-- Whether the text begins with white space, `--` or `/*`.
abbrev pub begins_gap : List ℕ → Bool
begins_gap u =
    is_whitespace (slice_index u 0)
    || ((slice_index u 0 == minus && slice_index u 1 == minus)
    || (slice_index u 0 == slash && slice_index u 1 == asterisk))

-- A text begins with a gap exactly where its first token is trivia. A leading byte order mark is
-- left aside.
abbrev pub GapsAreSeen : Type 0
GapsAreSeen = (strings : Strings) (u : List ℕ)
    → is_trivia (lexeme_at strings false u).kind ≡ begins_gap u

-- A space or LF, the characters that may replace a gap.
abbrev pub IsGap : ℕ → Type 0
IsGap g = (g ≡ space) ⊎ (g ≡ line_feed)

-- Where the gap at index i begins with LF or CR, g is LF.
abbrev pub KeepsLineEnd : ℕ → List ℕ → ℕ → Type 0
KeepsLineEnd g u i = is_line_end (slice_index u i) ≡ true → g ≡ line_feed

-- A token that is not trivia and that a gap follows stays the same where a space or LF, and any text
-- after that, replaces the gap. Where the gap begins with LF or CR, only LF may replace it.
abbrev pub TokensStay : Type 0
TokensStay =
    (strings : Strings) (at_start : Bool) (u : List ℕ) (g : ℕ) (rest : List ℕ)
    → is_trivia (lexeme_at strings at_start u).kind ≡ false
    → begins_gap (drop (lexeme_at strings at_start u).end u) ≡ true
    → IsGap g → KeepsLineEnd g u (lexeme_at strings at_start u).end
    → lexeme_at strings at_start (take (lexeme_at strings at_start u).end u ++ g ∷ rest)
    ≡ lexeme_at strings at_start u

-- A token stays the same where the gap that is replaced begins one character after its end.
abbrev pub TokensStayBefore : Type 0
TokensStayBefore =
    (strings : Strings) (at_start : Bool) (u : List ℕ) (g : ℕ) (rest : List ℕ)
    → begins_gap (drop ((lexeme_at strings at_start u).end + 1) u) ≡ true → IsGap g
    → lexeme_at strings at_start (take ((lexeme_at strings at_start u).end + 1) u ++ g ∷ rest)
    ≡ lexeme_at strings at_start u
