-- Laws of the values and of the texts that spell them.
use Rattle.std.specs.Prelude.{◌≡◌, ◌<◌, ℕ, true, false, not, List, ◌∷◌, length, Some, None}
use Rattle.squawk_lexer.specs.declared.token.TokenKind.TheVariants.{Literal, QuotedIdent}
use Rattle.squawk_lexer.specs.declared.token.LiteralKind.TheVariants.{Str, DollarQuotedString}
use Rattle.squawk_lexer.specs.Quoted.{quoted_len}
use Rattle.squawk_quote.specs.Values.{escape_quotes, unescape_quotes, strip_ends, quoted_text, value_of, IsOneToken, string_constant, quoted_identifier, dollar_constant, delimiter_fits, shortest_tag, has_tag}

-- doubling the quotes of a value loses nothing
abbrev pub EscapesAreUndone : Type 0
EscapesAreUndone = (q : ℕ) (value : List ℕ) → unescape_quotes q (escape_quotes q value) ≡ value

-- a text that begins with a quote q, and whose last character closes it, is the quoted text of what
-- it spells: each value has one such spelling
abbrev pub SpellingIsUnique : Type 0
SpellingIsUnique = (q : ℕ) (rest : List ℕ) → quoted_len false q rest ≡ Some (length rest)
    → quoted_text q (unescape_quotes q (strip_ends 1 (q ∷ rest))) ≡ q ∷ rest

-- the string constant of a value is one terminated token
abbrev pub StringConstantsAreTokens : Type 0
StringConstantsAreTokens =
    (value : List ℕ) → IsOneToken (Literal (Str true)) (string_constant value)

-- it is read back as the value, whatever apostrophes and backslashes are in it
abbrev pub StringConstantsHaveTheirValue : Type 0
StringConstantsHaveTheirValue = (value : List ℕ) → value_of (string_constant value) ≡ Some value

-- the quoted identifier of a value is one terminated token, without Unicode escapes
abbrev pub QuotedIdentifiersAreTokens : Type 0
QuotedIdentifiersAreTokens =
    (value : List ℕ) → IsOneToken (QuotedIdent true false) (quoted_identifier value)

-- it is read back as the value, whatever quotation marks are in it
abbrev pub QuotedIdentifiersHaveTheirValue : Type 0
QuotedIdentifiersHaveTheirValue =
    (value : List ℕ) → value_of (quoted_identifier value) ≡ Some value

-- the dollar-quoted string of a value is one terminated token
abbrev pub DollarConstantsAreTokens : Type 0
DollarConstantsAreTokens =
    (value : List ℕ) → IsOneToken (Literal (DollarQuotedString true)) (dollar_constant value)

-- it is read back as the value, whatever `$` and tags are in it
abbrev pub DollarConstantsHaveTheirValue : Type 0
DollarConstantsHaveTheirValue = (value : List ℕ) → value_of (dollar_constant value) ≡ Some value

-- a delimiter with the shortest tag fits, so that the value always has a dollar-quoted string
abbrev pub ShortestTagFits : Type 0
ShortestTagFits = (value : List ℕ) → delimiter_fits value (shortest_tag value) ≡ true

-- no shorter tag fits
abbrev pub ShorterTagsFail : Type 0
ShorterTagsFail =
    (value : List ℕ) (n : ℕ) → n < shortest_tag value → delimiter_fits value n ≡ false

-- a delimiter fits exactly if its tag stands neither between two `$` of the value nor after a `$`
-- at its end
abbrev pub FitsUnlessTagOccurs : Type 0
FitsUnlessTagOccurs =
    (value : List ℕ) (n : ℕ) → delimiter_fits value n ≡ not (has_tag n None value)
