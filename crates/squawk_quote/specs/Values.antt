-- The values of string constants, dollar-quoted strings and quoted identifiers, and the texts that
-- spell a value. Texts and values are lists of characters.
use Rattle.std.specs.Prelude.{⊤, ◌≡◌, ℕ, zero, suc, ◌+◌, ◌-◌, Bool, true, false, ◌&&◌, ◌||◌, ◌==◌, List, [], ◌∷◌, ◌++◌, take, drop, length, Option, Some, None, option_map, if◌then◌else◌}
use Rattle.std.specs.Str.{chars, encode_utf8_all}
use Rattle.squawk_lexer.specs.declared.token.Token.{Token}
use Rattle.squawk_lexer.specs.declared.token.TokenKind.{TokenKind}
use Rattle.squawk_lexer.specs.declared.token.TokenKind.TheVariants.{Literal, QuotedIdent}
use Rattle.squawk_lexer.specs.declared.token.LiteralKind.TheVariants.{Str, DollarQuotedString}
use Rattle.squawk_lexer.specs.declared.token.Strings.TheVariants.{Standard}
use Rattle.squawk_lexer.specs.Text.{utf8_len}
use Rattle.squawk_lexer.specs.Classes.{apostrophe, quotation_mark, dollar_sign}
use Rattle.squawk_lexer.specs.Dollar.{find_end, tag_end}
use Rattle.squawk_lexer.specs.Cut.{tokens}

-- ---- the value of a text

-- the text with each pair of quotes q replaced by one
abbrev pub unescape_quotes : ℕ → List ℕ → List ℕ
unescape_quotes q [] = []
unescape_quotes q (c ∷ []) = c ∷ []
unescape_quotes q (c ∷ d ∷ cs) =
    if c == q && d == q then q ∷ unescape_quotes q cs else c ∷ unescape_quotes q (d ∷ cs)

-- the text without n characters at each end
abbrev pub strip_ends : ℕ → List ℕ → List ℕ
strip_ends n text = take (length text - (n + n)) (drop n text)

-- the value of a text that is one token of the kind
abbrev pub value_of_kind : TokenKind → List ℕ → Option (List ℕ)
value_of_kind (Literal (Str true)) text = Some (unescape_quotes apostrophe (strip_ends 1 text))
value_of_kind (QuotedIdent true false) text =
    Some (unescape_quotes quotation_mark (strip_ends 1 text))
value_of_kind (Literal (DollarQuotedString true)) text = Some (strip_ends (tag_end text + 1) text)
value_of_kind _ text = None

-- the value of a text whose tokens are these
abbrev pub value_of_tokens : List Token → List ℕ → Option (List ℕ)
value_of_tokens (t ∷ []) text = value_of_kind t.kind text
value_of_tokens _ text = None

-- The value of a text. Only a text that is one terminated token has one: a plain string constant, a
-- dollar-quoted string, or a quoted identifier without Unicode escapes.
abbrev pub value_of : List ℕ → Option (List ℕ)
value_of text = value_of_tokens (tokens Standard text) text

-- the text is one token of the kind
abbrev pub IsOneToken : TokenKind → List ℕ → Type 0
IsOneToken kind text = tokens Standard text ≡ record { kind = kind; len = utf8_len text } ∷ []

-- the value of a text of these bytes, in bytes
abbrev pub value_bytes : List ℕ → Option (List ℕ)
value_bytes text = option_map encode_utf8_all (value_of (chars text))

-- ---- string constants and quoted identifiers

-- the text with each quote q doubled
abbrev pub escape_quotes : ℕ → List ℕ → List ℕ
escape_quotes q [] = []
escape_quotes q (c ∷ cs) = if c == q then q ∷ q ∷ escape_quotes q cs else c ∷ escape_quotes q cs

-- the value between two quotes q
abbrev pub quoted_text : ℕ → List ℕ → List ℕ
quoted_text q value = q ∷ (escape_quotes q value ++ q ∷ [])

-- the string constant that has the value
abbrev pub string_constant : List ℕ → List ℕ
string_constant value = quoted_text apostrophe value

-- the quoted identifier that has the value
abbrev pub quoted_identifier : List ℕ → List ℕ
quoted_identifier value = quoted_text quotation_mark value

-- ---- what `quote_string` and `quote_ident` return, in bytes

abbrev pub string_constant_bytes : List ℕ → List ℕ
string_constant_bytes value = encode_utf8_all (string_constant (chars value))

abbrev pub quoted_identifier_bytes : List ℕ → List ℕ
quoted_identifier_bytes value = encode_utf8_all (quoted_identifier (chars value))

-- `out` is one terminated string constant
abbrev pub IsStringConstant : List ℕ → Type 0
IsStringConstant out = IsOneToken (Literal (Str true)) (chars out)

-- `out` is one terminated quoted identifier, without Unicode escapes
abbrev pub IsQuotedIdentifier : List ℕ → Type 0
IsQuotedIdentifier out = IsOneToken (QuotedIdent true false) (chars out)

-- `out` has the value
abbrev pub HasValue : List ℕ → List ℕ → Type 0
HasValue value out = value_of (chars out) ≡ Some (chars value)

-- a text that is a string constant, or a quoted identifier, is the one that has its value
pub record IsOnlySpelling (text value : List ℕ) : Type 0 where
  pub string : IsStringConstant text → text ≡ string_constant_bytes value
  pub identifier : IsQuotedIdentifier text → text ≡ quoted_identifier_bytes value

-- the same, if the text has a value
abbrev pub IsSpelledOnce : List ℕ → Option (List ℕ) → Type 0
IsSpelledOnce text None = ⊤
IsSpelledOnce text (Some value) = IsOnlySpelling text value

-- ---- dollar-quoted strings

abbrev pub letter_q : ℕ
letter_q = 113

-- a tag of n letters `q`, and then the rest
abbrev pub tag_then : ℕ → List ℕ → List ℕ
tag_then zero rest = rest
tag_then (suc n) rest = letter_q ∷ tag_then n rest

-- the delimiter with a tag of n letters `q`
abbrev pub delimiter_of : ℕ → List ℕ
delimiter_of n = dollar_sign ∷ tag_then n (dollar_sign ∷ [])

-- whether an end was found, and is n
abbrev pub is_found_at : Option ℕ → ℕ → Bool
is_found_at None n = false
is_found_at (Some m) n = m == n

-- whether the delimiter occurs first at the end of the value, when it is put there
abbrev pub delimiter_fits : List ℕ → ℕ → Bool
delimiter_fits value n =
    is_found_at (find_end (delimiter_of n) (value ++ delimiter_of n))
    (length value + length (delimiter_of n))

-- the first tag from n on that fits, or n + `tries` if none before it does
abbrev pub first_fitting_tag : List ℕ → ℕ → ℕ → ℕ
first_fitting_tag value n zero = n
first_fitting_tag value n (suc tries) =
    if delimiter_fits value n then n else first_fitting_tag value (n + 1) tries

-- the length of the shortest tag that fits; a tag longer than the value always does
abbrev pub shortest_tag : List ℕ → ℕ
shortest_tag value = first_fitting_tag value 0 (length value + 1)

-- the value between two delimiters
abbrev pub dollar_quoted : ℕ → List ℕ → List ℕ
dollar_quoted n value = delimiter_of n ++ (value ++ delimiter_of n)

-- the dollar-quoted string that has the value
abbrev pub dollar_constant : List ℕ → List ℕ
dollar_constant value = dollar_quoted (shortest_tag value) value

-- ---- what `quote_dollar` returns, in bytes

abbrev pub dollar_constant_bytes : List ℕ → List ℕ
dollar_constant_bytes value = encode_utf8_all (dollar_constant (chars value))

-- `out` is one terminated dollar-quoted string
abbrev pub IsDollarConstant : List ℕ → Type 0
IsDollarConstant out = IsOneToken (Literal (DollarQuotedString true)) (chars out)

-- ---- which delimiters fit, found in one pass over the value

-- the letters that may be those of a tag: none, or how many `q` there are since a `$`
abbrev pub TagRun : Type 0
TagRun = Option ℕ

-- the run after one more character
abbrev pub extend_tag_run : TagRun → ℕ → TagRun
extend_tag_run None c = if c == dollar_sign then Some 0 else None
extend_tag_run (Some n) c =
    if c == dollar_sign then Some 0 else if c == letter_q then Some (n + 1) else None

-- whether the run is a tag of n letters
abbrev pub is_run_of : ℕ → TagRun → Bool
is_run_of n None = false
is_run_of n (Some m) = n == m

-- whether a tag of n letters stands between two `$` of the value, or after a `$` at its end
abbrev pub has_tag : ℕ → TagRun → List ℕ → Bool
has_tag n run [] = is_run_of n run
has_tag n run (c ∷ cs) =
    (c == dollar_sign && is_run_of n run) || has_tag n (extend_tag_run run c) cs
