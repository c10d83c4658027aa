-- The forms of texts that have a value. For private functions.
use Rattle.std.specs.Prelude.{◌≡◌, ℕ, ◌+◌, ◌==◌, Bool, true, false, List, [], ◌∷◌, ◌++◌, length, Option, Some, None, if◌then◌else◌}
use Rattle.std.specs.Str.{NonePass, encode_utf8_all}
use Rattle.squawk_lexer.specs.declared.token.LiteralKind.TheVariants.{Str, DollarQuotedString}
use Rattle.squawk_lexer.specs.declared.token.Strings.TheVariants.{Standard}
use Rattle.squawk_lexer.specs.declared.token.Token.{Token}
use Rattle.squawk_lexer.specs.declared.token.TokenKind.{TokenKind}
use Rattle.squawk_lexer.specs.declared.token.TokenKind.TheVariants as kinds
use Rattle.squawk_lexer.specs.Classes.{apostrophe, quotation_mark, dollar_sign}
use Rattle.squawk_lexer.specs.Cut.{tokens}
use Rattle.squawk_lexer.specs.Dollar.{tag_end, delimiter}
use Rattle.squawk_quote.specs.Values.{quoted_text, strip_ends, unescape_quotes}
use Rattle.squawk_quote.specs.declared.values.ValueForm.{ValueForm}
use Rattle.squawk_quote.specs.declared.values.ValueForm.TheVariants as form

-- the form of a terminated token of this kind, if it has a value
abbrev pub value_form : TokenKind → Option ValueForm
value_form (kinds.Literal (Str true)) = Some form.String
value_form (kinds.QuotedIdent true false) = Some form.QuotedIdent
value_form (kinds.Literal (DollarQuotedString true)) = Some form.Dollar
value_form _ = None

abbrev pub form_of_tokens : List Token → Option ValueForm
form_of_tokens (t ∷ []) = value_form t.kind
form_of_tokens _ = None

-- the form of a text that is one token with a value
abbrev pub form_of_text : List ℕ → Option ValueForm
form_of_text text = form_of_tokens (tokens Standard text)

-- the text between the delimiters of a dollar-quoted string
abbrev pub between_delimiters : List ℕ → List ℕ
between_delimiters text = strip_ends (tag_end text + 1) text

-- the value of a text of this form
abbrev pub value_by : Option ValueForm → List ℕ → Option (List ℕ)
value_by None text = None
value_by (Some form.String) text = Some (unescape_quotes apostrophe (strip_ends 1 text))
value_by (Some form.QuotedIdent) text = Some (unescape_quotes quotation_mark (strip_ends 1 text))
value_by (Some form.Dollar) text = Some (between_delimiters text)

-- the text is a value between two quotes q, in which each q is doubled
abbrev pub IsQuoted : ℕ → List ℕ → Type 0
IsQuoted q text = text ≡ quoted_text q (unescape_quotes q (strip_ends 1 text))

-- the text is a value between two delimiters, each `$`, a tag without `$`, and `$`
pub record IsDollarQuoted (text : List ℕ) : Type 0 where
  pub tag : List ℕ
  pub value : List ℕ
  pub without_dollar : NonePass (λ c. c == dollar_sign) tag
  pub delimiter_is : delimiter text ≡ dollar_sign ∷ (tag ++ dollar_sign ∷ [])
  pub len_is : tag_end text + 1 ≡ length (delimiter text)
  pub is : text ≡ delimiter text ++ (value ++ delimiter text)

-- the number of bytes of the delimiter of a dollar-quoted string
abbrev pub delimiter_bytes : List ℕ → ℕ
delimiter_bytes text = length (encode_utf8_all (delimiter text))

-- ---- quotes undone character by character

-- what a text becomes after a quote that may be the first of a pair
abbrev pub unescape_after_quote : ℕ → List ℕ → List ℕ
unescape_after_quote q [] = []
unescape_after_quote q (c ∷ cs) =
    if c == q then unescape_quotes q cs else unescape_quotes q (c ∷ cs)

-- the same, where the flag says whether there is such a quote
abbrev pub unescape_rest : (after_quote : Bool) → ℕ → List ℕ → List ℕ
unescape_rest true q text = unescape_after_quote q text
unescape_rest false q text = unescape_quotes q text

-- The output was `old` before the character c and is `new` after it. Whatever follows c, the output
-- with the rest stays the same.
abbrev pub KeepsOutput : (q c : ℕ) → (after_quote next : Bool) → (old new : List ℕ) → Type 0
KeepsOutput q c after_quote next old new = (cs : List ℕ)
    → new ++ encode_utf8_all (unescape_rest next q cs)
    ≡ old ++ encode_utf8_all (unescape_rest after_quote q (c ∷ cs))
