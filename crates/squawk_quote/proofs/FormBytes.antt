-- The form of a text in bytes, by its first token.
use Rattle.std.proofs.Common.{◌≡◌, ℕ, ◌+◌, ◌<◌, ◌≤◌, false, List, [], ◌∷◌, length, length-drop, drop, None, refl, sym, ap, ◌∙◌, arith, IsUtf8}
use Rattle.std.proofs.Math.ListN.{drop_of_length-le}
use Rattle.std.proofs.lemmas.Str.{chars-nil, encodes-chars, IsUtf8-drop}
use Rattle.std.specs.Str.{chars, encode_utf8_all, IsCharBoundary}
use Rattle.squawk_lexer.specs.Cut.{tokens_from}
use Rattle.squawk_lexer.specs.LookAhead.{IsFirstTokenAt}
use Rattle.squawk_lexer.specs.declared.token.Strings.TheVariants.{Standard}
use Rattle.squawk_lexer.specs.declared.token.Token.{Token}
use Rattle.squawk_quote.specs.ValueForms.{value_form, form_of_tokens, form_of_text}
use Rattle.squawk_quote.proofs.QuoteBytes.{chars_none}

-- an empty text has no value
pub empty_has_no_form : (text : List ℕ) → length text ≡ 0 → None ≡ form_of_text (chars text)
empty_has_no_form text none = sym (ap form_of_text (chars_none text none))

-- a text with several tokens has no value
pub several_have_no_form : (text : List ℕ) (t : Token) → IsUtf8 text
    → IsFirstTokenAt Standard text 0 t → IsCharBoundary text (0 + t.len) → t.len < length text
    → None ≡ form_of_text (chars text)
several_have_no_form text t utf8 first boundary less =
    let rest = drop (0 + t.len) text in
    let len = length-drop (0 + t.len) text in
    sym (ap form_of_tokens first
    ∙ more (chars rest) (encodes-chars rest (IsUtf8-drop text (0 + t.len) utf8 boundary))
    (omega (arith, len, less)))
  where
    more : (cs : List ℕ) → encode_utf8_all cs ≡ drop (0 + t.len) text
        → 0 < length (drop (0 + t.len) text)
        → form_of_tokens (t ∷ tokens_from Standard 0 false cs) ≡ None
    more [] e h = absurd (let none : length (drop (0 + t.len) text) ≡ 0 =
        ap (λ (w : List ℕ). length w) (sym e) in omega (arith, none, h))
    more (c ∷ cs) e h = refl

-- a text that is one token has its form
pub one_has_its_form : (text : List ℕ) (t : Token) → IsFirstTokenAt Standard text 0 t
    → length text ≤ t.len → value_form t.kind ≡ form_of_text (chars text)
one_has_its_form text t first all =
    sym (ap form_of_tokens first
    ∙ ap (λ u. form_of_tokens (t ∷ tokens_from Standard 0 false (chars u)))
    (drop_of_length-le text (let more : length text ≤ 0 + t.len = omega (arith, all) in more))
    ∙ ap (λ cs. form_of_tokens (t ∷ tokens_from Standard 0 false cs)) chars-nil)
