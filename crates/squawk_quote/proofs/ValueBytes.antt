-- The bytes of texts that have a value.
use Rattle.std.proofs.Common.{◌≡◌, ℕ, suc, ◌+◌, ◌-◌, ◌<◌, ◌≤◌, List, [], ◌∷◌, ◌++◌, length, length-append, get_or, take, drop, append_assoc, append-nil, ◌≢◌, Some, None, option_map, unwrap_or, refl, sym, ap, subst, ◌∙◌, arith, IsUtf8}
use Rattle.std.proofs.lemmas.Str.{encodes-append, encode_ascii, encodes-chars, chars_from_encodes, IsCharBoundary-before_ascii, IsCharBoundary-after_ascii}
use Rattle.std.proofs.lemmas.Str.Pattern.{NoCharPasses-char}
use Rattle.std.proofs.Math.Seq.{take-append_seam, drop-append_seam, get_or-append_seam}
use Rattle.std.specs.Char.{encode_utf8}
use Rattle.std.specs.List.{slice_range}
use Rattle.std.specs.Str.{chars, encode_utf8_all, IsCharBoundary}
use Rattle.squawk_lexer.specs.Classes.{apostrophe, quotation_mark, dollar_sign}
use Rattle.squawk_lexer.specs.Laws.{TokensProgress, TokensWithin}
use Rattle.squawk_lexer.specs.Dollar.{delimiter}
use Rattle.squawk_quote.specs.ValueForms.{form_of_tokens, form_of_text, value_by, IsQuoted, IsDollarQuoted, delimiter_bytes, between_delimiters}
use Rattle.squawk_quote.specs.declared.values.ValueForm.{ValueForm}
use Rattle.squawk_quote.specs.declared.values.ValueForm.TheVariants as form
use Rattle.squawk_quote.specs.Values.{escape_quotes, quoted_text, unescape_quotes, strip_ends, value_bytes, IsOnlySpelling}
use Rattle.squawk_quote.proofs.DollarForms.{between_is_value}
use Rattle.squawk_quote.proofs.FormLaws.{value_by_form}
use Rattle.squawk_quote.proofs.TextForms.{string_is_quoted, ident_is_quoted}
use Rattle.squawk_quote.proofs.QuotedLaws.{strip_quoted}

-- ---- a text in three parts

-- the middle of a text
pub middle : {A : Type 0} (xs ys zs : List A)
    → slice_range (xs ++ (ys ++ zs)) (length xs) (length (xs ++ (ys ++ zs)) - length zs) ≡ ys
middle xs ys zs =
    let all = length-append xs (ys ++ zs) in
    let rest = length-append ys zs in
    ap (take (length (xs ++ (ys ++ zs)) - length zs - length xs)) (drop-append_seam xs (ys ++ zs))
    ∙ ap (λ n. take n (ys ++ zs))
    (let e : length (xs ++ (ys ++ zs)) - length zs - length xs ≡ length ys = omega (arith, all, rest)
    in e)
    ∙ take-append_seam ys zs

-- ---- a value between quotes

-- a quote, the bytes between the quotes, and a quote
pub record QuotedBytes (q : ℕ) (text : List ℕ) : Type 0 where
  pub inner : List ℕ
  pub inner_is : inner ≡ encode_utf8_all (strip_ends 1 (chars text))
  pub is : text ≡ (q ∷ []) ++ (inner ++ q ∷ [])

pub quoted_bytes : (q : ℕ) (text : List ℕ) → q < 128 → IsUtf8 text → IsQuoted q (chars text)
    → QuotedBytes q text
quoted_bytes q text ascii utf8 quoted =
    let w = escape_quotes q (unescape_quotes q (strip_ends 1 (chars text))) in
    let one : encode_utf8_all (q ∷ []) ≡ q ∷ [] =
    append-nil (encode_utf8 q) ∙ encode_ascii q ascii in
    record {
      inner = encode_utf8_all w;
      inner_is = ap encode_utf8_all (sym (ap (strip_ends 1) quoted ∙ strip_quoted q w));
      is = sym (encodes-chars text utf8) ∙ ap encode_utf8_all quoted
          ∙ ap (λ b. b ++ encode_utf8_all (w ++ q ∷ [])) (encode_ascii q ascii)
          ∙ ap (λ b. (q ∷ []) ++ b) (encodes-append w (q ∷ [])
          ∙ ap (λ b. encode_utf8_all w ++ b) one);
    }

-- what the code needs of it
pub record QuotedSlice (q : ℕ) (text : List ℕ) : Type 0 where
  pub two : 2 ≤ length text
  pub start : IsCharBoundary text 1
  pub end : IsCharBoundary text (length text - 1)
  pub inner_is : slice_range text 1 (length text - 1)
      ≡ encode_utf8_all (strip_ends 1 (chars text))

quoted_slice_of : (q : ℕ) (text inner : List ℕ) → q < 128 → IsUtf8 text
    → text ≡ (q ∷ []) ++ (inner ++ q ∷ [])
    → inner ≡ encode_utf8_all (strip_ends 1 (chars text)) → QuotedSlice q text
quoted_slice_of q text inner ascii utf8 is inner_is =
    let len : length text ≡ length inner + 2 =
    omega (arith, ap (λ (w : List ℕ). length w) is, length-append inner (q ∷ [])) in
    let first : get_or text 0 0 ≡ q = ap (λ w. get_or w 0 0) is in
    let last : get_or text (length text - 1) 0 ≡ q =
    ap (λ n. get_or text n 0) (let e : length text - 1 ≡ suc (length inner) = omega (arith, len) in
    e) ∙ ap (λ w. get_or w (suc (length inner)) 0) is ∙ get_or-append_seam inner q [] 0 in
    record {
      two = omega (arith, len);
      start = IsCharBoundary-after_ascii text 0 utf8 (omega (arith, len)) (omega (arith, first));
      end = IsCharBoundary-before_ascii text (length text - 1) (omega (arith, len))
          (omega (arith, last));
      inner_is = ap (λ w. slice_range w 1 (length w - 1)) is ∙ middle (q ∷ []) inner (q ∷ [])
          ∙ inner_is;
    }

pub quoted_slice : (q : ℕ) (text : List ℕ) → q < 128 → IsUtf8 text → IsQuoted q (chars text)
    → QuotedSlice q text
quoted_slice q text ascii utf8 quoted =
    let b = quoted_bytes q text ascii utf8 quoted in
    quoted_slice_of q text b.inner ascii utf8 b.is b.inner_is

-- the value, from the bytes between the quotes
pub quoted_value_is : (q : ℕ) (text inner : List ℕ) → IsUtf8 inner
    → inner ≡ encode_utf8_all (strip_ends 1 (chars text))
    → encode_utf8_all (unescape_quotes q (chars inner))
    ≡ encode_utf8_all (unescape_quotes q (strip_ends 1 (chars text)))
quoted_value_is q text inner utf8 is =
    ap (λ w. encode_utf8_all (unescape_quotes q w))
    (sym (chars_from_encodes (strip_ends 1 (chars text)) inner utf8 (sym is)))

-- ---- a value between delimiters

-- the delimiter in bytes
delimiter_is : (u : List ℕ) (d : IsDollarQuoted u)
    → encode_utf8_all (delimiter u)
    ≡ dollar_sign ∷ (encode_utf8_all d.tag ++ dollar_sign ∷ [])
delimiter_is u d =
    let dollar : encode_utf8 dollar_sign ≡ dollar_sign ∷ [] =
    encode_ascii dollar_sign (omega arith) in
    let one : encode_utf8_all (dollar_sign ∷ []) ≡ dollar_sign ∷ [] =
    append-nil (encode_utf8 dollar_sign) ∙ dollar in
    ap encode_utf8_all d.delimiter_is
    ∙ ap (λ b. b ++ encode_utf8_all (d.tag ++ dollar_sign ∷ [])) dollar
    ∙ ap (λ b. dollar_sign ∷ b) (encodes-append d.tag (dollar_sign ∷ [])
    ∙ ap (λ b. encode_utf8_all d.tag ++ b) one)

dollar_bytes : (text : List ℕ) → IsUtf8 text → (d : IsDollarQuoted (chars text))
    → text ≡ encode_utf8_all (delimiter (chars text))
    ++ (encode_utf8_all d.value ++ encode_utf8_all (delimiter (chars text)))
dollar_bytes text utf8 d =
    let e = delimiter (chars text) in
    sym (encodes-chars text utf8) ∙ ap encode_utf8_all d.is ∙ encodes-append e (d.value ++ e)
    ∙ ap (λ b. encode_utf8_all e ++ b) (encodes-append d.value e)

-- what the code needs to find the delimiter
pub record DelimiterSplit (text : List ℕ) : Type 0 where
  pub start : IsCharBoundary text 1
  pub tag : List ℕ
  pub rest : List ℕ
  pub is : drop 1 text ≡ tag ++ dollar_sign ∷ rest
  pub without_dollar : (i : ℕ) → i < length tag → get_or tag i 0 ≢ dollar_sign
  pub len_is : length tag + 2 ≡ delimiter_bytes (chars text)

-- what it needs to find the value
pub record DollarSlice (text : List ℕ) (n : ℕ) : Type 0 where
  pub start : IsCharBoundary text n
  pub end : IsCharBoundary text (length text - n)
  pub ordered : n ≤ length text - n
  pub value_is : slice_range text n (length text - n)
      ≡ encode_utf8_all (between_delimiters (chars text))

delimiter_split_of : (text tag value : List ℕ) (n : ℕ) → IsUtf8 text
    → text ≡ (dollar_sign ∷ (tag ++ dollar_sign ∷ []))
    ++ (value ++ (dollar_sign ∷ (tag ++ dollar_sign ∷ [])))
    → ((i : ℕ) → i < length tag → get_or tag i 0 ≢ dollar_sign)
    → n ≡ length (dollar_sign ∷ (tag ++ dollar_sign ∷ [])) → n ≡ delimiter_bytes (chars text)
    → DelimiterSplit text
delimiter_split_of text tag value n utf8 is clean n_is bytes =
    let last = dollar_sign ∷ (tag ++ dollar_sign ∷ []) in
    let some : 0 < length text = omega (arith, ap (λ (w : List ℕ). length w) is) in
    let first : get_or text 0 0 ≡ dollar_sign = ap (λ w. get_or w 0 0) is in
    record {
      start = IsCharBoundary-after_ascii text 0 utf8 some (omega (arith, first));
      tag = tag;
      rest = value ++ last;
      is = ap (drop 1) is ∙ append_assoc tag (dollar_sign ∷ []) (value ++ last);
      without_dollar = clean;
      len_is = let sum : length tag + 2 ≡ n =
          omega (arith, n_is, length-append tag (dollar_sign ∷ [])) in sum ∙ bytes;
    }

-- no byte of the tag is a `$`
tag_bytes : (u : List ℕ) (d : IsDollarQuoted u) (i : ℕ) → i < length (encode_utf8_all d.tag)
    → get_or (encode_utf8_all d.tag) i 0 ≢ dollar_sign
tag_bytes u d i h = NoCharPasses-char dollar_sign (encode_utf8_all d.tag) i
    (d.tag, refl, d.without_dollar) (omega arith) h

pub delimiter_split : (text : List ℕ) → IsUtf8 text → IsDollarQuoted (chars text)
    → DelimiterSplit text
delimiter_split text utf8 d =
    let u = chars text in
    let bytes = delimiter_is u d in
    delimiter_split_of text (encode_utf8_all d.tag) (encode_utf8_all d.value) (delimiter_bytes u)
    utf8 (dollar_bytes text utf8 d
    ∙ ap (λ b. b ++ (encode_utf8_all d.value ++ b)) bytes) (tag_bytes u d) (ap length bytes) refl

dollar_slice_of : (text tag value : List ℕ) (n : ℕ) → IsUtf8 text
    → text ≡ (dollar_sign ∷ (tag ++ dollar_sign ∷ []))
    ++ (value ++ (dollar_sign ∷ (tag ++ dollar_sign ∷ [])))
    → n ≡ length (dollar_sign ∷ (tag ++ dollar_sign ∷ []))
    → value ≡ encode_utf8_all (between_delimiters (chars text)) → DollarSlice text n
dollar_slice_of text tag value n utf8 is n_is value_is =
    let d = dollar_sign ∷ (tag ++ dollar_sign ∷ []) in
    let tag_len = length-append tag (dollar_sign ∷ []) in
    let value_len = length-append value d in
    let all = length-append d (value ++ d) in
    let whole : length text ≡ length (d ++ (value ++ d)) = ap length is in
    let len : length text ≡ n + length value + n =
    omega (arith, whole, all, value_len, n_is) in
    let some : n ≡ length tag + 2 = omega (arith, n_is, tag_len) in
    let before : get_or text (n - 1) 0 ≡ dollar_sign =
    ap (λ m. get_or text m 0) (let e : n - 1 ≡ length (dollar_sign ∷ tag) = omega (arith, some) in e)
    ∙ ap (λ w. get_or w (length (dollar_sign ∷ tag)) 0) (is
    ∙ append_assoc (dollar_sign ∷ tag) (dollar_sign ∷ []) (value ++ d))
    ∙ get_or-append_seam (dollar_sign ∷ tag) dollar_sign (value ++ d) 0 in
    let last : get_or text (length text - n) 0 ≡ dollar_sign =
    ap (λ m. get_or text m 0) (let e : length text - n ≡ length (d ++ value) =
    omega (arith, len, n_is, length-append d value) in e)
    ∙ ap (λ w. get_or w (length (d ++ value)) 0) (is ∙ sym (append_assoc d value d))
    ∙ get_or-append_seam (d ++ value) dollar_sign (tag ++ dollar_sign ∷ []) 0 in
    let start : IsCharBoundary text n =
    subst (IsCharBoundary text) (let e : n - 1 + 1 ≡ n = omega (arith, some) in e)
    (IsCharBoundary-after_ascii text (n - 1) utf8 (omega (arith, len, some)) (omega (arith, before)))
    in
    let end : IsCharBoundary text (length text - n) =
    IsCharBoundary-before_ascii text (length text - n) (omega (arith, len, some))
    (omega (arith, last)) in
    record {
      start = start;
      end = end;
      ordered = omega (arith, len);
      value_is = ap (λ m. slice_range text m (length text - m)) n_is
          ∙ ap (λ w. slice_range w (length d) (length w - length d)) is ∙ middle d value d
          ∙ value_is;
    }

pub dollar_slice : (text : List ℕ) (n : ℕ) → IsUtf8 text → IsDollarQuoted (chars text)
    → n ≡ delimiter_bytes (chars text) → DollarSlice text n
dollar_slice text n utf8 d n_is =
    let u = chars text in
    let bytes = delimiter_is u d in
    dollar_slice_of text (encode_utf8_all d.tag) (encode_utf8_all d.value) n utf8
    (dollar_bytes text utf8 d ∙ ap (λ b. b ++ (encode_utf8_all d.value ++ b)) bytes)
    (n_is ∙ ap length bytes) (ap encode_utf8_all (sym (between_is_value u d)))

-- ---- the value of a text by its form

pub none_found : (text : List ℕ) → form_of_text (chars text) ≡ None → None ≡ value_bytes text
none_found text is = sym (ap (option_map encode_utf8_all) (value_by_form (chars text)
    ∙ ap (λ f. value_by f (chars text)) is))

pub found : (f : ValueForm) (text bytes value : List ℕ) → form_of_text (chars text) ≡ Some f
    → value_by (Some f) (chars text) ≡ Some value → bytes ≡ encode_utf8_all value
    → Some bytes ≡ value_bytes text
found f text bytes value is value_is bytes_are =
    ap Some bytes_are ∙ sym (ap (option_map encode_utf8_all) (value_by_form (chars text)
    ∙ ap (λ g. value_by g (chars text)) is ∙ value_is))

-- a text with this form is the quoted text of its value
spelled : (q : ℕ) (f : ValueForm) (text bytes : List ℕ) → IsUtf8 text → IsUtf8 bytes
    → form_of_text (chars text) ≡ Some f
    → value_by (Some f) (chars text) ≡ Some (unescape_quotes q (strip_ends 1 (chars text)))
    → IsQuoted q (chars text) → Some bytes ≡ value_bytes text
    → text ≡ encode_utf8_all (quoted_text q (chars bytes))
spelled q f text bytes utf8 bytes_utf8 is value_is quoted e =
    let w = unescape_quotes q (strip_ends 1 (chars text)) in
    let bytes_are : bytes ≡ encode_utf8_all w =
    ap (λ o. unwrap_or o bytes) (e ∙ sym (found f text (encode_utf8_all w) w is value_is refl)) in
    sym (encodes-chars text utf8) ∙ ap encode_utf8_all quoted
    ∙ ap (λ v. encode_utf8_all (quoted_text q v)) (chars_from_encodes w bytes bytes_utf8
    (sym bytes_are))

pub spelled_once : TokensProgress → TokensWithin → (text bytes : List ℕ) → IsUtf8 text
    → IsUtf8 bytes → Some bytes ≡ value_bytes text → IsOnlySpelling text bytes
spelled_once progress within text bytes utf8 bytes_utf8 e = record {
  string = λ one.
      let is : form_of_text (chars text) ≡ Some form.String = ap form_of_tokens one in
      spelled apostrophe form.String text bytes utf8 bytes_utf8 is refl
      (string_is_quoted progress within (chars text) is) e;
  identifier = λ one.
      let is : form_of_text (chars text) ≡ Some form.QuotedIdent = ap form_of_tokens one in
      spelled quotation_mark form.QuotedIdent text bytes utf8 bytes_utf8 is refl
      (ident_is_quoted progress within (chars text) is) e;
}
