-- Quoted texts in bytes: what the writers append.
use Rattle.std.proofs.Common.{◌≡◌, ℕ, zero, suc, Bool, true, false, List, [], ◌∷◌, ◌++◌, length, append_assoc, append-nil, refl, sym, ap, subst, ◌∙◌, eqb, cond, arith, IsUtf8}
use Rattle.std.proofs.lemmas.Str.{encodes-append, encode_ascii, encodes-chars, chars-nil, chars_from_encodes, IsUtf8-string_bytes}
use Rattle.std.proofs.Common.{Result, Ok, Err, IfOk, Some, String, Global}
use Rattle.std.specs.String.{string_bytes}
use Rattle.squawk_events.specs.declared.error.FrontError.{FrontError}
use Rattle.std.specs.Char.{encode_utf8}
use Rattle.std.specs.Str.{chars, encode_utf8_all}
use Rattle.squawk_quote.specs.Values.{escape_quotes, quoted_text, value_of, IsOneToken, letter_q, tag_then, delimiter_of, shortest_tag, dollar_quoted, dollar_constant}
use Rattle.squawk_lexer.specs.Classes.{dollar_sign}
use Rattle.squawk_lexer.specs.declared.token.TokenKind.{TokenKind}

pub chars_none : (bs : List ℕ) → length bs ≡ 0 → chars bs ≡ []
chars_none [] h = chars-nil
chars_none (b ∷ bs) h = absurd (omega arith)

escape_first : (q c : ℕ) (cs : List ℕ) → escape_quotes q (c ∷ cs)
    ≡ escape_quotes q (c ∷ []) ++ escape_quotes q cs
escape_first q c cs = by (eqb c q)
  where
    by : (b : Bool) → cond b (q ∷ q ∷ escape_quotes q cs) (c ∷ escape_quotes q cs)
        ≡ cond b (q ∷ q ∷ []) (c ∷ []) ++ escape_quotes q cs
    by true = refl
    by false = refl

-- one step of the loop over the characters of a value, and its end
pub put_more : (q c : ℕ) (cs new out whole : List ℕ)
    → new ≡ out ++ encode_utf8_all (escape_quotes q (c ∷ []))
    → out ++ encode_utf8_all (escape_quotes q (c ∷ cs)) ≡ whole
    → new ++ encode_utf8_all (escape_quotes q cs) ≡ whole
put_more q c cs new out whole e inv =
    ap (λ w. w ++ encode_utf8_all (escape_quotes q cs)) e
    ∙ append_assoc out (encode_utf8_all (escape_quotes q (c ∷ [])))
    (encode_utf8_all (escape_quotes q cs))
    ∙ ap (λ w. out ++ w) (sym (encodes-append (escape_quotes q (c ∷ [])) (escape_quotes q cs))
    ∙ ap encode_utf8_all (sym (escape_first q c cs)))
    ∙ inv

pub put_none : (q : ℕ) (rest out whole : List ℕ) → length rest ≡ 0
    → out ++ encode_utf8_all (escape_quotes q (chars rest)) ≡ whole → out ≡ whole
put_none q rest out whole h inv = sym (append-nil out)
    ∙ ap (λ w. out ++ encode_utf8_all (escape_quotes q w)) (sym (chars_none rest h)) ∙ inv

-- a quote, the escaped value and a quote are the quoted text
pub put_quoted : (q : ℕ) (cs none first mid new : List ℕ) → none ≡ []
    → first ≡ none ++ encode_utf8 q → mid ≡ first ++ encode_utf8_all (escape_quotes q cs)
    → new ≡ mid ++ encode_utf8 q
    → new ≡ encode_utf8_all (quoted_text q cs)
put_quoted q cs none first mid new n f m e =
    e
    ∙ ap (λ w. w ++ encode_utf8 q) (m ∙ ap (λ w. w ++ encode_utf8_all (escape_quotes q cs)) (f
    ∙ ap (λ w. w ++ encode_utf8 q) n))
    ∙ append_assoc (encode_utf8 q) (encode_utf8_all (escape_quotes q cs)) (encode_utf8 q)
    ∙ ap (λ w. encode_utf8 q ++ (encode_utf8_all (escape_quotes q cs) ++ w))
    (sym (append-nil (encode_utf8 q)))
    ∙ ap (λ w. encode_utf8 q ++ w) (sym (encodes-append (escape_quotes q cs) (q ∷ [])))

-- ---- from the text of a result to what holds of it

on_ok : {T E : Type 0} {P Q : T → Type 0} (r : Result T E) → ((x : T) → P x → Q x) → IfOk r P
    → IfOk r Q
on_ok (Ok x) f h = f x h
on_ok (Err e) f h = h

-- a result that is the UTF-8 of a text has the value of the text
pub on_value : (cs v : List ℕ) (r : Result (String Global) FrontError) → value_of cs ≡ Some v
    → IfOk r (λ out. string_bytes out ≡ encode_utf8_all cs)
    → IfOk r (λ out. value_of (chars (string_bytes out)) ≡ Some v)
on_value cs v r e h = on_ok r (λ out is.
    ap value_of (sym (chars_from_encodes cs (string_bytes out) (IsUtf8-string_bytes out) (sym is)))
    ∙ e) h

-- a result that is the UTF-8 of one token is one token
pub on_token : (kind : TokenKind) (cs : List ℕ) (r : Result (String Global) FrontError)
    → IsOneToken kind cs → IfOk r (λ out. string_bytes out ≡ encode_utf8_all cs)
    → IfOk r (λ out. IsOneToken kind (chars (string_bytes out)))
on_token kind cs r t h = on_ok r (λ out is.
    subst (IsOneToken kind) (chars_from_encodes cs (string_bytes out) (IsUtf8-string_bytes out)
    (sym is)) t) h

-- ---- dollar-quoted strings

tag_bytes : (n : ℕ) → encode_utf8_all (tag_then n (dollar_sign ∷ [])) ≡ tag_then n (dollar_sign ∷ [])
tag_bytes zero = append-nil (encode_utf8 dollar_sign) ∙ encode_ascii dollar_sign (omega arith)
tag_bytes (suc n) = ap (λ w. w ++ encode_utf8_all (tag_then n (dollar_sign ∷ [])))
    (encode_ascii letter_q (omega arith)) ∙ ap (λ w. letter_q ∷ w) (tag_bytes n)

-- a delimiter has the same bytes as characters
delimiter_of_bytes : (n : ℕ) → encode_utf8_all (delimiter_of n) ≡ delimiter_of n
delimiter_of_bytes n = ap (λ w. w ++ encode_utf8_all (tag_then n (dollar_sign ∷ [])))
    (encode_ascii dollar_sign (omega arith)) ∙ ap (λ w. dollar_sign ∷ w) (tag_bytes n)

-- a delimiter, the value and the delimiter are the dollar-quoted string
pub put_dollar : (value none first mid new : List ℕ) (n : ℕ) → IsUtf8 value
    → n ≡ shortest_tag (chars value) → none ≡ [] → first ≡ none ++ delimiter_of n
    → mid ≡ first ++ value → new ≡ mid ++ delimiter_of n
    → new ≡ encode_utf8_all (dollar_constant (chars value))
put_dollar value none first mid new n utf8 tag f1 f2 f3 f4 =
    let d = delimiter_of n in
    let v = chars value in
    f4 ∙ ap (λ w. w ++ d) (f3 ∙ ap (λ w. w ++ value) (f2 ∙ ap (λ w. w ++ d) f1))
    ∙ append_assoc d value d
    ∙ ap (λ w. w ++ (value ++ w)) (sym (delimiter_of_bytes n))
    ∙ ap (λ w. encode_utf8_all d ++ (w ++ encode_utf8_all d)) (sym (encodes-chars value utf8))
    ∙ ap (λ w. encode_utf8_all d ++ w) (sym (encodes-append v d))
    ∙ sym (encodes-append d (v ++ d))
    ∙ ap (λ m. encode_utf8_all (dollar_quoted m v)) tag
