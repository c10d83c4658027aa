-- A quoted text is one token, and has the value that was quoted.
use Rattle.std.proofs.Common.{◌≡◌, ℕ, zero, suc, ◌+◌, ◌-◌, ◌≤◌, Bool, true, false, List, [], ◌∷◌, ◌++◌, length, take, Some, option_map, length-append, refl, ap, ◌∙◌, eqb, cond, arith}
use Rattle.std.proofs.lemmas.Bool.Decides.{nat_tests}
use Rattle.std.proofs.Math.Seq.{take-append_seam, take-length}
use Rattle.squawk_lexer.specs.declared.token.TokenKind.TheVariants as kinds
use Rattle.squawk_lexer.specs.declared.token.LiteralKind.TheVariants.{Str}
use Rattle.squawk_lexer.specs.declared.token.Strings.{Strings}
use Rattle.squawk_lexer.specs.declared.token.Strings.TheVariants.{Standard}
use Rattle.squawk_lexer.specs.Kind.{Lexeme, lexeme_until, literal_until}
use Rattle.squawk_lexer.specs.Classes.{apostrophe, quotation_mark}
use Rattle.squawk_lexer.specs.Quoted.{quoted_len}
use Rattle.squawk_lexer.specs.Text.{utf8_len}
use Rattle.squawk_lexer.specs.Token.{token_form, lexeme_at, token_at}
use Rattle.squawk_lexer.specs.Cut.{tokens_from, tokens}
use Rattle.squawk_quote.specs.Values.{escape_quotes, string_constant, quoted_identifier, unescape_quotes, strip_ends, value_of_kind, value_of_tokens, value_of, IsOneToken}

-- ---- escaping is undone

pub unescape_escape : (q : ℕ) (v : List ℕ) → unescape_quotes q (escape_quotes q v) ≡ v
unescape_escape q [] = refl
unescape_escape q (c ∷ cs) = by (eqb c q) refl (unescape_escape q cs)
  where
    plain : (w : List ℕ) → eqb c q ≡ false → unescape_quotes q (c ∷ w) ≡ c ∷ unescape_quotes q w
    plain [] t = refl
    plain (d ∷ ds) t = rw t refl

    same : eqb q q ≡ true
    same = grind (arith, nat_tests)

    by : (b : Bool) → eqb c q ≡ b → unescape_quotes q (escape_quotes q cs) ≡ cs
        → unescape_quotes q (cond b (q ∷ q ∷ escape_quotes q cs) (c ∷ escape_quotes q cs)) ≡ c ∷ cs
    by true t e =
        let is : q ≡ c = grind (arith, nat_tests) in
        rw same (ap (λ w. q ∷ w) e ∙ ap (λ d. d ∷ cs) is)
    by false t e = plain (escape_quotes q cs) t ∙ ap (λ w. c ∷ w) e

-- ---- the quoted text ends at its last character

plain_len : (q c : ℕ) (w : List ℕ) → eqb c q ≡ false → 1 ≤ length w
    → quoted_len false q (c ∷ w) ≡ option_map (λ n. n + 1) (quoted_len false q w)
plain_len q c [] t h = absurd (omega arith)
plain_len q c (d ∷ ds) t h = rw t refl

pub escaped_len : (q : ℕ) (v : List ℕ) → quoted_len false q (escape_quotes q v ++ q ∷ [])
    ≡ Some (length (escape_quotes q v) + 1)
escaped_len q [] = let same : eqb q q ≡ true = grind (arith, nat_tests) in rw same refl
escaped_len q (c ∷ cs) = by (eqb c q) refl (escaped_len q cs)
  where
    w : List ℕ
    w = escape_quotes q cs

    by : (b : Bool) → eqb c q ≡ b → quoted_len false q (w ++ q ∷ []) ≡ Some (length w + 1)
        → quoted_len false q (cond b (q ∷ q ∷ w) (c ∷ w) ++ q ∷ [])
        ≡ Some (length (cond b (q ∷ q ∷ w) (c ∷ w)) + 1)
    by true t e =
        let same : eqb q q ≡ true = grind (arith, nat_tests) in
        let sum : length w + 1 + 2 ≡ length (q ∷ q ∷ w) + 1 = omega arith in
        rw (same, e) (ap Some sum)
    by false t e =
        let sum : length w + 1 + 1 ≡ length (c ∷ w) + 1 = omega arith in
        plain_len q c (w ++ q ∷ []) t (omega (arith, length-append w (q ∷ []))) ∙ rw e (ap Some sum)

-- ---- one token

-- a text that is one lexeme is one token
pub one_token : (strings : Strings) (c : ℕ) (cs : List ℕ)
    → (lexeme_at strings true (c ∷ cs)).end ≡ length (c ∷ cs)
    → tokens strings (c ∷ cs) ≡ token_at strings true (c ∷ cs) ∷ []
one_token strings c cs e = ap (λ ts. token_at strings true (c ∷ cs) ∷ ts) (ap (λ n.
    tokens_from strings (n - 1) false cs) e ∙ all (length (c ∷ cs) - 1) cs (omega arith))
  where
    all : (n : ℕ) (w : List ℕ) → length w ≤ n → tokens_from strings n false w ≡ []
    all n [] h = refl
    all zero (d ∷ ds) h = absurd (omega arith)
    all (suc n) (d ∷ ds) h = all n ds (omega arith)

-- the text between the quotes
pub strip_quoted : (q : ℕ) (w : List ℕ) → strip_ends 1 (q ∷ (w ++ q ∷ [])) ≡ w
strip_quoted q w =
    let len : length (q ∷ (w ++ q ∷ [])) - (1 + 1) ≡ length w =
    omega (arith, length-append w (q ∷ [])) in
    ap (λ n. take n (w ++ q ∷ [])) len ∙ take-append_seam w (q ∷ [])

-- a string constant, and a quoted identifier, is one terminated lexeme
pub string_lexeme : (v : List ℕ) → lexeme_at Standard true (string_constant v)
    ≡ literal_until (Str true) (length (string_constant v))
unfolding token_form
string_lexeme v =
    rw (escaped_len apostrophe v) (ap (literal_until (Str true))
    (let e : 1 + (length (escape_quotes apostrophe v) + 1) ≡ length (string_constant v) =
    omega (arith, length-append (escape_quotes apostrophe v) (apostrophe ∷ [])) in e))

pub ident_lexeme : (v : List ℕ) → lexeme_at Standard true (quoted_identifier v)
    ≡ lexeme_until (kinds.QuotedIdent true false) (length (quoted_identifier v))
unfolding token_form
ident_lexeme v =
    rw (escaped_len quotation_mark v) (ap (lexeme_until (kinds.QuotedIdent true false))
    (let e : 1 + (length (escape_quotes quotation_mark v) + 1) ≡ length (quoted_identifier v) =
    omega (arith, length-append (escape_quotes quotation_mark v) (quotation_mark ∷ [])) in e))

-- its value is the one that was quoted
pub string_value : (v : List ℕ) → value_of (string_constant v) ≡ Some v
string_value v =
    ap (λ ts. value_of_tokens ts (string_constant v))
    (one_token Standard apostrophe (escape_quotes apostrophe v ++ apostrophe ∷ [])
    (ap (λ (x : Lexeme). x.end) (string_lexeme v)))
    ∙ ap (λ (x : Lexeme). value_of_kind x.kind (string_constant v)) (string_lexeme v)
    ∙ ap (λ w. Some (unescape_quotes apostrophe w))
    (strip_quoted apostrophe (escape_quotes apostrophe v))
    ∙ ap Some (unescape_escape apostrophe v)

pub ident_value : (v : List ℕ) → value_of (quoted_identifier v) ≡ Some v
ident_value v =
    ap (λ ts. value_of_tokens ts (quoted_identifier v))
    (one_token Standard quotation_mark (escape_quotes quotation_mark v ++ quotation_mark ∷ [])
    (ap (λ (x : Lexeme). x.end) (ident_lexeme v)))
    ∙ ap (λ (x : Lexeme). value_of_kind x.kind (quoted_identifier v)) (ident_lexeme v)
    ∙ ap (λ w. Some (unescape_quotes quotation_mark w))
    (strip_quoted quotation_mark (escape_quotes quotation_mark v))
    ∙ ap Some (unescape_escape quotation_mark v)

-- a text that is one lexeme is one token of its kind
pub token_is : (c : ℕ) (cs : List ℕ) (x : Lexeme) → lexeme_at Standard true (c ∷ cs) ≡ x
    → x.end ≡ length (c ∷ cs) → IsOneToken x.kind (c ∷ cs)
token_is c cs x e len =
    one_token Standard c cs (ap (λ (y : Lexeme). y.end) e ∙ len)
    ∙ ap (λ (y : Lexeme). record { kind = y.kind; len = utf8_len (take y.end (c ∷ cs)) } ∷ []) e
    ∙ ap (λ n. record { kind = x.kind; len = utf8_len (take n (c ∷ cs)) } ∷ []) len
    ∙ ap (λ w. record { kind = x.kind; len = utf8_len w } ∷ []) (take-length (c ∷ cs))

pub string_token : (v : List ℕ) → IsOneToken (kinds.Literal (Str true)) (string_constant v)
string_token v =
    token_is apostrophe (escape_quotes apostrophe v ++ apostrophe ∷ [])
    (literal_until (Str true) (length (string_constant v))) (string_lexeme v) refl

pub ident_token : (v : List ℕ) → IsOneToken (kinds.QuotedIdent true false) (quoted_identifier v)
ident_token v =
    token_is quotation_mark (escape_quotes quotation_mark v ++ quotation_mark ∷ [])
    (lexeme_until (kinds.QuotedIdent true false) (length (quoted_identifier v)))
    (ident_lexeme v) refl
