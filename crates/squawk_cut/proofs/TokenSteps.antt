-- The tokens of a text that a front cuts one after the other.
use Rattle.std.proofs.Common.{◌≡◌, ℕ, ◌+◌, ◌<◌, ◌==◌, Bool, false, List, [], ◌∷◌, ◌++◌, length, length-drop, drop, append_assoc, sym, ap, subst, ◌∙◌, arith}
use Rattle.std.proofs.lemmas.Bool.Decides.{nat_tests}
use Rattle.std.proofs.lemmas.List.{drop-drop}
use Rattle.std.proofs.lemmas.Str.{IsUtf8-drop, IsCharBoundary-from_rest}
use Rattle.std.specs.Str.{IsUtf8, IsCharBoundary}
use Rattle.squawk_cut.specs.Tells.{Tells, IsLawful}
use Rattle.squawk_cut.specs.Tokens.{tokens_from}
use Rattle.squawk_lexer.specs.declared.token.Token.{Token}
use Rattle.squawk_cut.proofs.PlainTokens.{first_token}

-- one more token
pub record IsTokenStep (t : Tells) (text : List ℕ) (from len : ℕ) (more all : List Token)
    : Type 0 where
  pub some : 0 < len
  pub boundary : IsCharBoundary text (from + len)
  pub so_far : more ++ tokens_from t 0 (from + len == 0) (drop (from + len) text) ≡ all

-- the tokens of a text that is not empty
first_of : (t : Tells) → IsLawful t → (start : Bool) (u : List ℕ) → IsUtf8 u → 0 < length u
    → tokens_from t 0 start u
    ≡ t.token_at start u ∷ tokens_from t 0 false (drop (t.token_at start u).len u)
first_of t law start [] utf8 some = absurd (omega arith)
first_of t law start (b ∷ bs) utf8 some =
    first_token t start b bs (law.some start (b ∷ bs) utf8 some)

pub token_step : (t now : Tells) → IsLawful t → now ≡ t → (text : List ℕ) (from : ℕ) (x : Token)
    (tokens more all : List Token) → IsUtf8 text → IsCharBoundary text from → from < length text
    → x ≡ now.token_at (from == 0) (drop from text) → more ≡ tokens ++ x ∷ []
    → tokens ++ tokens_from t 0 (from == 0) (drop from text) ≡ all
    → IsTokenStep t text from x.len more all
token_step t now law same text from x tokens more all utf8 boundary inside token push so_far =
    let u = drop from text in
    let own : x ≡ t.token_at (from == 0) u =
    token ∙ ap (λ (s : Tells). s.token_at (from == 0) u) same in
    let utf8_u : IsUtf8 u = IsUtf8-drop text from utf8 boundary in
    let filled : 0 < length u = omega (arith, length-drop from text) in
    let some : 0 < x.len =
    subst (λ (y : Token). 0 < y.len) (sym own) (law.some (from == 0) u utf8_u filled) in
    let end : IsCharBoundary u x.len =
    subst (λ (y : Token). IsCharBoundary u y.len) (sym own)
    (law.within (from == 0) u utf8_u filled) in
    let past : (from + x.len == 0) ≡ false = grind (arith, nat_tests) in
    let rest : tokens_from t 0 (from == 0) u
    ≡ x ∷ tokens_from t 0 (from + x.len == 0) (drop (from + x.len) text) =
    first_of t law (from == 0) u utf8_u filled
    ∙ ap (λ (y : Token). y ∷ tokens_from t 0 false (drop y.len u)) (sym own)
    ∙ ap (λ v. x ∷ tokens_from t 0 false v) (drop-drop x.len from text)
    ∙ ap (λ b. x ∷ tokens_from t 0 b (drop (from + x.len) text)) (sym past) in
    record {
      some = some;
      boundary = IsCharBoundary-from_rest text from x.len boundary.0 end;
      so_far = ap (λ ts. ts ++ tokens_from t 0 (from + x.len == 0) (drop (from + x.len) text)) push
          ∙ append_assoc tokens (x ∷ [])
          (tokens_from t 0 (from + x.len == 0) (drop (from + x.len) text))
          ∙ ap (λ ts. tokens ++ ts) (sym rest) ∙ so_far;
    }
