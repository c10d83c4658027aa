-- The tokens that a plain front tells are the lexer's, and end at character boundaries.
use Rattle.std.proofs.Common.{◌≡◌, ℕ, zero, suc, ◌+◌, ◌-◌, ◌<◌, ◌≤◌, Bool, false, List, [], ◌∷◌, length, length-drop, drop, refl, sym, ap, subst, ◌∙◌, arith}
use Rattle.std.proofs.lemmas.List.{drop-drop}
use Rattle.std.proofs.lemmas.Str.{chars-nil, IsUtf8-drop, IsCharBoundary-from_rest}
use Rattle.std.specs.Str.{chars, IsUtf8, IsCharBoundary}
use Rattle.squawk_cut.specs.PlainTells.{plain_tells}
use Rattle.squawk_cut.specs.Tells.{Tells}
use Rattle.squawk_cut.specs.Tokens.{tokens_from}
use Rattle.squawk_lexed.specs.LexedText.{EndAtBoundaries}
use Rattle.squawk_lexer.specs.Cut.{tokens_from as lexer_tokens_from}
use Rattle.squawk_lexer.specs.Flags.{AreCut}
use Rattle.squawk_lexer.specs.LookAhead.{TextsProgress, TextsRestart}
use Rattle.squawk_lexer.specs.Token.{lexeme_at, token_at}
use Rattle.squawk_lexer.specs.declared.token.Strings.{Strings}
use Rattle.squawk_statements.specs.declared.division.Division.{Division}

-- the tokens after one that began before are those of the rest
tokens_inside : (t : Tells) (n : ℕ) (u : List ℕ)
    → tokens_from t n false u ≡ tokens_from t 0 false (drop n u)
tokens_inside t zero u = refl
tokens_inside t (suc n) [] = refl
tokens_inside t (suc n) (c ∷ cs) = tokens_inside t n cs

-- the rest after a token, by its first byte
drop_end : (n c : ℕ) (cs : List ℕ) → 0 < n → drop (n - 1) cs ≡ drop n (c ∷ cs)
drop_end zero c cs h = absurd (omega arith)
drop_end (suc n) c cs h = ap (λ m. drop m cs) (omega arith)

-- the tokens of a text are its first token and those of the rest
pub first_token : (t : Tells) (start : Bool) (b : ℕ) (bs : List ℕ)
    → 0 < (t.token_at start (b ∷ bs)).len
    → tokens_from t 0 start (b ∷ bs) ≡ t.token_at start (b ∷ bs)
    ∷ tokens_from t 0 false (drop (t.token_at start (b ∷ bs)).len (b ∷ bs))
first_token t start b bs some =
    let len = (t.token_at start (b ∷ bs)).len in
    ap (λ ts. t.token_at start (b ∷ bs) ∷ ts) (tokens_inside t (len - 1) bs
    ∙ ap (tokens_from t 0 false) (drop_end len b bs some))

-- the tokens are the lexer's: of texts of at most n bytes, and of every text
same_tokens : TextsProgress → TextsRestart → (n : ℕ) (strings : Strings) (division : Division)
    (start : Bool) (u : List ℕ) → IsUtf8 u → length u ≤ n
    → tokens_from (plain_tells strings division) 0 start u
    ≡ lexer_tokens_from strings 0 start (chars u)
same_tokens progress restart n strings division start [] utf8 h =
    sym (ap (lexer_tokens_from strings 0 start) chars-nil)
same_tokens progress restart zero strings division start (b ∷ bs) utf8 h = absurd (omega arith)
same_tokens progress restart (suc n) strings division start (b ∷ bs) utf8 h =
    let u = b ∷ bs in
    let t = token_at strings start (chars u) in
    let lawful = progress strings start u utf8 (omega arith) in
    let some : 1 ≤ t.len = lawful.0 in
    let less : length (drop t.len u) ≤ n = omega (arith, length-drop t.len u) in
    first_token (plain_tells strings division) start b bs some
    ∙ ap (λ ts. t ∷ ts) (same_tokens progress restart n strings division false (drop t.len u)
    (IsUtf8-drop u t.len utf8 lawful.1) less)
    ∙ sym (restart strings start u utf8 (omega arith))

pub plain_tokens : TextsProgress → TextsRestart → (strings : Strings) (division : Division)
    (start : Bool) (u : List ℕ) → IsUtf8 u
    → tokens_from (plain_tells strings division) 0 start u
    ≡ lexer_tokens_from strings 0 start (chars u)
plain_tokens progress restart strings division start u utf8 =
    same_tokens progress restart (length u) strings division start u utf8 (omega arith)

-- each token of the lexer is the first one of some text
lexer_tokens_cut : (strings : Strings) (inside : ℕ) (start : Bool) (u : List ℕ)
    → AreCut (lexer_tokens_from strings inside start u)
lexer_tokens_cut strings inside start [] = tt
lexer_tokens_cut strings zero start (c ∷ cs) = (
  record {
    strings = strings;
    at_start = start;
    text = c ∷ cs;
    some = omega arith;
    same = refl;
  },
  lexer_tokens_cut strings ((lexeme_at strings start (c ∷ cs)).end - 1) false cs,
)
lexer_tokens_cut strings (suc inside) start (c ∷ cs) = lexer_tokens_cut strings inside start cs

-- and so is each token that a plain front tells
pub tokens_cut : TextsProgress → TextsRestart → (strings : Strings) (division : Division)
    (start : Bool) (u : List ℕ) → IsUtf8 u
    → AreCut (tokens_from (plain_tells strings division) 0 start u)
tokens_cut progress restart strings division start u utf8 =
    subst AreCut (sym (plain_tokens progress restart strings division start u utf8))
    (lexer_tokens_cut strings 0 start (chars u))

-- the tokens end at character boundaries: of texts with at most n bytes left, and of every text
laid_from : TextsProgress → (n : ℕ) (strings : Strings) (division : Division) (start : Bool)
    (text : List ℕ) (at : ℕ) (u : List ℕ) → drop at text ≡ u → at ≤ length text → IsUtf8 u
    → length u ≤ n
    → EndAtBoundaries text at (tokens_from (plain_tells strings division) 0 start u)
laid_from progress n strings division start text at [] is within utf8 h = tt
laid_from progress zero strings division start text at (b ∷ bs) is within utf8 h =
    absurd (omega arith)
laid_from progress (suc n) strings division start text at (b ∷ bs) is within utf8 h =
    let u = b ∷ bs in
    let t = token_at strings start (chars u) in
    let lawful = progress strings start u utf8 (omega arith) in
    let some : 1 ≤ t.len = lawful.0 in
    let less : length (drop t.len u) ≤ n = omega (arith, length-drop t.len u) in
    let end : IsCharBoundary text (at + t.len) =
    IsCharBoundary-from_rest text at t.len within
    (subst (λ v. IsCharBoundary v t.len) (sym is) lawful.1) in
    let rest : drop (at + t.len) text ≡ drop t.len u =
    sym (drop-drop t.len at text) ∙ ap (drop t.len) is in
    subst (EndAtBoundaries text at)
    (sym (first_token (plain_tells strings division) start b bs some)) (
      end,
      laid_from progress n strings division false text (at + t.len) (drop t.len u) rest
          end.0 (IsUtf8-drop u t.len utf8 lawful.1) less,
    )

pub tokens_laid : TextsProgress → (strings : Strings) (division : Division) (start : Bool)
    (text : List ℕ) (at : ℕ) → IsUtf8 text → IsCharBoundary text at
    → EndAtBoundaries text at
    (tokens_from (plain_tells strings division) 0 start (drop at text))
tokens_laid progress strings division start text at utf8 boundary =
    laid_from progress (length (drop at text)) strings division start text at (drop at text) refl
    boundary.0 (IsUtf8-drop text at utf8 boundary) (omega arith)
