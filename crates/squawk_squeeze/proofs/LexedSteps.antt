-- One step of the loop of `squeeze_lexed`: each of its tokens is the one that the lexer cuts there.
use Rattle.std.proofs.Common.{◌≡◌, ℕ, zero, suc, ◌+◌, ◌-◌, ◌<◌, ◌≤◌, Bool, true, false, ◌&&◌, nat_lt, List, [], ◌∷◌, length, take, drop, get_or, length-drop, refl, sym, ap, subst, ◌∙◌, arith, IsUtf8}
use Rattle.std.proofs.lemmas.Bool.{and_parts}
use Rattle.std.proofs.lemmas.Bool.Decides.{nat_tests}
use Rattle.std.proofs.lemmas.List.{get_or_default}
use Rattle.std.proofs.lemmas.Str.{IsUtf8-drop, IsCharBoundary-from_rest}
use Rattle.std.specs.Bool.{◌==◌}
use Rattle.std.specs.Str.{chars}
use Rattle.squawk_kinds.specs.Role.{role}
use Rattle.squawk_kinds.specs.Role as roles
use Rattle.squawk_lexer.specs.Cut.{is_trivia}
use Rattle.squawk_lexer.specs.Laws.{TokensProgress}
use Rattle.squawk_lexer.specs.LookAhead.{TextsProgress}
use Rattle.squawk_lexer.specs.declared.token.Strings.{Strings}
use Rattle.squawk_lexer.specs.declared.token.TokenKind.{TokenKind}
use Rattle.squawk_lexer.specs.declared.token.TokenKind.TheVariants as kinds
use Rattle.squawk_lexed.specs.Faults.{faults_within}
use Rattle.squawk_lexed.specs.Leaf.{leaf_kind, token_role}
use Rattle.squawk_lexed.specs.LexedLaws.{token_cut_at, TokensAreCutAtTheirStarts}
use Rattle.squawk_lexed.specs.LexedText.{LexedText, lexed_text, token_start, token_text, total_len, are_sound}
use Rattle.squawk_lexed.specs.LexedToken.{LexedToken}
use Rattle.squawk_lexed.specs.Stored.{kinds_of}
use Rattle.squawk_squeeze.specs.Squeezed.{text_token, text_tokens_at}
use Rattle.squawk_squeeze.proofs.SqueezeBytes.{step}

-- the leaf of a token has the token's role
abbrev pub LeavesKeepRoles : Type 0
LeavesKeepRoles = (token : TokenKind) (text : List ℕ)
    → role (leaf_kind token text) ≡ token_role token

-- a token is trivia exactly if its role is
trivia_role : (kind : TokenKind) → is_trivia kind ≡ roles.is_trivia (token_role kind)
trivia_role (kinds.PsqlCommand true) = refl
trivia_role (kinds.PsqlCommand false) = refl
trivia_role _ = refl

-- each token has one kind
length_kinds : (ts : List LexedToken) → length (kinds_of ts) ≡ length ts
length_kinds [] = refl
length_kinds (t ∷ ts) = ap suc (length_kinds ts)

-- a token starts before the end of the text
starts_before_end : (ts : List LexedToken) (i : ℕ) → are_sound ts ≡ true → i < length ts
    → token_start ts i < total_len ts
starts_before_end [] i h w = absurd (omega arith)
starts_before_end (t ∷ ts) zero h w =
    let parts = and_parts (nat_lt 0 t.len) (faults_within t.len t.faults && are_sound ts) h in
    let some : 0 < t.len = grind (arith, nat_tests) in
    omega (arith, some)
starts_before_end (t ∷ ts) (suc i) h w =
    let parts = and_parts (nat_lt 0 t.len) (faults_within t.len t.faults && are_sound ts) h in
    let more = and_parts (faults_within t.len t.faults) (are_sound ts) parts.1 in
    omega (arith, starts_before_end ts i more.1 (omega arith))

-- the token at index i of a lexed text: it is trivia or not, has this text, and the tokens from its
-- start on are it and those from the next start on
pub record IsStep (strings : Strings) (text : List ℕ) (l : LexedText) (i : ℕ) (trivia : Bool)
    (part : List ℕ) : Type 0 where
  pub kind : TokenKind
  pub is : is_trivia kind ≡ trivia
  pub tokens : text_tokens_at strings text (token_start l.tokens i)
      ≡ text_token kind (chars part) ∷ text_tokens_at strings text (token_start l.tokens (i + 1))

-- what the calls in the loop say of the token at index i
pub record IsRead (l : LexedText) (i kind : ℕ) (part : List ℕ) : Type 0 where
  pub within : i < length l.tokens
  pub sound : are_sound l.tokens ≡ true
  pub whole : total_len l.tokens ≡ length l.text
  pub kind_is : kind ≡ get_or (kinds_of l.tokens) i 0
  pub part_is : part ≡ token_text l i
  pub utf8 : IsUtf8 l.text
  pub part_utf8 : IsUtf8 part

-- the step of a text that the lexer cut, and of a value that is this text with its tokens
step_of_token : TokensProgress → TextsProgress → LeavesKeepRoles → TokensAreCutAtTheirStarts
    → (strings : Strings) (text : List ℕ) (i kind : ℕ) (part : List ℕ)
    → IsRead (lexed_text strings text) i kind part
    → IsStep strings text (lexed_text strings text) i (roles.is_trivia (role kind)) part
step_of_token some progress keep cut strings text i kind part r =
    let ts = (lexed_text strings text).tokens in
    let at = token_start ts i in
    let t = token_cut_at strings text at in
    let is = cut strings text i r.utf8 r.within in
    let within : at < length text = omega (arith, starts_before_end ts i r.sound r.within, r.whole)
    in
    let both = progress strings (at == 0) (drop at text) (IsUtf8-drop text at r.utf8 is.boundary)
    (omega (arith, length-drop at text)) in
    let part_is : part ≡ take t.len (drop at text) =
    r.part_is ∙ ap (λ n. take n (drop at text))
    (let e : token_start ts (i + 1) - at ≡ t.len = omega (arith, is.end) in e) in
    record {
      kind = t.kind;
      is = trivia_role t.kind ∙ ap roles.is_trivia (sym (ap role (r.kind_is ∙ is.kind)
          ∙ keep t.kind (token_text (lexed_text strings text) i)));
      tokens = step some strings text at t part r.utf8 is.boundary within
          (IsCharBoundary-from_rest text at t.len is.boundary.0 both.1) both.0 refl part_is
          r.part_utf8
          ∙ ap (λ n. text_token t.kind (chars part) ∷ text_tokens_at strings text n) (sym is.end);
    }

pub lexed_step : TokensProgress → TextsProgress → LeavesKeepRoles → TokensAreCutAtTheirStarts
    → (strings : Strings) (text : List ℕ) (l : LexedText) (i kind : ℕ) (part : List ℕ)
    → l ≡ lexed_text strings text → IsRead l i kind part
    → IsStep strings text l i (roles.is_trivia (role kind)) part
lexed_step some progress keep cut strings text l i kind part e r =
    subst (λ m. IsStep strings text m i (roles.is_trivia (role kind)) part) (sym e)
    (step_of_token some progress keep cut strings text i kind part
    (subst (λ m. IsRead m i kind part) e r))

-- the kind at an index, whatever stands for one past the end
pub kind_within : (ts : List LexedToken) (i kind d : ℕ) → i < length ts
    → kind ≡ get_or (kinds_of ts) i d → kind ≡ get_or (kinds_of ts) i 0
kind_within ts i kind d h e =
    e ∙ get_or_default (kinds_of ts) i d 0 (omega (arith, length_kinds ts))

-- past the last token, the start of a token is the length of all
take_whole : (ts : List LexedToken) (i : ℕ) → length ts ≤ i → total_len (take i ts) ≡ total_len ts
take_whole [] zero h = refl
take_whole [] (suc i) h = refl
take_whole (t ∷ ts) zero h = absurd (omega arith)
take_whole (t ∷ ts) (suc i) h = ap (λ n. t.len + n) (take_whole ts i (omega arith))

-- past the last token the text ends
pub ends_text : (strings : Strings) (text : List ℕ) (l : LexedText) (i : ℕ)
    → l ≡ lexed_text strings text → length l.tokens ≤ i → total_len l.tokens ≡ length l.text
    → length text ≤ token_start l.tokens i
ends_text strings text l i e h whole =
    let same : length l.text ≡ length text = ap (λ (m : LexedText). length m.text) e in
    omega (arith, take_whole l.tokens i h, whole, same)

-- the text of such a value is UTF-8
pub utf8_text : (strings : Strings) (text own : List ℕ) (l : LexedText)
    → l ≡ lexed_text strings text → own ≡ l.text → IsUtf8 own → IsUtf8 text
utf8_text strings text own l e own_is utf8 =
    subst IsUtf8 (own_is ∙ ap (λ (m : LexedText). m.text) e) utf8
