-- What a plain front tells is lawful, by the laws of the lexer and of the division. A law of the
-- trait `Front` may cite definitions alone, so its proof stands here.
use Rattle.std.proofs.Common.{◌≡◌, ℕ, ◌+◌, ◌<◌, ◌≤◌, true, List, [], ◌∷◌, ◌++◌, length, take, map, refl, sym, ap, ◌∙◌, subst, arith}
use Rattle.std.proofs.lemmas.List.{length-map, map-append, take-append-le}
use Rattle.squawk_cut.specs.ChildValue.{ChildValue, child_value}
use Rattle.squawk_cut.specs.Tells.{IsLawful, TextToken, text_token_bytes}
use Rattle.squawk_cut.specs.PlainTells.{lexed_of, kinds_of, plain_child, plain_tells}
use Rattle.squawk_lexed.specs.LexedText.{total_len}
use Rattle.squawk_lexer.specs.LookAhead.{TextsLookAhead, TextsProgress}
use Rattle.squawk_lexer.specs.declared.token.Strings.{Strings}
use Rattle.squawk_statements.specs.First.{first_shape}
use Rattle.squawk_statements.specs.Laws.{FirstChildrenWithin, FirstChildrenStay}
use Rattle.squawk_statements.specs.declared.division.Division.{Division}
use Rattle.squawk_statements.specs.declared.first.ChildShape.{ChildShape}
use Rattle.squawk_tree.specs.Join.{child_of}

-- the child of this shape with these tokens
child_with : Division → ChildShape → List TextToken → ChildValue
child_with division shape own = child_value shape (child_of division (map lexed_of own))

-- the length of tokens is that of the tokens as a parser reads them
total_lexed : (xs : List TextToken) → total_len (map lexed_of xs) ≡ text_token_bytes xs
unfolding lexed_of
total_lexed [] = refl
total_lexed (x ∷ xs) = ap (λ n. x.token.len + n) (total_lexed xs)

-- a first child has at least one token, and no more than there are
within : FirstChildrenWithin → (division : Division) (xs : List TextToken) → 0 < length xs
    → (0 < (plain_child division xs).tokens) × ((plain_child division xs).tokens ≤ length xs)
within law division xs some =
    let len = length-map xs (λ (x : TextToken). (lexed_of x).kind) in
    let both = law division (kinds_of xs) (omega (arith, len)) in
    let le : (first_shape division (kinds_of xs)).tokens ≤ length (kinds_of xs) = both.1 in
    (both.0, omega (arith, len, le))

-- a closed first child is decided by its own tokens
stays : FirstChildrenStay → (division : Division) (own rest other : List TextToken)
    → (plain_child division (own ++ rest)).closed ≡ true
    → (plain_child division (own ++ rest)).tokens ≡ length own
    → plain_child division (own ++ other) ≡ plain_child division (own ++ rest)
unfolding child_with
stays law division own rest other closed len =
    let k : TextToken → ℕ = λ x. (lexed_of x).kind in
    let one : kinds_of (own ++ rest) ≡ kinds_of own ++ kinds_of rest = map-append k own rest in
    let two : kinds_of (own ++ other) ≡ kinds_of own ++ kinds_of other = map-append k own other in
    let size = length-map own k in
    let shape : first_shape division (kinds_of own ++ kinds_of other)
    ≡ first_shape division (kinds_of own ++ kinds_of rest) =
    law division (kinds_of own) (kinds_of rest) (kinds_of other)
    (subst (λ ks. (first_shape division ks).closed ≡ true) one closed)
    (subst (λ ks. (first_shape division ks).tokens ≡ length own) one len ∙ sym size) in
    let same : first_shape division (kinds_of (own ++ other))
    ≡ first_shape division (kinds_of (own ++ rest)) =
    ap (first_shape division) two ∙ shape ∙ sym (ap (first_shape division) one) in
    let n = (first_shape division (kinds_of (own ++ rest))).tokens in
    let small : n ≤ length own = omega (arith, len) in
    ap (λ (s : ChildShape). child_with division s (take s.tokens (own ++ other))) same
    ∙ ap (child_with division (first_shape division (kinds_of (own ++ rest))))
    (take-append-le n own other small ∙ sym (take-append-le n own rest small))

-- what a plain front tells is lawful
pub plain_lawful : TextsProgress → TextsLookAhead → FirstChildrenWithin → FirstChildrenStay
    → (strings : Strings) (division : Division) → IsLawful (plain_tells strings division)
plain_lawful progress ahead children_within children_stay strings division = record {
  some = λ start text utf8 h. (progress strings start text utf8 h).0;
  within = λ start text utf8 h. (progress strings start text utf8 h).1;
  looks = λ start token two rest other utf8 utf8_two utf8_rest utf8_other has len.
      ahead strings start (token ++ (two ++ rest)) token two rest other refl (sym len) utf8
      utf8_two has;
  child_some = λ xs h. (within children_within division xs h).0;
  child_within = λ xs h. (within children_within division xs h).1;
  child_bytes = λ xs h.
      total_lexed (take (first_shape division (kinds_of xs)).tokens xs);
  stays = stays children_stay division;
}
