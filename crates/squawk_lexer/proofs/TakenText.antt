-- The text before the position of a cursor.
use Rattle.std.proofs.Common.{◌≡◌, ℕ, ◌+◌, ◌-◌, ◌≤◌, true, List, ◌++◌, length, take, drop, length-append, sym, ◌∙◌, ap, arith, IsUtf8}
use Rattle.std.proofs.lemmas.List.{take-append-drop, take_at}
use Rattle.std.proofs.lemmas.Str.{IsUtf8-from_is_utf8, is_utf8-from_IsUtf8, encodes-chars, encodes-append, chars-append, IsCharBoundary-at_seam, IsUtf8-take}
use Rattle.std.specs.List.{slice_range}
use Rattle.std.specs.Str.{chars, is_utf8, encode_utf8_all, IsCharBoundary}
use Rattle.squawk_lexer.specs.CursorModel.{IsRest, chars_before}

-- The number of bytes before the rest.
abbrev before : List ℕ → List ℕ → ℕ
before token rest = length token - length rest

-- The bytes before the rest are UTF-8, end at a character boundary, and have the characters before
-- it.
pub record IsTaken (token rest : List ℕ) : Type 0 where
  pub within : length rest ≤ length token
  pub boundary : IsCharBoundary token (before token rest)
  pub is : chars (slice_range token 0 (before token rest))
      ≡ take (chars_before token rest) (chars token)
  pub utf8 : is_utf8 (slice_range token 0 (before token rest)) ≡ true

-- They are so before every rest.
pub taken : (token rest : List ℕ) → IsRest token rest → IsTaken token rest
taken token rest r =
    let all : IsUtf8 token = IsUtf8-from_is_utf8 token r.token_utf8 in
    let left : IsUtf8 rest = IsUtf8-from_is_utf8 rest r.rest_utf8 in
    let k = chars_before token rest in
    let prefix = encode_utf8_all (take k (chars token)) in
    let rest_is : encode_utf8_all (drop k (chars token)) ≡ rest = ap encode_utf8_all (sym r.is)
    ∙ encodes-chars rest left in
    let seam : token ≡ prefix ++ rest = sym (encodes-chars token all)
    ∙ ap encode_utf8_all (sym (take-append-drop k (chars token)))
    ∙ encodes-append (take k (chars token)) (drop k (chars token))
    ∙ ap (λ x. prefix ++ x) rest_is in
    let lengths : length token ≡ length prefix + length rest = ap length seam
    ∙ length-append prefix rest in
    let at : length prefix ≡ before token rest = omega arith in
    let boundary : IsCharBoundary token (before token rest) =
    rw (← at) (IsCharBoundary-at_seam token prefix rest seam left) in
    let front_is : take (before token rest) token ≡ prefix = ap (take (before token rest)) seam
    ∙ take_at prefix rest (before token rest) at in
    let utf8 : IsUtf8 (take (before token rest) token) =
    IsUtf8-take token (before token rest) all boundary in
    let front_utf8 : IsUtf8 prefix = rw (← front_is) utf8 in
    let cut : chars token ≡ chars prefix ++ chars rest = ap chars seam
    ∙ chars-append prefix rest front_utf8 in
    let cut_lengths : length (chars token) ≡ length (chars prefix) + length (chars rest) =
    ap length cut ∙ length-append (chars prefix) (chars rest) in
    let chars_at : length (chars prefix) ≡ k = omega arith in
    let prefix_chars : take k (chars token) ≡ chars prefix = ap (take k) cut
    ∙ take_at (chars prefix) (chars rest) k chars_at in
    let from_0 : before token rest - 0 ≡ before token rest = omega arith in
    record {
      within = omega arith;
      boundary = boundary;
      is = rw from_0 (ap chars front_is ∙ sym prefix_chars);
      utf8 = rw from_0 (is_utf8-from_IsUtf8 _ utf8);
    }
