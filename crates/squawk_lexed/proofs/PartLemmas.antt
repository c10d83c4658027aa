-- Tokens that cover a slice of a text.
use Rattle.std.proofs.Common.{◌≡◌, ℕ, ◌+◌, ◌-◌, ◌<◌, ◌≤◌, ◌^◌, List, [], ◌∷◌, ◌++◌, length, drop, get_or, refl, ap, sym, subst, ◌∙◌, arith}
use Rattle.std.proofs.lemmas.List.{append-nil, length-take-le, length-drop, get_or-take, get_or-drop}
use Rattle.std.specs.List.{slice_range}
use Rattle.std.specs.Str.{IsCharBoundary}
use Rattle.squawk_events.specs.declared.steps.ParseError.{ParseError}
use Rattle.squawk_lexer.specs.declared.token.Token.{Token}
use Rattle.squawk_lexer.specs.Flags.{FlagsLieWithin, AreCut}
use Rattle.squawk_lexed.specs.LexedToken.{LexedToken}
use Rattle.squawk_lexed.specs.LexedText.{lexed_tokens, lexed_part, tokens_len, EndAtBoundaries, total_len}
use Rattle.squawk_lexed.specs.Stored.{kinds_of, starts_of, errors_of, AreBoundaries, IsStoredAs}
use Rattle.squawk_lexed.proofs.StoredLemmas.{tokens_are_sound}

-- tokens with their kinds are as long as without
lexed_tokens_len : (text : List ℕ) (at : ℕ) (ts : List Token)
    → total_len (lexed_tokens text at ts) ≡ tokens_len ts
lexed_tokens_len text at [] = refl
lexed_tokens_len text at (t ∷ ts) = ap (λ n. t.len + n) (lexed_tokens_len text (at + t.len) ts)

-- tokens that end at character boundaries do not extend past the end of the text
laid_within : (text : List ℕ) (at : ℕ) (ts : List Token) → IsCharBoundary text at
    → EndAtBoundaries text at ts → at + tokens_len ts ≤ length text
laid_within text at [] here laid = omega (arith, here.0)
laid_within text at (t ∷ ts) here laid =
    omega (arith, laid_within text (at + t.len) ts laid.0 laid.1)

-- the length of a slice
length_part : (text : List ℕ) (start end : ℕ) → start ≤ end → end ≤ length text
    → length (slice_range text start end) ≡ end - start
length_part text start end p q =
    length-take-le (end - start) (drop start text) (omega (arith, length-drop start text))

-- a character boundary of the text is one of the slice
part_boundary : (text : List ℕ) (start end p : ℕ) → start + p ≤ end → end ≤ length text
    → IsCharBoundary text (start + p) → IsCharBoundary (slice_range text start end) p
part_boundary text start end p h within here =
    let len = length_part text start end (omega arith) within in (
      omega (arith, len),
      λ less high.
          let same : get_or (slice_range text start end) p 0 ≡ get_or text (start + p) 0 =
          get_or-take (end - start) (drop start text) p 0 (omega (arith, len, less))
          ∙ get_or-drop start text p 0 in
          subst (λ n. 192 ≤ n) (sym same) (here.1 (omega (arith, len, less)) (subst (λ n.
          128 ≤ n) same high)),
    )

-- the starts of tokens in the slice are character boundaries of it
part_bounded : (text : List ℕ) (start end p at : ℕ) (ts : List Token) → at ≡ start + p
    → at + tokens_len ts ≤ end → end ≤ length text
    → IsCharBoundary text at → EndAtBoundaries text at ts
    → AreBoundaries (slice_range text start end) (starts_of p (lexed_tokens text at ts))
part_bounded text start end p at [] is h within here laid =
    (part_boundary text start end p (omega arith) within (subst (IsCharBoundary text) is here), tt)
part_bounded text start end p at (t ∷ ts) is h within here laid = (
  part_boundary text start end p (omega arith) within (subst (IsCharBoundary text) is here),
  part_bounded text start end (p + t.len) (at + t.len) ts (omega arith) (omega arith) within laid.0
      laid.1,
)

-- the loop over the tokens: its three lists store the tokens of the slice
pub part_kept : FlagsLieWithin → (text : List ℕ) (at : ℕ) (ts : List Token) → AreCut ts
    → EndAtBoundaries text at ts → IsCharBoundary text at → length text < 2 ^ 32
    → (from : ℕ) (left : List Token) (part kinds starts starts' : List ℕ) (errors : List ParseError)
    → left ≡ [] → part ≡ slice_range text at from
    → from + tokens_len left ≡ at + tokens_len ts
    → kinds ++ kinds_of (lexed_tokens text from left) ≡ kinds_of (lexed_tokens text at ts)
    → starts ++ starts_of (from - at) (lexed_tokens text from left)
    ≡ starts_of 0 (lexed_tokens text at ts) → starts' ≡ starts ++ (from - at) ∷ []
    → errors ++ errors_of (from - at) (lexed_tokens text from left)
    ≡ errors_of 0 (lexed_tokens text at ts)
    → IsStoredAs part kinds starts' errors (lexed_tokens text at ts)
part_kept law text at ts cut laid here fits from left part kinds starts starts' errors none is
    same_end k s s' e =
    let end : from ≡ at + tokens_len ts = omega (arith, ap tokens_len none, same_end) in
    let within : from ≤ length text = omega (arith, end, laid_within text at ts here laid) in
    let len : length part ≡ from - at = ap length is
    ∙ length_part text at from (omega (arith, end)) within in
    record {
      kinds_are = sym (append-nil kinds) ∙ rw none at k;
      starts_are = s' ∙ rw none at s;
      errors_are = sym (append-nil errors) ∙ rw none at e;
      sound = tokens_are_sound law text at ts cut;
      whole = omega (arith, len, end, lexed_tokens_len text at ts);
      fits = omega (arith, len, within, fits);
      boundaries = rw is (part_bounded text at from 0 at ts (omega arith) (omega (arith, end))
          within here laid);
    }

-- after the loop, the slice and its tokens are the part of the text that the definitions name
pub part_is : (text : List ℕ) (at from : ℕ) (ts : List Token) (left : List Token) (part : List ℕ)
    (us : List LexedToken) → left ≡ [] → part ≡ slice_range text at from
    → from + tokens_len left ≡ at + tokens_len ts → us ≡ lexed_tokens text at ts
    → record { text = part; tokens = us } ≡ lexed_part text at ts
part_is text at from ts left part us none is same_end same =
    let end : from ≡ at + tokens_len ts = omega (arith, ap tokens_len none, same_end) in
    rw (is, end, same) refl
