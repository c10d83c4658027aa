-- What a gap begins with, and a token that a gap follows after one more character.
use Rattle.std.proofs.Common.{◌≡◌, ℕ, ◌+◌, ◌<◌, ◌≤◌, Bool, true, false, List, ◌∷◌, ◌++◌, length, get_or, take, drop, length-drop, length-append, refl, sym, ap, ◌∙◌, inl, inr, ◌&&◌, ◌||◌, eqb, arith}
use Rattle.std.proofs.lemmas.Bool.Decides.{nat_tests}
use Rattle.std.proofs.lemmas.List.{get_or-drop, length-take-le}
use Rattle.std.proofs.Math.Seq.{take-append_seam, get_or-append_seam}
use Rattle.squawk_lexer.specs.declared.forms.TokenForm.{TokenForm}
use Rattle.squawk_lexer.specs.Classes.{is_whitespace}
use Rattle.squawk_lexer.specs.Token.{token_form, lexeme_at}
use Rattle.squawk_lexer.specs.LookAhead.{Agrees}
use Rattle.squawk_lexer.specs.Gaps.{begins_gap, IsGap, TokensStayBefore}
use Rattle.squawk_lexer.proofs.TokenLaws.{lexeme_at_some}
use Rattle.squawk_lexer.proofs.Steps.{within_read}
use Rattle.squawk_lexer.proofs.Ahead.{agrees_less, agrees_read, Alike, after}
use Rattle.squawk_lexer.proofs.AheadRuns.{Asks}
use Rattle.squawk_lexer.proofs.AheadTokens.{AsksOf, Any, first_form, lexeme_same, any_psql, asks_form}

-- ---- what a gap begins with

-- Whether c may begin a gap: white space, `-` (45) or `/` (47).
abbrev pub is_gap_start : ℕ → Bool
is_gap_start c = is_whitespace c || (eqb c 45 || eqb c 47)

-- A gap begins with such a character.
gap_start : (u : List ℕ) → begins_gap u ≡ true → is_gap_start (get_or u 0 0) ≡ true
gap_start u t = grind (arith, nat_tests)

-- What replaces a gap is white space,
pub gap_whitespace : (g : ℕ) → IsGap g → is_whitespace g ≡ true
gap_whitespace g (inl e) = rw e refl
gap_whitespace g (inr e) = rw e refl

-- which may begin a gap.
pub whitespace_start : (g : ℕ) → is_whitespace g ≡ true → is_gap_start g ≡ true
whitespace_start g t = rw t refl

-- A test that says the same of all characters that may begin a gap.
abbrev pub SameOnGapStarts : (ℕ → Bool) → Type 0
SameOnGapStarts p = (c : ℕ) → is_gap_start c ≡ true → p c ≡ p 10

-- Whether c and e begin a gap: white space, `--` or `/*` (42).
abbrev pub is_gap : ℕ → ℕ → Bool
is_gap c e = is_whitespace c || ((eqb c 45 && eqb e 45) || (eqb c 47 && eqb e 42))

-- White space begins a gap.
pub whitespace_gap : (g e : ℕ) → is_whitespace g ≡ true → is_gap g e ≡ true
whitespace_gap g e t = rw t refl

-- A pair of tests that no two characters that begin a gap pass.
abbrev pub FailsOnGapStarts : (ℕ → Bool) → (ℕ → Bool) → Type 0
FailsOnGapStarts p q = (c e : ℕ) → is_gap c e ≡ true → (p c && q e) ≡ false

-- The test for two letters is such.
pub letters_same_on_gap_starts : (x y : ℕ) → 65 ≤ x → 65 ≤ y → SameOnGapStarts (λ c. eqb c x || eqb c y)
letters_same_on_gap_starts x y p q c t =
    let here : (eqb c x || eqb c y) ≡ false = grind (arith, nat_tests) in
    let there : (eqb 10 x || eqb 10 y) ≡ false = grind (arith, nat_tests) in
    here ∙ sym there

-- ---- after one more character

-- A pair of tests whose second one says the same of all characters that may begin a gap. The first
-- character is the same in both texts.
abbrev Second : (ℕ → Bool) → (ℕ → Bool) → Type 0
Second p q = SameOnGapStarts q

-- The tests of words and numbers are such,
asks_second : Asks Any Second
asks_second = record {
  id_start = tt;
  id_cont = tt;
  tag_cont = tt;
  digit = tt;
  hex = tt;
  letters = λ x y p q. tt;
  no_point = tt;
  dollar = tt;
  apostrophe = tt;
  quotation = tt;
  points = λ c t. grind (arith, nat_tests);
  signs = λ c t. grind (arith, nat_tests);
  underscore_digit = λ c t. grind (arith, nat_tests);
  underscore_hex_digit = λ c t. grind (arith, nat_tests);
  and_string = λ c t. grind (arith, nat_tests);
  and_ident = λ c t. grind (arith, nat_tests);
}

-- and so are those of every form.
asks_of_second : (s : TokenForm) → AsksOf Any Second s
asks_of_second s = asks_form asks_second any_psql tt tt s

-- v begins with the first n characters of u, and goes on with g.
pub record IsOn (n g : ℕ) (u v : List ℕ) : Type 0 where
  pub within : n < length u
  pub right : n < length v
  pub same : take n v ≡ take n u
  pub at : get_or v n 0 ≡ g

-- A text whose end after n characters is replaced is such.
pub put : (n g : ℕ) (rest u : List ℕ) → n < length u → IsOn n g u (take n u ++ g ∷ rest)
put n g rest u h =
    let len : length (take n u) ≡ n = length-take-le n u (omega arith) in
    record {
      within = h;
      right = omega (arith, len, length-append (take n u) (g ∷ rest));
      same = ap (λ m. take m (take n u ++ g ∷ rest)) (sym len)
          ∙ take-append_seam (take n u) (g ∷ rest);
      at = ap (λ m. get_or (take n u ++ g ∷ rest) m 0) (sym len)
          ∙ get_or-append_seam (take n u) g rest 0;
    }

-- A gap begins within the text.
pub gap_within : (n : ℕ) (u : List ℕ) → begins_gap (drop n u) ≡ true → n < length u
gap_within n u t =
    let first : is_gap_start (get_or (drop n u) 0 0) ≡ true = gap_start (drop n u) t in
    let some : 0 < get_or (drop n u) 0 0 = grind (arith, nat_tests) in
    let more : 0 < length (drop n u) = within_read (drop n u) 0 some in
    omega (arith, length-drop n u)

-- The characters before index n are the same.
pub on_read : (n g : ℕ) (u v : List ℕ) (j : ℕ) → IsOn n g u v → j < n → get_or v j 0 ≡ get_or u j 0
on_read n g u v j on h = agrees_read n u v j (record {
  within = let w : n < length u = on.within in
      omega arith;
  same = on.same;
}) h

-- The first character of a gap, and the first two.
pub gap_at : (n : ℕ) (u : List ℕ) → begins_gap (drop n u) ≡ true
    → is_gap_start (get_or u n 0) ≡ true
gap_at n u t = sym (ap is_gap_start (get_or-drop n u 0 0 ∙ ap (λ m. get_or u m 0) (omega arith)))
    ∙ gap_start (drop n u) t

pub gap_pair : (n : ℕ) (u : List ℕ) → begins_gap (drop n u) ≡ true
    → is_gap (get_or u n 0) (get_or (drop (n + 1) u) 0 0) ≡ true
gap_pair n u t =
    ap (λ c. is_gap c (get_or (drop (n + 1) u) 0 0)) (sym (get_or-drop n u 0 0
    ∙ ap (λ m. get_or u m 0) (omega arith)))
    ∙ ap (is_gap (get_or (drop n u) 0 0)) (after n u ∙ sym (get_or-drop n u 1 0))
    ∙ t

-- A token stays the same where the gap begins one character after its end.
pub tokens_stay_before : TokensStayBefore
tokens_stay_before strings s u g rest t gap =
    lexeme_same strings s k u v a rows (asks_of_second (first_form u)) refl
  where
    k : ℕ
    k = (lexeme_at strings s u).end

    v : List ℕ
    v = take (k + 1) u ++ g ∷ rest

    on : IsOn (k + 1) g u v
    on = put (k + 1) g rest u (gap_within (k + 1) u t)

    within : k + 1 < length u
    within = on.within

    right : k + 1 < length v
    right = on.right

    agrees : Agrees (k + 1) u v
    agrees = record { within = omega (arith, within); same = on.same }

    here : get_or v k 0 ≡ get_or u k 0
    here = agrees_read (k + 1) u v k agrees (omega arith)

    same_on_gap_starts : (q : ℕ → Bool) → SameOnGapStarts q → q (get_or (drop (k + 1) v) 0 0)
        ≡ q (get_or (drop (k + 1) u) 0 0)
    same_on_gap_starts q c = ap q (after k v ∙ on.at) ∙ c g (whitespace_start g (gap_whitespace g gap))
        ∙ sym (c (get_or (drop (k + 1) u) 0 0) (gap_start (drop (k + 1) u) t))

    a : Alike Any Second k u v
    a = record {
      left = omega (arith, within);
      right = omega (arith, right);
      same = (agrees_less k (k + 1) u v (omega arith) agrees).same;
      follows = record {
        one = λ p x. ap p here;
        two = λ p q x. ap (λ c. p c && q (get_or (drop (k + 1) v) 0 0)) here
            ∙ ap (λ b. p (get_or u k 0) && b) (same_on_gap_starts q x);
      };
    }

    some : 1 ≤ k
    some = lexeme_at_some strings s u (omega (arith, within))

    rows : first_form v ≡ first_form u
    rows = ap (λ c. token_form c (get_or v 1 0)) (agrees_read (k + 1) u v 0 agrees (omega arith))
        ∙ ap (token_form (get_or u 0 0)) (agrees_read (k + 1) u v 1 agrees (omega (arith, some)))
