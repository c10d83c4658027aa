-- Doubled quotes undone character by character.
use Rattle.std.proofs.Common.{◌≡◌, ℕ, Bool, true, false, List, [], ◌∷◌, ◌++◌, append_assoc, refl, sym, ap, ◌∙◌, ◌&&◌, eqb, cond, arith}
use Rattle.std.proofs.lemmas.Bool.Decides.{nat_tests}
use Rattle.std.specs.Char.{encode_utf8}
use Rattle.std.specs.Str.{encode_utf8_all}
use Rattle.squawk_quote.specs.ValueForms.{unescape_rest, KeepsOutput}
use Rattle.squawk_quote.specs.Values.{unescape_quotes}

-- the first character stays
first_stays : (q c : ℕ) (cs : List ℕ)
    → unescape_quotes q (c ∷ cs) ≡ c ∷ unescape_rest (eqb c q) q cs
first_stays q c [] = by (eqb c q)
  where
    by : (b : Bool) → c ∷ [] ≡ c ∷ unescape_rest b q []
    by true = refl
    by false = refl
first_stays q c (d ∷ ds) = by (eqb c q) (eqb d q) refl refl
  where
    by : (a b : Bool) → eqb c q ≡ a → eqb d q ≡ b
        → cond (a && b) (q ∷ unescape_quotes q ds) (c ∷ unescape_quotes q (d ∷ ds))
        ≡ c ∷ unescape_rest a q (d ∷ ds)
    by true true s t = rw t (ap (λ x. x ∷ unescape_quotes q ds)
        (let e : q ≡ c = grind (arith, nat_tests) in e))
    by true false s t = rw t refl
    by false b s t = refl

-- a character that is no second quote stays
char_stays : (q c : ℕ) (after : Bool) (cs : List ℕ) → (after && eqb c q) ≡ false
    → unescape_rest after q (c ∷ cs) ≡ c ∷ unescape_rest (eqb c q) q cs
char_stays q c false cs t = first_stays q c cs
char_stays q c true cs t =
    ap (λ b. cond b (unescape_quotes q cs) (unescape_quotes q (c ∷ cs))) t ∙ first_stays q c cs

-- the output after a second quote, and after any other character
pub second_quote : (q c : ℕ) (after : Bool) (old : List ℕ) → after ≡ true → eqb c q ≡ true
    → KeepsOutput q c after false old old
second_quote q c after old is t cs =
    sym (ap (λ a. old ++ encode_utf8_all (unescape_rest a q (c ∷ cs))) is
    ∙ ap (λ b. old ++ encode_utf8_all (cond b (unescape_quotes q cs) (unescape_quotes q (c ∷ cs))))
    t)

pub other_char : (q c : ℕ) (after next : Bool) (old new : List ℕ) → (after && eqb c q) ≡ false
    → next ≡ eqb c q → new ≡ old ++ encode_utf8 c → KeepsOutput q c after next old new
other_char q c after next old new t next_is new_is cs =
    let rest = encode_utf8_all (unescape_rest (eqb c q) q cs) in
    ap (λ b. new ++ encode_utf8_all (unescape_rest b q cs)) next_is
    ∙ ap (λ w. w ++ rest) new_is ∙ append_assoc old (encode_utf8 c) rest
    ∙ ap (λ w. old ++ encode_utf8_all w) (sym (char_stays q c after cs t))
