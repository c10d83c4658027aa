-- Words of psql commands by their first byte.
use Rattle.std.proofs.Common.{◌≡◌, ℕ, Bool, true, false, cond, ◌||◌, eqb, eq-eqb, List, [], ◌∷◌, get_or, refl, sym, ◌∙◌, ap, IsUtf8}
use Rattle.std.proofs.lemmas.Map.Views.{any-filter_same}
use Rattle.std.specs.List.{list_all, list_any, filter}
use Rattle.std.specs.Str.{chars, bytes_eq}
use Rattle.squawk_lexer.specs.PsqlWords.{is_among}
use Rattle.squawk_lexer.proofs.PsqlChars.{same_text, text_same, is_ascii, among_same}

-- Equality with one word, as the code tests it, and as the definitions do.
both_orders : (a b : Bool) → (a ≡ true → b ≡ true) → (b ≡ true → a ≡ true) → a ≡ b || false
both_orders true b to from = sym (ap (λ x. x || false) (to refl))
both_orders false true to from = from refl
both_orders false false to from = refl

pub equals_one : (w bs : List ℕ) → bytes_eq bs w ≡ is_among (w ∷ []) bs
equals_one w bs = both_orders (bytes_eq bs w) (bytes_eq w bs)
    (λ e. ap (λ x. bytes_eq x bs) (sym (same_text bs w e)) ∙ text_same bs)
    (λ e. ap (λ x. bytes_eq x w) (sym (same_text w bs e)) ∙ text_same w)

-- Whether the word begins with b.
abbrev pub begins : ℕ → List ℕ → Bool
begins b w = eqb (get_or w 0 0) b

-- A text is among words where it is among those that begin with its first byte.
among_first : (ws : List (List ℕ)) (b : ℕ) (bs : List ℕ) → get_or bs 0 0 ≡ b
    → is_among (filter (begins b) ws) bs ≡ is_among ws bs
among_first ws b bs at = any-filter_same (λ w. bytes_eq w bs) (begins b) true
    (λ w same. eq-eqb (get_or w 0 0) b (ap (λ x. get_or x 0 0) (same_text w bs same) ∙ at)) ws

-- So it is by its characters.
pub among_begun : (ws : List (List ℕ)) (b : ℕ) (bs : List ℕ) → list_all is_ascii ws ≡ true
    → IsUtf8 bs → b ≡ get_or bs 0 0
    → is_among (filter (begins b) ws) bs ≡ is_among ws (chars bs)
among_begun ws b bs ascii utf8 at = among_first ws b bs (sym at) ∙ among_same ws bs ascii utf8

-- A filter that no element passes leaves none: a step, and for all.
left_out : {X : Type 0} (t any : Bool) (x : X) (xs : List X) → (t || any) ≡ false
    → (any ≡ false → xs ≡ []) → cond t (x ∷ xs) xs ≡ []
left_out true any x xs none rest = absurd (cc)
left_out false any x xs none rest = rest none

none_left : {X : Type 0} (p : X → Bool) (xs : List X) → list_any p xs ≡ false → filter p xs ≡ []
none_left p [] none = refl
none_left p (x ∷ xs) none =
    left_out (p x) (list_any p xs) x (filter p xs) none (none_left p xs)

-- A text whose first byte begins no word is not among the words.
pub among_none : (ws : List (List ℕ)) (b : ℕ) (bs : List ℕ) → list_all is_ascii ws ≡ true
    → IsUtf8 bs → b ≡ get_or bs 0 0 → list_any (begins b) ws ≡ false
    → false ≡ is_among ws (chars bs)
among_none ws b bs ascii utf8 at none =
    ap (λ vs. is_among vs bs) (sym (none_left (begins b) ws none))
    ∙ among_begun ws b bs ascii utf8 at
