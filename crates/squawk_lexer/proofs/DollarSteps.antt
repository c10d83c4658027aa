-- Steps of the functions that read a token at `$`.
use Rattle.std.proofs.Common.{◌≡◌, ℕ, suc, ◌+◌, Bool, true, false, ◌&&◌, List, [], ◌∷◌, take, get_or, refl, sym, ap, ◌∙◌, inl, inr, ◌⊎◌, eq-eqb, arith, cond}
use Rattle.std.specs.List.{prefix_len}
use Rattle.std.proofs.lemmas.Bool.Decides.{nat_tests}
use Rattle.std.proofs.lemmas.Bool.{cases_eq}
use Rattle.squawk_lexer.specs.Runs.{run_end, junk_end}
use Rattle.squawk_lexer.specs.Text.{utf8_len}
use Rattle.squawk_lexer.specs.Classes.{is_ident_start, is_ident_cont, is_digit, is_tag_cont, is_not_dollar}
use Rattle.squawk_lexer.specs.Dollar.{tag_end, is_dollar_quote_start, dollar, dollar_string}
use Rattle.squawk_lexer.specs.Numbers.{parameter}
use Rattle.squawk_lexer.specs.Kind.{lexeme_until}
use Rattle.squawk_lexer.specs.declared.token.TokenKind.TheVariants.{PositionalParam}
use Rattle.squawk_lexer.proofs.Steps.{drop_some, drop_none, drop_read, drop_past, within_some, within_read, after_some, after_none, after_within, after_on, mapped, ne_eqb, after_read}

-- ---- the delimiter that opens a string

-- A delimiter begins with `$` (36).
pub delimiter_first : (u d : List ℕ) (i : ℕ) → i ≡ tag_end u + 1 → d ≡ take i u → get_or u 0 0 ≡ 36
    → get_or d 0 0 ≡ 36
delimiter_first u d i e is first =
    let next : tag_end u + 1 ≡ suc (tag_end u) = omega arith in
    rw (is, e, next) (by u first)
  where
    by : (v : List ℕ) → get_or v 0 0 ≡ 36 → get_or (take (suc (tag_end u)) v) 0 0 ≡ 36
    by [] f = absurd (omega arith)
    by (c ∷ v) f = f

pub ruleset delimiter_steps = (delimiter_first)

-- ---- a parameter

-- A tag that no `$` follows is the longest run of identifier characters.
tag_is_run : (v : List ℕ) → (get_or v (prefix_len is_tag_cont v) 0 ≡ 36 → ⊥)
    → prefix_len is_ident_cont v ≡ prefix_len is_tag_cont v
tag_is_run [] n = refl
tag_is_run (c ∷ v) n = by (cases_eq c 36) (λ k. tag_is_run v k)
  where
    by : (c ≡ 36) ⊎ (c ≡ 36 → ⊥) → ((get_or v (prefix_len is_tag_cont v) 0 ≡ 36 → ⊥)
        → prefix_len is_ident_cont v ≡ prefix_len is_tag_cont v)
        → prefix_len is_ident_cont (c ∷ v) ≡ prefix_len is_tag_cont (c ∷ v)
    by (inl e) more = absurd ((rw e at n) refl)
    by (inr ne) more = each (is_ident_cont c) (is_not_dollar c) (rw (ne_eqb c 36 ne) refl) n
      where
        each : (b t : Bool) → t ≡ true
            → (get_or (c ∷ v) (cond (b && t) (1 + prefix_len is_tag_cont v) 0) 0 ≡ 36 → ⊥)
            → cond b (1 + prefix_len is_ident_cont v) 0
            ≡ cond (b && t) (1 + prefix_len is_tag_cont v) 0
        each true true e m =
            let next : 1 + prefix_len is_tag_cont v ≡ suc (prefix_len is_tag_cont v) = omega arith
            in
            ap (λ k. 1 + k) (more (rw next at m))
        each true false e m = absurd (cc)
        each false t e m = refl

-- A character that begins an identifier is not a digit.
no_digit : (c : ℕ) → is_ident_start c ≡ true → is_digit c ≡ false
no_digit c e = grind (arith, nat_tests)

-- A string begins where `$` follows the tag; a parameter where it does not.
pub opens : (u : List ℕ) (i : ℕ) → i ≡ tag_end u → get_or u i 0 ≡ 36
    → (is_dollar_quote_start u ≡ true) × (dollar u ≡ dollar_string u)
opens u i e here = let test : is_dollar_quote_start u ≡ true = rw (← e) (eq-eqb _ _ here) in
    (test, rw test refl)

opens_not : (u : List ℕ) (i : ℕ) → i ≡ tag_end u → (get_or u i 0 ≡ 36 → ⊥) → dollar u ≡ parameter u
opens_not u i e other = let test : is_dollar_quote_start u ≡ false = rw (← e) (ne_eqb _ 36 other) in
    rw test refl

-- A parameter without a tag, and one whose tag is junk.
pub no_tag : (u : List ℕ) (i : ℕ) → is_ident_start (get_or u 1 0) ≡ false → i ≡ tag_end u
    → (get_or u i 0 ≡ 36 → ⊥) → (dollar u ≡ parameter u) × (i ≡ 1)
no_tag u i none e other = (opens_not u i e other, e ∙ rw none refl)

pub junk_tag : (u : List ℕ) (i : ℕ) → get_or u 0 0 ≡ 36 → is_ident_start (get_or u 1 0) ≡ true
    → i ≡ tag_end u → (get_or u i 0 ≡ 36 → ⊥) → lexeme_until (PositionalParam 1) i ≡ dollar u
junk_tag [] i first tag e other = absurd (omega arith)
junk_tag (c ∷ []) i first tag e other = absurd (grind (arith, nat_tests))
junk_tag (c ∷ x ∷ v) i first tag e other =
    let u = c ∷ x ∷ v in
    let i_is : i ≡ 1 + prefix_len is_tag_cont (x ∷ v) = e
    ∙ ap (λ b. cond b (1 + prefix_len is_tag_cont (x ∷ v)) 1) tag in
    let next : i ≡ suc (prefix_len is_tag_cont (x ∷ v)) = omega arith in
    let run_is : prefix_len is_ident_cont (x ∷ v) ≡ prefix_len is_tag_cont (x ∷ v) =
    tag_is_run (x ∷ v) (rw next at other) in
    let digits : run_end is_digit u 1 ≡ 1 =
    ap (λ b. 1 + cond b (1 + prefix_len is_digit v) 0) (no_digit x tag) in
    let one : utf8_len (take 1 u) ≡ 1 = ap (λ y. utf8_len (take 1 (y ∷ x ∷ v))) first in
    let end : junk_end u 1 ≡ i = ap (λ b. cond b (1 + prefix_len is_ident_cont (x ∷ v)) 1) tag
    ∙ omega arith in
    let param_is : parameter u ≡ lexeme_until (PositionalParam 1) i =
    ap (λ k. lexeme_until (PositionalParam (utf8_len (take k u))) (junk_end u k)) digits
    ∙ rw (one, end) refl in
    sym (opens_not u i e other ∙ param_is)

pub ruleset dollar_steps = (opens, no_tag, junk_tag, after_read, nat_tests)
