-- The tables of bytes that the lexer reads, and classes that hold all characters beyond ASCII or none.
use Rattle.std.proofs.Common.{◌≡◌, ℕ, zero, suc, ◌<◌, ◌≤◌, Bool, true, false, ◌&&◌, ◌||◌, ltb, not, eqb, eq-eqb, get_or, List, refl, sym, ◌∙◌, arith, inl, inr}
use Rattle.std.specs.Bool.{beq}
use Rattle.std.proofs.lemmas.Bool.{cases_eq}
use Rattle.std.proofs.lemmas.Bool.Decides.{nat_tests}
use Rattle.squawk_lexer.specs.declared.scan.TheConstants.{ID_CONT}
use Rattle.squawk_lexer.specs.declared.classes.Class.{Class}
use Rattle.squawk_lexer.specs.declared.classes.Class.TheVariants.{Whitespace, Blank, IdentCont, Digit, NotLineEnd, TagCont, CommandChar}
use Rattle.squawk_lexer.specs.Classes.{is_ident_cont, is_blank}
use Rattle.squawk_lexer.specs.ClassTests.{class_test}
use Rattle.squawk_lexer.specs.Bytes.{HasIdentCont, HasArgumentBytes}
use Rattle.squawk_lexer.specs.declared.arguments.TheConstants.{ARGUMENT_BYTES}
use Rattle.squawk_lexer.specs.PsqlParts.{is_psql_quote, ends_arguments}
use Rattle.squawk_lexer.proofs.Steps.{ne_eqb}
use Rattle.squawk_lexer.proofs.ByteRuns.{IsUniform}

-- ---- the table

-- Whether two tests agree on the numbers below n.
unfoldable pub agree_below : (ℕ → Bool) → (ℕ → Bool) → ℕ → Bool
agree_below f g zero = true
agree_below f g (suc n) = beq (f n) (g n) && agree_below f g n

-- A conjunction of an equality of tests and another test.
both_of : (x y rest : Bool) → (beq x y && rest) ≡ true → (x ≡ y) × (rest ≡ true)
both_of true true rest h = (refl, h)
both_of true false rest h = cc
both_of false true rest h = cc
both_of false false rest h = (refl, h)

-- Tests that agree below n agree at each number below n.
pub agree_at : (f g : ℕ → Bool) (n : ℕ) → agree_below f g n ≡ true → (b : ℕ) → b < n → f b ≡ g b
unfolding agree_below
agree_at f g zero h b lt = absurd (omega arith)
agree_at f g (suc n) h b lt =
    let both = both_of (f n) (g n) (agree_below f g n) h in
    elim (cases_eq b n) [
      | inl same ↦ rw same both.0
      | inr other ↦ agree_at f g n both.1 b
          (omega arith)
    ]

-- An entry of the table, from the computed test of all 256.
from_table : (table : List ℕ) (b : ℕ) → b < 256
    → agree_below (λ k. not (eqb (get_or table k 0) 44)) is_ident_cont 256 ≡ true
    → not (eqb (get_or table b 0) 44) ≡ is_ident_cont b
from_table table b lt h = agree_at _ _ 256 h b lt

-- The table is right.
pub ident_cont_table : HasIdentCont ID_CONT
unfolding agree_below
ident_cont_table = record { len = refl; each = λ b lt. from_table ID_CONT b lt refl }

-- The table of the bytes of psql's arguments is right.
pub argument_bytes : HasArgumentBytes ARGUMENT_BYTES
unfolding agree_below
argument_bytes = record {
  len = refl;
  blanks = λ b lt. agree_at (λ k. eqb (get_or ARGUMENT_BYTES k 0) 44) is_blank 256 refl b lt;
  quotes = λ b lt. agree_at (λ k. eqb (get_or ARGUMENT_BYTES k 0) 91) is_psql_quote 256 refl b lt;
  ends = λ b lt. agree_at (λ k. eqb (get_or ARGUMENT_BYTES k 0) 93) ends_arguments 256 refl b lt;
  skipped = λ b lt. agree_at (λ k. ltb (get_or ARGUMENT_BYTES k 0) 91)
      (λ k. not (is_psql_quote k || ends_arguments k)) 256 refl b lt;
}

-- What an entry of a table says, by a test t of it.
pub entry_is : (x k : ℕ) (t : Bool) → eqb x k ≡ t → x ≡ k → t ≡ true
entry_is x k t e same = sym e ∙ eq-eqb x k same

pub entry_not : (x k : ℕ) (t : Bool) → eqb x k ≡ t → (x ≡ k → ⊥) → t ≡ false
entry_not x k t e other = sym e ∙ ne_eqb x k other

-- An entry below 91 is that of a byte of which neither test holds, and any other is that of a byte
-- of which one does.
pub entry_below : (x : ℕ) (s t : Bool) → ltb x 91 ≡ not (s || t) → x < 91
    → (s ≡ false) × (t ≡ false)
entry_below x false false e h = (refl, refl)
entry_below x false true e h = absurd (grind (arith, nat_tests))
entry_below x true t e h = absurd (grind (arith, nat_tests))

pub entry_above : (x : ℕ) (s t : Bool) → ltb x 91 ≡ not (s || t) → 91 ≤ x → t ≡ false → s ≡ true
entry_above x true t e h other = refl
entry_above x false true e h other = absurd (cc)
entry_above x false false e h other = absurd (grind (arith, nat_tests))

-- ---- classes beyond ASCII

-- Each class of the cursor holds all characters beyond ASCII, or none.
uniform_whitespace : IsUniform (class_test Whitespace)
uniform_whitespace b c p q = grind (arith, nat_tests)

uniform_blank : IsUniform (class_test Blank)
uniform_blank b c p q = grind (arith, nat_tests)

uniform_id_cont : IsUniform (class_test IdentCont)
uniform_id_cont b c p q = grind (arith, nat_tests)

uniform_digit : IsUniform (class_test Digit)
uniform_digit b c p q = grind (arith, nat_tests)

uniform_line : IsUniform (class_test NotLineEnd)
uniform_line b c p q = grind (arith, nat_tests)

uniform_tag : IsUniform (class_test TagCont)
uniform_tag b c p q = grind (arith, nat_tests)

uniform_word : IsUniform (class_test CommandChar)
uniform_word b c p q = grind (arith, nat_tests)

pub uniform_class : (class : Class) → IsUniform (class_test class)
uniform_class Whitespace = uniform_whitespace
uniform_class Blank = uniform_blank
uniform_class IdentCont = uniform_id_cont
uniform_class Digit = uniform_digit
uniform_class NotLineEnd = uniform_line
uniform_class TagCont = uniform_tag
uniform_class CommandChar = uniform_word
