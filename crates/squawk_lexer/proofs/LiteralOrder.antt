-- The order of bases and of the kinds of literals is that of their keys.
use Rattle.std.proofs.Common.{◌≡◌, ℕ, Bool, true, false, refl, ap, ◌∙◌, [], ◌∷◌, Option, None, Some, Equal}
use Rattle.std.specs.declared.cmp.Ordering.{Ordering}
use Rattle.std.specs.declared.cmp.Ordering.TheVariants as orderings
use Rattle.std.specs.Ordering.{nat_cmp, bool_cmp, ordering_then}
use Rattle.std.specs.Option.{option_cmp}
use Rattle.std.specs.Cmp.Lexicographic.{slice_cmp}
use Rattle.squawk_lexer.specs.Order.{base_value, flag_key, offset_key, literal_cmp}
use Rattle.squawk_lexer.specs.declared.token.Base.{Base}
use Rattle.squawk_lexer.specs.declared.token.Base.TheVariants.{Binary, Octal, Decimal, Hexadecimal}
use Rattle.squawk_lexer.specs.declared.token.LiteralKind.{LiteralKind}
use Rattle.squawk_lexer.specs.declared.token.LiteralKind.TheVariants as literals
use Rattle.squawk_lexer.specs.contracts.token.BaseOrd.TheImpl as base_ord
use Rattle.squawk_lexer.specs.contracts.token.LiteralKindOrd.TheImpl as literal_ord

-- `Equal` after an order does not change it.
then_equal : (o : Ordering) → o ≡ ordering_then o Equal
then_equal orderings.Less = refl
then_equal orderings.Equal = refl
then_equal orderings.Greater = refl

-- Bases are ordered by their numbers.
base_order : (a b : Base) → base_ord.ghosts.cmp a b ≡ nat_cmp (base_value a) (base_value b)
base_order Binary Binary = refl
base_order Octal Octal = refl
base_order Decimal Decimal = refl
base_order Hexadecimal Hexadecimal = refl
base_order a b = refl

-- Flags are ordered by their keys.
bool_order : (a b : Bool) → bool_cmp a b ≡ nat_cmp (flag_key a) (flag_key b)
bool_order false false = refl
bool_order false true = refl
bool_order true false = refl
bool_order true true = refl

-- The order within one variant, by its fields.
flag_order : (t t2 : Bool) → bool_cmp t t2
    ≡ slice_cmp nat_cmp (flag_key t ∷ []) (flag_key t2 ∷ [])
flag_order t t2 = bool_order t t2 ∙ then_equal _

-- The order of integers, by base, flag and offset.
int_order : (b b2 : Base) (e e2 : Bool) (j j2 : ℕ)
    → ordering_then (base_ord.ghosts.cmp b b2) (ordering_then (bool_cmp e e2) (nat_cmp j j2))
    ≡ slice_cmp nat_cmp (base_value b ∷ flag_key e ∷ j ∷ [])
    (base_value b2 ∷ flag_key e2 ∷ j2 ∷ [])
int_order b b2 e e2 j j2 =
    ap (λ o. ordering_then o (ordering_then (bool_cmp e e2) (nat_cmp j j2))) (base_order b b2)
    ∙ ap (λ o. ordering_then (nat_cmp (base_value b) (base_value b2))
    (ordering_then o (nat_cmp j j2))) (bool_order e e2)
    ∙ ap (λ o. ordering_then (nat_cmp (base_value b) (base_value b2))
    (ordering_then (nat_cmp (flag_key e) (flag_key e2)) o)) (then_equal (nat_cmp j j2))

-- The order of numbers with a point or an exponent, by both offsets.
numeric_order : (x x2 : Option ℕ) (j j2 : ℕ)
    → ordering_then (option_cmp nat_cmp x x2) (nat_cmp j j2)
    ≡ slice_cmp nat_cmp (offset_key x (j ∷ [])) (offset_key x2 (j2 ∷ []))
numeric_order None None j j2 = then_equal (nat_cmp j j2)
numeric_order None (Some n) j j2 = refl
numeric_order (Some m) None j j2 = refl
numeric_order (Some m) (Some n) j j2 =
    ap (ordering_then (nat_cmp m n)) (then_equal (nat_cmp j j2))

-- Kinds of literals are ordered by their keys.
pub literal_order : (a b : LiteralKind)
    → literal_ord.ghosts.cmp a b ≡ literal_cmp a b
literal_order (literals.Int b e j) (literals.Int b2 e2 j2) = int_order b b2 e e2 j j2
literal_order (literals.Numeric x j) (literals.Numeric x2 j2) = numeric_order x x2 j j2
literal_order (literals.Str t) (literals.Str t2) = flag_order t t2
literal_order (literals.NationalStr t) (literals.NationalStr t2) = flag_order t t2
literal_order (literals.ByteStr t) (literals.ByteStr t2) = flag_order t t2
literal_order (literals.BitStr t) (literals.BitStr t2) = flag_order t t2
literal_order (literals.DollarQuotedString t) (literals.DollarQuotedString t2) = flag_order t t2
literal_order (literals.UnicodeEscStr t) (literals.UnicodeEscStr t2) = flag_order t t2
literal_order (literals.EscStr t) (literals.EscStr t2) = flag_order t t2
literal_order a b = refl
