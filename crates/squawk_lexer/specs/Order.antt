-- The numbers of bases, and the order of bases and of the kinds of literals.
use Rattle.std.specs.Prelude.{ℕ, Bool, true, false, List, [], ◌∷◌, Option, Some, None}
use Rattle.std.specs.declared.cmp.Ordering.{Ordering}
use Rattle.std.specs.Ordering.{nat_cmp}
use Rattle.std.specs.Cmp.Lexicographic.{slice_cmp}
use Rattle.squawk_lexer.specs.declared.token.Base.{Base}
use Rattle.squawk_lexer.specs.declared.token.Base.TheVariants.{Binary, Octal, Decimal, Hexadecimal}
use Rattle.squawk_lexer.specs.declared.token.LiteralKind.{LiteralKind}
use Rattle.squawk_lexer.specs.declared.token.LiteralKind.TheVariants as literals

-- The number of a base.
abbrev pub base_value : Base → ℕ
base_value Binary = 2
base_value Octal = 8
base_value Decimal = 10
base_value Hexadecimal = 16

-- The key of a flag: `false` comes before `true`.
abbrev pub flag_key : Bool → ℕ
flag_key false = 0
flag_key true = 1

-- The key of an offset that may be absent, and the rest of the key. `None` comes before any offset.
abbrev pub offset_key : Option ℕ → List ℕ → List ℕ
offset_key None rest = 0 ∷ rest
offset_key (Some n) rest = 1 ∷ n ∷ rest

-- The key of a kind of literal: the index of its variant, and then its fields.
abbrev pub literal_key : LiteralKind → List ℕ
literal_key (literals.Int base empty junk) = 0 ∷ base_value base ∷ flag_key empty ∷ junk ∷ []
literal_key (literals.Numeric exponent junk) = 1 ∷ offset_key exponent (junk ∷ [])
literal_key (literals.Str terminated) = 2 ∷ flag_key terminated ∷ []
literal_key (literals.NationalStr terminated) = 3 ∷ flag_key terminated ∷ []
literal_key (literals.ByteStr terminated) = 4 ∷ flag_key terminated ∷ []
literal_key (literals.BitStr terminated) = 5 ∷ flag_key terminated ∷ []
literal_key (literals.DollarQuotedString terminated) = 6 ∷ flag_key terminated ∷ []
literal_key (literals.UnicodeEscStr terminated) = 7 ∷ flag_key terminated ∷ []
literal_key (literals.EscStr terminated) = 8 ∷ flag_key terminated ∷ []

-- Kinds of literals are ordered by their keys, which are compared from first to last.
abbrev pub literal_cmp : LiteralKind → LiteralKind → Ordering
literal_cmp a b = slice_cmp nat_cmp (literal_key a) (literal_key b)
