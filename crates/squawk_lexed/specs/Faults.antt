-- The faults of a token, in the order of their numbers.
use Rattle.std.specs.Prelude.{ℕ, Bool, true, ◌==◌, ◌&&◌, not, nat_le, nat_lt, List, [], ◌∷◌, ◌++◌, Option, Some, None, if◌then◌else◌}
use Rattle.squawk_lexer.specs.declared.token.Token.{Token}
use Rattle.squawk_lexer.specs.declared.token.LiteralKind.{LiteralKind}
use Rattle.squawk_lexer.specs.declared.token.LiteralKind.TheVariants.{Int, Numeric, Str, NationalStr, ByteStr, BitStr, DollarQuotedString, UnicodeEscStr, EscStr}
use Rattle.squawk_lexer.specs.declared.token.TokenKind.{TokenKind}
use Rattle.squawk_lexer.specs.declared.token.TokenKind.TheVariants as token
use Rattle.squawk_lexed.specs.declared.fault.Fault.{Fault}

-- the fault with this number, from one offset up to another
abbrev pub fault : ℕ → ℕ → ℕ → Fault
fault number start end = record { number = number; start = start; end = end }

-- a fault if the test holds
abbrev pub fault_if : Bool → Fault → List Fault
fault_if test f = if test then f ∷ [] else []

-- the fault of an exponent without digits, from its letter up to the trailing junk
abbrev pub exponent_fault : Option ℕ → ℕ → List Fault
exponent_fault None junk = []
exponent_fault (Some start) junk = fault 6 start junk ∷ []

-- the faults of a literal of this length
abbrev pub literal_faults : LiteralKind → ℕ → List Fault
literal_faults (Int base empty_int junk) len =
    fault_if empty_int (fault 5 0 len) ++ fault_if (nat_lt junk len) (fault 7 junk len)
literal_faults (Numeric empty_exponent junk) len =
    exponent_fault empty_exponent junk ++ fault_if (nat_lt junk len) (fault 7 junk len)
literal_faults (Str terminated) len = fault_if (not terminated) (fault 3 0 len)
literal_faults (NationalStr terminated) len = fault_if (not terminated) (fault 3 0 len)
literal_faults (ByteStr terminated) len = fault_if (not terminated) (fault 3 0 len)
literal_faults (BitStr terminated) len = fault_if (not terminated) (fault 3 0 len)
literal_faults (DollarQuotedString terminated) len = fault_if (not terminated) (fault 3 0 len)
literal_faults (UnicodeEscStr terminated) len = fault_if (not terminated) (fault 3 0 len)
literal_faults (EscStr terminated) len = fault_if (not terminated) (fault 3 0 len)

-- the faults of a token of this kind and length
abbrev pub kind_faults : TokenKind → ℕ → List Fault
kind_faults token.Unknown len = fault 1 0 len ∷ []
kind_faults (token.BlockComment terminated) len = fault_if (not terminated) (fault 2 0 len)
kind_faults (token.Literal literal) len = literal_faults literal len
kind_faults (token.QuotedIdent terminated uescape) len = fault_if (not terminated) (fault 4 0 len)
kind_faults (token.PositionalParam junk) len =
    fault_if (junk == 1) (fault 8 0 1) ++ fault_if (nat_lt junk len) (fault 9 junk len)
kind_faults _ len = []

-- the faults of a token, by offsets from its start
abbrev pub faults : Token → List Fault
faults t = kind_faults t.kind t.len

-- at most two faults, as an array of two optional ones
abbrev pub fault_array : List Fault → List (Option Fault)
fault_array [] = None ∷ None ∷ []
fault_array (f ∷ []) = Some f ∷ None ∷ []
fault_array (f ∷ g ∷ fs) = Some f ∷ Some g ∷ []

-- whether the number of a fault is from 1 to 9, and the fault covers at least one byte of a token
-- of this length and none outside it
abbrev pub fault_within : ℕ → Fault → Bool
fault_within len f = nat_le 1 f.number && (nat_le f.number 9
    && (nat_lt f.start f.end && nat_le f.end len))

-- whether this holds of each fault
abbrev pub faults_within : ℕ → List Fault → Bool
faults_within len [] = true
faults_within len (f ∷ fs) = fault_within len f && faults_within len fs
