-- The faults of a token lie in it.
use Rattle.std.proofs.Common.{◌≡◌, ℕ, ◌<◌, ◌≤◌, Bool, true, false, not, List, [], ◌∷◌, ◌++◌, length, Option, Some, None, nat_lt, eqb, refl, sym, subst, arith}
use Rattle.std.proofs.lemmas.Bool.Decides.{nat_tests}
use Rattle.squawk_lexer.specs.declared.token.Token.{Token}
use Rattle.squawk_lexer.specs.declared.token.LiteralKind.{LiteralKind}
use Rattle.squawk_lexer.specs.declared.token.LiteralKind.TheVariants.{Int, Numeric, Str, NationalStr, ByteStr, BitStr, DollarQuotedString, UnicodeEscStr, EscStr}
use Rattle.squawk_lexer.specs.declared.token.TokenKind.{TokenKind}
use Rattle.squawk_lexer.specs.declared.token.TokenKind.TheVariants as token
use Rattle.squawk_lexer.specs.Flags.{FlagsWithin, LiteralFlagsWithin, FlagsLieWithin, IsCut, ExponentBefore}
use Rattle.squawk_lexed.specs.declared.fault.Fault.{Fault}
use Rattle.squawk_lexed.specs.Faults.{fault, fault_if, exponent_fault, literal_faults, kind_faults, faults, faults_within}

-- ---- the flags of a token that the lexer cut lie in it

pub record IsFlagged (t : Token) : Type 0 where
  pub some : 1 ≤ t.len
  pub flags : FlagsWithin t.kind t.len

-- by the law of the lexer
pub flagged : FlagsLieWithin → (t : Token) → IsCut t → IsFlagged t
flagged law t cut =
    let at = law cut.strings cut.at_start cut.text cut.some in
    subst IsFlagged (sym cut.same) (record { some = at.0; flags = at.1 })

-- ---- its faults, from one to those of each kind of token

-- at most n faults, within a length
record Good (n len : ℕ) (fs : List Fault) : Type 0 where
  few : length fs ≤ n
  within : faults_within len fs ≡ true

-- one fault, none, a fault under a test, those of two such lists, and a bound that is raised
one_good : (number start end len : ℕ) → 1 ≤ number → number ≤ 9 → start < end → end ≤ len
    → Good 1 len (fault number start end ∷ [])
one_good number start end len p q r s = record {
  few = omega arith;
  within =
      grind (arith, nat_tests);
}

none_good : (n len : ℕ) → Good n len []
none_good n len = record { few = omega arith; within = refl }

row_good : (test : Bool) (number start end len : ℕ) → 1 ≤ number → number ≤ 9
    → (test ≡ true → (start < end) × (end ≤ len))
    → Good 1 len (fault_if test (fault number start end))
row_good true number start end len p q h = one_good number start end len p q (h refl).0 (h refl).1
row_good false number start end len p q h = none_good 1 len

both_good : (len : ℕ) (fs gs : List Fault) → Good 1 len fs → Good 1 len gs → Good 2 len (fs ++ gs)
both_good len [] gs p q = record { few = omega (arith, q.few); within = q.within }
both_good len (f ∷ []) gs p q = record { few = omega (arith, q.few); within = rw q.within p.within }
both_good len (f ∷ g ∷ fs) gs p q = absurd (omega (arith, p.few))

more_good : (len : ℕ) (fs : List Fault) → Good 1 len fs → Good 2 len fs
more_good len fs p = record { few = omega (arith, p.few); within = p.within }

-- a fault of the whole token, of its trailing junk, and of an exponent
whole_good : (test : Bool) (number len : ℕ) → 1 ≤ number → number ≤ 9 → 1 ≤ len
    → Good 2 len (fault_if test (fault number 0 len))
whole_good test number len p q some =
    more_good len _ (row_good test number 0 len len p q (λ t. (omega arith, omega arith)))

junk_good : (number junk len : ℕ) → 1 ≤ number → number ≤ 9
    → Good 1 len (fault_if (nat_lt junk len) (fault number junk len))
junk_good number junk len p q = row_good (nat_lt junk len) number junk len len p q (λ t.
    (grind (arith, nat_tests), omega arith))

exponent_good : (start : Option ℕ) (junk len : ℕ) → ExponentBefore start junk → junk ≤ len
    → Good 1 len (exponent_fault start junk)
exponent_good None junk len h le = none_good 1 len
exponent_good (Some start) junk len h le =
    one_good 6 start junk len (omega arith) (omega arith) h le

-- those of a literal, and of each kind of token
literal_good : (kind : LiteralKind) (len : ℕ) → 1 ≤ len → LiteralFlagsWithin kind len
    → Good 2 len (literal_faults kind len)
literal_good (Int base empty junk) len some flags =
    both_good len _ _ (row_good empty 5 0 len len (omega arith) (omega arith) (λ t.
    (omega arith, omega arith))) (junk_good 7 junk len (omega arith) (omega arith))
literal_good (Numeric start junk) len some flags =
    both_good len _ _ (exponent_good start junk len flags.0 flags.1.1)
    (junk_good 7 junk len (omega arith) (omega arith))
literal_good (Str terminated) len some flags =
    whole_good (not terminated) 3 len (omega arith) (omega arith) some
literal_good (NationalStr terminated) len some flags =
    whole_good (not terminated) 3 len (omega arith) (omega arith) some
literal_good (ByteStr terminated) len some flags =
    whole_good (not terminated) 3 len (omega arith) (omega arith) some
literal_good (BitStr terminated) len some flags =
    whole_good (not terminated) 3 len (omega arith) (omega arith) some
literal_good (DollarQuotedString terminated) len some flags =
    whole_good (not terminated) 3 len (omega arith) (omega arith) some
literal_good (UnicodeEscStr terminated) len some flags =
    whole_good (not terminated) 3 len (omega arith) (omega arith) some
literal_good (EscStr terminated) len some flags =
    whole_good (not terminated) 3 len (omega arith) (omega arith) some

kind_good : (kind : TokenKind) (len : ℕ) → 1 ≤ len → FlagsWithin kind len
    → Good 2 len (kind_faults kind len)
kind_good token.Unknown len some flags =
    more_good len _ (one_good 1 0 len len (omega arith) (omega arith) (omega arith) (omega arith))
kind_good (token.BlockComment terminated) len some flags =
    whole_good (not terminated) 2 len (omega arith) (omega arith) some
kind_good (token.Literal literal) len some flags = literal_good literal len some flags
kind_good (token.QuotedIdent terminated uescape) len some flags =
    whole_good (not terminated) 4 len (omega arith) (omega arith) some
kind_good (token.PositionalParam junk) len some flags =
    both_good len _ _ (row_good (eqb junk 1) 8 0 1 len (omega arith) (omega arith) (λ t.
    (omega arith, omega arith))) (junk_good 9 junk len (omega arith) (omega arith))
kind_good (token.PsqlCommand ends) len some flags = none_good 2 len
kind_good token.Whitespace len some flags = none_good 2 len
kind_good token.Ident len some flags = none_good 2 len
kind_good token.Semi len some flags = none_good 2 len
kind_good token.Eof len some flags = none_good 2 len
kind_good token.Slash len some flags = none_good 2 len
kind_good token.LineComment len some flags = none_good 2 len
kind_good token.Minus len some flags = none_good 2 len
kind_good token.Colon len some flags = none_good 2 len
kind_good token.Dot len some flags = none_good 2 len
kind_good token.DotDot len some flags = none_good 2 len
kind_good token.Eq len some flags = none_good 2 len
kind_good token.Gt len some flags = none_good 2 len
kind_good token.And len some flags = none_good 2 len
kind_good token.Lt len some flags = none_good 2 len
kind_good token.Bang len some flags = none_good 2 len
kind_good token.Plus len some flags = none_good 2 len
kind_good token.Tilde len some flags = none_good 2 len
kind_good token.Pound len some flags = none_good 2 len
kind_good token.Question len some flags = none_good 2 len
kind_good token.Or len some flags = none_good 2 len
kind_good token.Percent len some flags = none_good 2 len
kind_good token.Caret len some flags = none_good 2 len
kind_good token.Star len some flags = none_good 2 len
kind_good token.Backtick len some flags = none_good 2 len
kind_good token.At len some flags = none_good 2 len
kind_good token.CloseBracket len some flags = none_good 2 len
kind_good token.OpenBracket len some flags = none_good 2 len
kind_good token.CloseCurly len some flags = none_good 2 len
kind_good token.OpenCurly len some flags = none_good 2 len
kind_good token.CloseParen len some flags = none_good 2 len
kind_good token.OpenParen len some flags = none_good 2 len
kind_good token.Comma len some flags = none_good 2 len

-- a token that the lexer cut has at most two faults, and they lie in it
pub few_faults : FlagsLieWithin → (t : Token) → IsCut t → length (faults t) ≤ 2
few_faults law t cut = let is = flagged law t cut in (kind_good t.kind t.len is.some is.flags).few

pub faults_lie_within : FlagsLieWithin → (t : Token) → IsCut t
    → faults_within t.len (faults t) ≡ true
faults_lie_within law t cut = let is = flagged law t cut in
    (kind_good t.kind t.len is.some is.flags).within
