-- Worked examples of tokens that begin with `$`, computed by their definition. Each name says what
-- the text shows.
use Rattle.std.proofs.Common.{◌≡◌, ℕ, Bool, true, false, refl, codes}
use Rattle.squawk_lexer.specs.Kind.{Lexeme, lexeme_until, literal_until}
use Rattle.squawk_lexer.specs.declared.token.TokenKind.TheVariants.{PositionalParam}
use Rattle.squawk_lexer.specs.declared.token.LiteralKind.TheVariants.{DollarQuotedString}
use Rattle.squawk_lexer.specs.Dollar.{dollar}

-- A dollar-quoted string, by whether it is terminated and where it ends.
string : Bool → ℕ → Lexeme
string terminated end = literal_until (DollarQuotedString terminated) end

two_delimiters : dollar (codes "$$$$") ≡ string true 4
unfolding string
two_delimiters = refl

no_text : dollar (codes "$$") ≡ string false 2
unfolding string
no_text = refl

shared : dollar (codes "$a$a$") ≡ string false 5
unfolding string
shared = refl

closed : dollar (codes "$a$b$a$;") ≡ string true 7
unfolding string
closed = refl

other_tags : dollar (codes "$foo$hello$world$bar$") ≡ string false 21
unfolding string
other_tags = refl

longer_tag : dollar (codes "$a$ $ab$ $a $a$ x") ≡ string true 15
unfolding string
longer_tag = refl

digit_after : dollar (codes "$1$") ≡ lexeme_until (PositionalParam 2) 2
digit_after = refl

junk_after : dollar (codes "$x;") ≡ lexeme_until (PositionalParam 1) 2
junk_after = refl

lone : dollar (codes "$") ≡ lexeme_until (PositionalParam 1) 1
lone = refl

digits_and_junk : dollar (codes "$12a$b c") ≡ lexeme_until (PositionalParam 3) 6
digits_and_junk = refl
