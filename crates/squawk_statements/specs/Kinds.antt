-- The roles of kinds.
use Rattle.std.specs.Prelude.{◌≡◌, ℕ, ◌==◌, ◌||◌, Bool, true, false, refl, if◌then◌else◌}
use Rattle.squawk_events.specs.Kinds.{is_trivia_kind}
use Rattle.squawk_kinds.specs.declared.numbers.TheConstants.Number as kind
use Rattle.squawk_kinds.specs.Role.{role, is_trivia, Trivia, Semicolon, Terminator, Command, Open, Close, Other}

-- a kind is trivia where its role is
pub role_trivia : (k : ℕ) → is_trivia (role k) ≡ is_trivia_kind k
unfolding role is_trivia_kind
role_trivia k =
    by (k == kind.WHITESPACE || k == kind.COMMENT) (k == kind.SEMICOLON)
    (k == kind.PSQL_TERMINATOR_TEXT) (k == kind.PSQL_COMMAND_TEXT) (k == kind.L_PAREN)
    (k == kind.R_PAREN)
  where
    by : (t a b c d e : Bool)
        → is_trivia (if t then Trivia else if a then Semicolon else if b then Terminator
        else if c then Command else if d then Open else if e then Close else Other) ≡ t
    by true a b c d e = refl
    by false true b c d e = refl
    by false false true c d e = refl
    by false false false true d e = refl
    by false false false false true e = refl
    by false false false false false true = refl
    by false false false false false false = refl
