-- Worked rows: the definitions by computation.
use Rattle.std.proofs.Common.{◌≡◌, false, [], ◌∷◌, refl, Some}
use Rattle.squawk_events.specs.Kinds.{is_trivia_kind}
use Rattle.squawk_events.specs.declared.steps.Step.TheVariants.{Enter, Token, Exit, Error}
use Rattle.squawk_kinds.specs.declared.numbers.TheConstants.Number as kind
use Rattle.squawk_statements.specs.First.{first_shape}
use Rattle.squawk_kinds.specs.Role.{role}
use Rattle.squawk_statements.specs.Opening.{opening_of, rows, other_rows, create_rows, alter_rows, drop_rows, is_modifier, modifiers}
use Rattle.squawk_statements.specs.Plain.{plain}
use Rattle.squawk_statements.specs.declared.division.Division.TheVariants.{Flat, Grouped}

-- `foo (a;b`
semicolon_in_group : plain Flat (kind.IDENT ∷ kind.L_PAREN ∷ kind.IDENT ∷ kind.SEMICOLON
    ∷ kind.IDENT ∷ []) ≡
    Enter kind.SOURCE_FILE ∷ Enter kind.ERROR ∷ Error 10 ∷ Token kind.IDENT ∷ Enter kind.PAREN_EXPR
    ∷ Token kind.L_PAREN ∷ Token kind.IDENT ∷ Exit ∷ Token kind.SEMICOLON ∷ Exit
    ∷ Enter kind.ERROR ∷ Error 10 ∷ Token kind.IDENT ∷ Exit ∷ Exit ∷ []
unfolding role opening_of rows other_rows create_rows alter_rows drop_rows
semicolon_in_group = refl

-- `(a)) ;`
paren_select : plain Flat (kind.L_PAREN ∷ kind.IDENT ∷ kind.R_PAREN ∷ kind.R_PAREN ∷ kind.SEMICOLON
    ∷ []) ≡
    Enter kind.SOURCE_FILE ∷ Enter kind.PAREN_SELECT ∷ Enter kind.PAREN_EXPR ∷ Token kind.L_PAREN
    ∷ Token kind.IDENT ∷ Token kind.R_PAREN ∷ Exit ∷ Token kind.R_PAREN ∷ Token kind.SEMICOLON
    ∷ Exit ∷ Exit ∷ []
unfolding role opening_of rows other_rows create_rows alter_rows drop_rows
paren_select = refl

-- `(a;\g`, grouped and flat
grouped : plain Grouped (kind.L_PAREN ∷ kind.IDENT ∷ kind.SEMICOLON ∷ kind.PSQL_TERMINATOR_TEXT
    ∷ []) ≡
    Enter kind.SOURCE_FILE ∷ Enter kind.PAREN_SELECT ∷ Enter kind.PAREN_EXPR ∷ Token kind.L_PAREN
    ∷ Token kind.IDENT ∷ Token kind.SEMICOLON ∷ Exit ∷ Token kind.PSQL_TERMINATOR_TEXT ∷ Exit
    ∷ Exit ∷ []
unfolding role opening_of rows other_rows create_rows alter_rows drop_rows
grouped = refl

flat : plain Flat (kind.L_PAREN ∷ kind.IDENT ∷ kind.SEMICOLON ∷ kind.PSQL_TERMINATOR_TEXT ∷ []) ≡
    Enter kind.SOURCE_FILE ∷ Enter kind.PAREN_SELECT ∷ Enter kind.PAREN_EXPR ∷ Token kind.L_PAREN
    ∷ Token kind.IDENT ∷ Exit ∷ Token kind.SEMICOLON ∷ Exit
    ∷ Enter kind.PSQL_COMMAND ∷ Token kind.PSQL_TERMINATOR_TEXT ∷ Exit ∷ Exit ∷ []
unfolding role opening_of rows other_rows create_rows alter_rows drop_rows
flat = refl

-- `create unique /**/ index ` with a space at its end
create_index : first_shape Flat (kind.CREATE_KW ∷ kind.WHITESPACE ∷ kind.UNIQUE_KW ∷ kind.COMMENT
    ∷ kind.INDEX_KW ∷ kind.WHITESPACE ∷ []) ≡ record {
      tokens = 5;
      node =
          Some kind.CREATE_INDEX;
      closed = false;
    }
unfolding role is_trivia_kind opening_of rows other_rows create_rows alter_rows drop_rows
    is_modifier modifiers
create_index = refl

longest_row : opening_of (kind.SET_KW ∷ kind.SESSION_KW ∷ kind.AUTHORIZATION_KW ∷ [])
    ≡ Some kind.SET_SESSION_AUTH
unfolding opening_of rows other_rows create_rows alter_rows drop_rows
longest_row = refl

shorter_row : opening_of (kind.SET_KW ∷ kind.SESSION_KW ∷ []) ≡ Some kind.SET
unfolding opening_of rows other_rows create_rows alter_rows drop_rows
shorter_row = refl
