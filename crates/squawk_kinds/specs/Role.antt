-- The role of a kind: what it is to the division into statements and to groups.
use Rattle.std.specs.Prelude.{ℕ, ◌==◌, ◌||◌, Bool, true, false, if◌then◌else◌}
use Rattle.squawk_kinds.specs.declared.numbers.TheConstants.Number as kind

pub data Role : Type 0 where
  -- white space, a leading byte order mark, a comment
  Trivia : Role
  -- `;`
  Semicolon : Role
  -- a psql command that ends the query before it: it sends, finishes or resets the query buffer
  Terminator : Role
  -- any other psql command
  Command : Role
  -- `(`, which begins a group
  Open : Role
  -- `)`, which ends a group
  Close : Role
  -- any other token
  Other : Role

-- the role of the kind with this number
unfoldable pub role : ℕ → Role
role k =
    if k == kind.WHITESPACE || k == kind.COMMENT then Trivia
    else if k == kind.SEMICOLON then Semicolon
    else if k == kind.PSQL_TERMINATOR_TEXT then Terminator
    else if k == kind.PSQL_COMMAND_TEXT then Command
    else if k == kind.L_PAREN then Open
    else if k == kind.R_PAREN then Close
    else Other

-- whether a token of this role is trivia
abbrev pub is_trivia : Role → Bool
is_trivia Trivia = true
is_trivia _ = false

-- whether a token of this role neither divides statements nor delimits a group, and is not trivia
abbrev pub is_other : Role → Bool
is_other Trivia = false
is_other Semicolon = false
is_other Terminator = false
is_other Command = false
is_other Open = false
is_other Close = false
is_other Other = true
