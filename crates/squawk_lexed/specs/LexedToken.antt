-- A token as a parser reads it.
use Rattle.std.specs.Prelude.{ℕ, List}
use Rattle.squawk_kinds.specs.Role.{Role, role}
use Rattle.squawk_lexed.specs.declared.fault.Fault.{Fault}

-- its leaf kind, its length in bytes, and its faults by offsets from its start
pub record LexedToken : Type 0 where
  pub kind : ℕ
  pub len : ℕ
  pub faults : List Fault

-- the role of a token in the division into statements
abbrev pub lexed_role : LexedToken → Role
lexed_role t = role t.kind
