-- Optional faults as lists. For private functions.
use Rattle.std.specs.Prelude.{ℕ, ◌<◌, ◌≤◌, List, [], ◌∷◌, ◌++◌, Option, Some, None}
use Rattle.squawk_lexed.specs.declared.fault.Fault.{Fault}

-- a fault or none, as a list
abbrev pub list_of : Option Fault → List Fault
list_of None = []
list_of (Some f) = f ∷ []

-- the faults that there are of both
abbrev pub both_faults : Option Fault → Option Fault → List Fault
both_faults first second = list_of first ++ list_of second

-- the fault lies in a token of this length
pub record IsFaultIn (len : ℕ) (f : Fault) : Type 0 where
  pub first_number : 1 ≤ f.number
  pub last_number : f.number ≤ 9
  pub some : f.start < f.end
  pub within : f.end ≤ len
