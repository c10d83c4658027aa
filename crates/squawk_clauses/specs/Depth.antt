-- The number of nodes that are open in a `SELECT` statement. For private functions.
use Rattle.std.specs.Prelude.{ℕ, suc, Bool, true, false}

-- the number of open groups, and one more if a clause is open
abbrev pub open_nodes : Bool → ℕ → ℕ
open_nodes true n = suc n
open_nodes false n = n
