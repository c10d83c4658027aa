-- Where children of the root end, and which offsets are quiet.
use Rattle.std.specs.Prelude.{ℕ, ◌+◌, ◌==◌, ◌||◌, Bool, List, [], ◌∷◌, if◌then◌else◌}
use Rattle.squawk_cut.specs.ChildValue.{ChildValue}
use Rattle.squawk_document.specs.Boundaries.{is_among}

-- the end of each child, where the first begins at an offset
abbrev pub child_ends : ℕ → List ChildValue → List ℕ
child_ends at [] = []
child_ends at (c ∷ cs) = (at + c.bytes) ∷ child_ends (at + c.bytes) cs

-- the end of each child that no open child precedes, and that is not open itself
abbrev pub quiet_ends : ℕ → List ChildValue → List ℕ
quiet_ends at [] = []
quiet_ends at (c ∷ cs) = if c.closed then (at + c.bytes) ∷ quiet_ends (at + c.bytes) cs else []

-- whether an offset is quiet: it is 0 or the end of a child, and no open child ends at or before it
abbrev pub is_quiet : List ChildValue → ℕ → Bool
is_quiet cs p = p == 0 || is_among (quiet_ends 0 cs) p
