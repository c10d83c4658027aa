-- An output while it is written.
use Rattle.std.specs.Prelude.{ℕ, ◌≡◌, ◌≤◌, List, ◌++◌, length}
use Rattle.squawk_show.specs.Edge.{SinkView, AppendsAll}

-- the size of a block in bytes
abbrev pub block_len : ℕ
block_len = 65536

-- the most bytes that are appended to a block for one line
abbrev pub line_room : ℕ
line_room = 128

-- the first n bytes of the memory of a block are those that it holds
pub record HasRoom (n : ℕ) (memory : List ℕ) : Type 0 where
  pub within : n ≤ block_len
  pub size : length memory ≡ block_len

-- a sink took all of a text but its end
pub record TakesAllBut (old new : SinkView) (text end : List ℕ) : Type 0 where
  pub taken : List ℕ
  pub appends : AppendsAll old new taken
  pub whole : taken ++ end ≡ text
