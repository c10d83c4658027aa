-- The longest text that the crates take.
use Rattle.std.specs.Prelude.{ℕ}

-- the largest number of bytes of a text: the last value of a `u32`
abbrev pub limit : ℕ
limit = 4294967295
