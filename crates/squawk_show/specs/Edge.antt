-- What contracts see of a source and of a sink, and what calls do to them.
use Rattle.std.specs.Prelude.{ℕ, ◌≡◌, ◌+◌, ◌≤◌, List, take, length, Option, Result, OnErr}
use Rattle.std.specs.Io.KnownBytes.{Consumes, Appends}
use Rattle.squawk_cut.specs.Tells.{next_count}

-- a source: the bytes left, where it is observable, its count of faults, and a count that a read
-- raises by at most one
pub record SourceView : Type 0 where
  pub left : Option (List ℕ)
  pub faults : ℕ
  pub reads : ℕ

-- a sink: the bytes taken, where it is observable, and its count of faults
pub record SinkView : Type 0 where
  pub taken : Option (List ℕ)
  pub faults : ℕ

-- a count of faults rose, or is at the largest `u64`
abbrev pub FaultRose : (old new : ℕ) → Type 0
FaultRose old new = next_count old ≤ new

abbrev pub SourceFaultRose : (old new : SourceView) → Type 0
SourceFaultRose old new = FaultRose old.faults new.faults

abbrev pub SinkFaultRose : (old new : SinkView) → Type 0
SinkFaultRose old new = FaultRose old.faults new.faults

-- a count of faults does not fall in a call; if the call fails, it rises or is at the largest `u64`
pub record HasCause {T E : Type 0} (old new : ℕ) (result : Result T E) : Type 0 where
  pub later : old ≤ new
  pub failed : OnErr result (FaultRose old new)

-- a source was read: these bytes were taken, by at most one read more than there are bytes
pub record Takes (old new : SourceView) (bytes : List ℕ) : Type 0 where
  pub consumed : Consumes old.left new.left bytes
  pub progress : new.reads ≤ old.reads + length bytes + 1

-- exactly n bytes were taken
abbrev pub TakesExactly : (old new : SourceView) → ℕ → Type 0
TakesExactly old new n = (bytes : List ℕ) × Takes old new bytes × (length bytes ≡ n)

-- at most n bytes were taken
abbrev pub TakesAtMost : (old new : SourceView) → ℕ → Type 0
TakesAtMost old new n = (bytes : List ℕ) × Takes old new bytes × (length bytes ≤ n)

-- a sink took exactly a text
abbrev pub AppendsAll : (old new : SinkView) → List ℕ → Type 0
AppendsAll old new text = Appends old.taken new.taken text

-- a sink took a prefix of a text
abbrev pub AppendsPrefix : (old new : SinkView) → List ℕ → Type 0
AppendsPrefix old new text = (n : ℕ) × (n ≤ length text) × AppendsAll old new (take n text)
