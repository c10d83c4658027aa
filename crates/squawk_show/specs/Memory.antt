-- What contracts see of a source and a sink in memory, and what one call does to them.
use Rattle.std.specs.Prelude.{ℕ, ◌-◌, min, List, [], ◌++◌, length, take, drop, Some}
use Rattle.squawk_cut.specs.Tells.{next_count}
use Rattle.squawk_show.specs.Edge.{SourceView, SinkView}

-- a source: the bytes left, the most bytes of a call, the numbers of the calls that fail, and the
-- counts of calls and of faults
pub record SourceState : Type 0 where
  pub left : List ℕ
  pub largest : ℕ
  pub failing : List ℕ
  pub calls : ℕ
  pub faults : ℕ

-- a source of some bytes as it is made
abbrev pub new_source : List ℕ → ℕ → List ℕ → SourceState
new_source bytes largest failing = record {
  left = bytes;
  largest = largest;
  failing = failing;
  calls = 0;
  faults = 0;
}

-- its bytes are observable, and it counts its reads
abbrev pub source_view : SourceState → SourceView
source_view s = record { left = Some s.left; faults = s.faults; reads = s.calls }

-- the number of bytes that a read into a buffer of this length returns
abbrev pub read_len : SourceState → ℕ → ℕ
read_len s room = min (min s.largest room) (length s.left)

-- the source after a read of n bytes
abbrev pub after_read : ℕ → SourceState → SourceState
after_read n s = record s { left = drop n s.left; calls = next_count s.calls }

-- the source after a read that failed
abbrev pub after_failed_read : SourceState → SourceState
after_failed_read s = record s { calls = next_count s.calls; faults = next_count s.faults }

-- a sink: the bytes taken, the room left, the most bytes of a call, the numbers of the calls that
-- fail, and the counts of calls and of faults
pub record SinkState : Type 0 where
  pub taken : List ℕ
  pub room : ℕ
  pub largest : ℕ
  pub failing : List ℕ
  pub calls : ℕ
  pub faults : ℕ

-- an empty sink as it is made
abbrev pub new_sink : (room largest : ℕ) → List ℕ → SinkState
new_sink room largest failing = record {
  taken = [];
  room = room;
  largest = largest;
  failing = failing;
  calls = 0;
  faults = 0;
}

-- its bytes are observable
abbrev pub sink_view : SinkState → SinkView
sink_view s = record { taken = Some s.taken; faults = s.faults }

-- the number of bytes of a piece that a write takes
abbrev pub write_len : SinkState → List ℕ → ℕ
write_len s piece = min (min s.largest (length piece)) s.room

-- the sink after a write of the first n bytes of a piece
abbrev pub after_write : ℕ → List ℕ → SinkState → SinkState
after_write n piece s =
    record s { taken = s.taken ++ take n piece; room = s.room - n; calls = next_count s.calls }

-- the sink after a write that failed
abbrev pub after_failed_write : SinkState → SinkState
after_failed_write s = record s { calls = next_count s.calls; faults = next_count s.faults }
