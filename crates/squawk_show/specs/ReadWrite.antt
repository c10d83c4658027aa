-- What contracts see of a source over a reader of std, and of a sink over a writer.
use Rattle.std.specs.Prelude.{ℕ, None}
use Rattle.squawk_show.specs.Edge.{SourceView, SinkView}

-- a source: the reader, and the count of faults
pub record ReaderState (R : Type 0) : Type 0 where
  pub reader : R
  pub faults : ℕ

-- it is not observable, and counts no reads
abbrev pub reader_view : {R : Type 0} → ReaderState R → SourceView
reader_view s = record { left = None; faults = s.faults; reads = 0 }

-- a sink: the writer, and the count of faults
pub record WriterState (W : Type 0) : Type 0 where
  pub writer : W
  pub faults : ℕ

-- it is not observable
abbrev pub writer_view : {W : Type 0} → WriterState W → SinkView
writer_view s = record { taken = None; faults = s.faults }
