use Rattle.std.proofs.Common.{◌≡◌, ◌≤◌, ◌-◌, ◌+◌, length}
use Rattle.std.specs.Io.KnownBytes.{Consumes}
use Rattle.squawk_show.proofs.reading.read_by_chunks.Given as goal

-- what was taken is kept, within the limit, at least a byte at each read, and no fault came
abbrev pub invariant-loop-count : goal.invariant-loop-count
invariant-loop-count g l = record {
  taken : Consumes (g.S.Source.view l.initial.source).left (g.S.Source.view l.source).left
      l.bytes.items;
  progress : (g.S.Source.view l.source).reads
      ≤ (g.S.Source.view l.initial.source).reads + length l.bytes.items;
  within : length l.bytes.items ≤ l.limit;
  later : (g.S.Source.view l.initial.source).faults ≤ (g.S.Source.view l.source).faults;
  room : length l.chunk ≡ length l.initial.chunk;
}

abbrev pub decreases-loop-count : goal.decreases-loop-count
decreases-loop-count g l = l.limit + 1 - length l.bytes.items
