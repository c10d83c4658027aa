-- Reading a source to its end.
use Rattle.std.specs.Prelude.{ℕ, ◌≢◌, ◌≤◌, ◌+◌, length, Vec, Result, Err, IfOk, OnOk, IfErr, ⊤}
use Rattle.std.specs.Io.KnownBytes.{IsAtEnd}
use Rattle.std.specs.declared.alloc.Global.{Global}
use Rattle.squawk_events.specs.declared.error.FrontError.TheVariants.{TooLong, OutOfMemory, BadRange}
use Rattle.squawk_show.specs.Edge.{SourceView, SourceFaultRose, Takes, TakesExactly, TakesAtMost}
use Rattle.squawk_show.specs.declared.error.RunError.{RunError}
use Rattle.squawk_show.specs.declared.error.RunError.TheVariants.{BadWords, ReadFault, NotUtf8, Front, BadScript, WriteFault}

-- the errors of reading at most `most` bytes, and when each comes
abbrev pub IsReadRefusal : ℕ → (old new : SourceView) → RunError → Type 0
IsReadRefusal most old new BadWords = ⊥
IsReadRefusal most old new ReadFault = SourceFaultRose old new
IsReadRefusal most old new (NotUtf8 at) = ⊥
IsReadRefusal most old new (Front TooLong) = TakesExactly old new (most + 1)
IsReadRefusal most old new (Front OutOfMemory) = ⊤
IsReadRefusal most old new (Front BadRange) = ⊥
IsReadRefusal most old new (BadScript at) = ⊥
IsReadRefusal most old new WriteFault = ⊥

-- a call that reads a source to its end, at most `most` bytes: what it returns, and its errors
pub record ReadsAll (most : ℕ) (old new : SourceView) (result : Result (Vec ℕ Global) RunError)
    : Type 0 where
  pub bytes : IfOk result (λ bytes. Takes old new bytes.items)
  pub end : OnOk result (IsAtEnd new.left)
  pub within : IfOk result (λ bytes. length bytes.items ≤ most)
  pub refusals : IfErr result (IsReadRefusal most old new)
  pub taken : result ≢ Err (Front TooLong) → TakesAtMost old new most
  pub later : old.faults ≤ new.faults
