-- The errors that calls of the front end may return, by cases over all errors.
use Rattle.std.specs.Prelude.{ℕ, ⊤, ◌<◌, List, length}
use Rattle.squawk_events.specs.Limit.{limit}
use Rattle.squawk_events.specs.declared.error.FrontError.{FrontError}
use Rattle.squawk_events.specs.declared.error.FrontError.TheVariants.{TooLong, OutOfMemory, BadRange}

-- a call that fails only if memory runs out
abbrev pub IsOutOfMemory : FrontError → Type 0
IsOutOfMemory TooLong = ⊥
IsOutOfMemory OutOfMemory = ⊤
IsOutOfMemory BadRange = ⊥

-- a call that reads or writes a text of these bytes, and also fails if it is too long
abbrev pub MayRefuse : List ℕ → FrontError → Type 0
MayRefuse text TooLong = limit < length text
MayRefuse text OutOfMemory = ⊤
MayRefuse text BadRange = ⊥
