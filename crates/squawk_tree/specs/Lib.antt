-- what public contracts cite
pub mod Steps
pub mod Ranges
pub mod Tree
pub mod ChildSpans
pub mod Taken
pub mod Errors
pub mod ParseOf
pub mod ChildGrammar
pub mod Join
pub mod Children
pub mod Parses
pub mod Built
pub mod ChildSteps
-- what contracts of private functions and invariants cite
pub mod NodeRanges
pub mod StepRangesModel
pub mod Spans
pub mod Walk
-- the proof that the plain grammar is one: the law of a trait cites definitions alone
pub mod PlainChildren
-- what the contracts of tests cite
pub mod UngroupedGrammar
